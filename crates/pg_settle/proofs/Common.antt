-- What the proofs of this crate name of std and of the crates below.
pub use Rattle.pg_settle.specs.Prelude.{AreClassClaims, Bytes, Cert, Changes, Claim, Class}
pub use Rattle.pg_settle.specs.Prelude.{ConsoleTold, Contains, DeclinesGame, Delivers}
pub use Rattle.pg_settle.specs.Prelude.{DifferInPosition}
pub use Rattle.pg_settle.specs.Prelude.{Does, Done, End, Ends, Entry, Failed, FilesTold, Finished}
pub use Rattle.pg_settle.specs.Prelude.{Game, Goal, Halt, HaveDifferentPositions, Holding}
pub use Rattle.pg_settle.specs.Prelude.{IsFileOf, IsSaidBy, IsValid, IsWithinLimits, Kind}
pub use Rattle.pg_settle.specs.Prelude.{MAX_NODES, Refused}
pub use Rattle.pg_settle.specs.Prelude.{Said, SaysGame, Score, Shows, Side, Starved, UNKNOWN, X, Y}
pub use Rattle.pg_settle.specs.Prelude.{draws, due_for_value, ending, expanded_text}
pub use Rattle.pg_settle.specs.Prelude.{game_held, heading, message_text, node_count}
pub use Rattle.pg_settle.specs.Prelude.{printed_certificate, result_text}
pub use Rattle.pg_settle.specs.Prelude.{start, value}
pub use Rattle.pg_settle.specs.Prelude.{wins}
pub use Rattle.pg_base.specs.declared.score.Score.TheVariants.{Draw, XWins, YWins}
pub use Rattle.pg_cert.specs.Node.{position_of}
pub use Rattle.pg_cert.specs.declared.node.Node.{Node}
pub use Rattle.pg_game.specs.Game.{with_turn}
pub use Rattle.pg_game.specs.PositionLemmas.{equal_positions, equal_positions-decides}
pub use Rattle.pg_game.specs.Value.{Forces}
pub use Rattle.pg_game.specs.declared.position.Position.{Position}
pub use Rattle.pg_io.specs.Console.{Grows}
pub use Rattle.pg_messages.specs.Statuses.{refusal_status}
pub use Rattle.pg_messages.specs.Texts.{refusal_text}
pub use Rattle.pg_messages.specs.declared.refusal.Refusal.{Refusal}
pub use Rattle.pg_solve.specs.Due.{Heading}
pub use Rattle.pg_talk.specs.Done.{Follows, IsNothing, nothing, stop_end, talk}
pub use Rattle.pg_talk.specs.Opening.{OpensGame}
pub use Rattle.pg_talk.specs.declared.halt.Halt.TheVariants.{Stopped}
pub use Rattle.std.specs.HashSet.{contains}
pub use Rattle.pg_families.proofs.Announced.{apart, first_or_later, held_there, none_of, one_of}
pub use Rattle.pg_families.proofs.Announced.{said_is, unsaid}
pub use Rattle.pg_talk.proofs.Delivering.{follows_more, stopped_first}
pub use Rattle.pg_talk.proofs.Runs.{kept, runs_halt, talked_texts}
pub use Rattle.pg_talk.proofs.Speaking.{Grows-then}
pub use Rattle.std.proofs.lemmas.Bool.{cases_Bool, cond-false, cond-true, false≢true}
pub use Rattle.std.proofs.lemmas.List.{append_cancel_left, length-map, take_all}
pub use Rattle.std.proofs.lemmas.List.Elements.{Contains-append_left}
pub use Rattle.std.proofs.lemmas.List.Sums.{sum_by-take-le}
pub use Rattle.std.proofs.lemmas.Option.{slice_get_read, slice_get_within}
pub use Rattle.std.proofs.lemmas.Result.{IfOk-weaker, err_from_is_err_and}
