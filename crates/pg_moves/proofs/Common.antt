-- What the proofs of this crate name of std and of the crates below.
pub use Rattle.pg_moves.specs.Prelude.{All, Budget, Bytes, ConsoleTold, DONE, Draw, FilesTold}
pub use Rattle.pg_moves.specs.Prelude.{Finished, Game, Halt, Holding, IsAnswer, IsGameAt}
pub use Rattle.pg_moves.specs.Prelude.{IsPosition, Kind, Outcome, Performs, Position, Refused, Runs}
pub use Rattle.pg_moves.specs.Prelude.{Said, Score, Side, UNKNOWN, X, XWins, Y, YWins, after, best}
pub use Rattle.pg_moves.specs.Prelude.{bias_of, filter, game_held, is_free, list_all, list_any}
pub use Rattle.pg_moves.specs.Prelude.{node_count, point_count, start, value, winner, won_by}
unfoldable pub use Rattle.pg_moves.specs.Prelude.{free_points, is_over}
pub use Rattle.pg_game.proofs.Moves.{IsPosition-after, IsPosition-start}
pub use Rattle.pg_game.proofs.ValueLaws.{value-over, value-step}
pub use Rattle.pg_game.specs.Position.{after_with, claims_in_turn}
pub use Rattle.pg_io.specs.Console.{Grows}
pub use Rattle.pg_io.specs.declared.stop.Stop.{Stop}
pub use Rattle.pg_sessions.proofs.Standing.{same-value}
pub use Rattle.pg_talk.proofs.Runs.{performs_more, runs_halt, runs_read, silent, talked_texts}
pub use Rattle.pg_talk.specs.Done.{stop_end}
pub use Rattle.pg_talk.specs.Opening.{OpensGame}
pub use Rattle.pg_talk.specs.declared.halt.Halt.TheVariants.{Stopped}
pub use Rattle.std.proofs.lemmas.Bool.{and_parts, cases_Bool, eq-eqb, eqb-true, false≢true, ne_eqb}
pub use Rattle.std.proofs.lemmas.Bool.{or_cases}
pub use Rattle.std.proofs.lemmas.List.{map_push}
pub use Rattle.std.proofs.lemmas.List.Elements.{All-head, All-nil, All-push, All-tail}
pub use Rattle.std.proofs.lemmas.Result.{IfOk-weaker, err_from_is_err_and}
