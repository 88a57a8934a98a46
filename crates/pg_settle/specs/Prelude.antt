-- What the definitions of this crate name of std and of the crates below.
pub use Rattle.pg_base.specs.Kind.{kind_word}
pub use Rattle.pg_base.specs.Side.{side_word}
pub use Rattle.pg_base.specs.declared.goal.Goal.{Goal}
pub use Rattle.pg_base.specs.declared.kind.Kind.TheVariants.{Switching}
pub use Rattle.pg_base.specs.declared.kind.Kind.{Kind}
pub use Rattle.pg_base.specs.declared.score.Score.{Score}
pub use Rattle.pg_base.specs.declared.side.Side.TheVariants.{X, Y}
pub use Rattle.pg_base.specs.declared.side.Side.{Side}
pub use Rattle.pg_cert.specs.Limits.{IsWithinLimits, node_count}
pub use Rattle.pg_cert.specs.Print.{printed_certificate}
pub use Rattle.pg_cert.specs.Valid.{IsValid}
pub use Rattle.pg_cert.specs.declared.cert.Cert.{Cert}
pub use Rattle.pg_cert.specs.declared.cert.Claim.{Claim}
pub use Rattle.pg_cert.specs.declared.limits.TheConstants.{MAX_NODES}
pub use Rattle.pg_fold.specs.Folded.{DifferInPosition, HaveDifferentPositions}
pub use Rattle.pg_game.specs.Game.{start}
pub use Rattle.pg_game.specs.Value.{value}
pub use Rattle.pg_game.specs.declared.game.Game.{Game}
pub use Rattle.pg_io.specs.Console.{ConsoleTold}
pub use Rattle.pg_io.specs.Files.{Bytes, FilesTold, Holding}
pub use Rattle.pg_io.specs.declared.entry.Entry.TheVariants.{Said}
pub use Rattle.pg_io.specs.declared.entry.Entry.{Entry}
pub use Rattle.pg_messages.specs.Texts.{expanded_text, message_text, outcome_word, result_text}
pub use Rattle.pg_messages.specs.Texts.{unknown_text}
pub use Rattle.pg_messages.specs.declared.statuses.TheConstants.{DONE, UNKNOWN}
pub use Rattle.pg_results.specs.Ending.{Ends}
pub use Rattle.pg_results.specs.GameRuns.{DeclinesGame, EndsOnGame, IsQuiet, IsSilent}
pub use Rattle.pg_results.specs.GameRuns.{game_statuses}
pub use Rattle.pg_results.specs.Results.{IsFileOf, SaysGame, Shows, class_text}
pub use Rattle.pg_solve.specs.Due.{draws, due_for_value, heading, wins}
pub use Rattle.pg_solve.specs.EdgeClaims.{AreClassClaims}
pub use Rattle.pg_solve.specs.declared.solution.Class.{Class}
pub use Rattle.pg_talk.specs.Done.{Changes, Does, Done, End, Failed, Finished, Starved, ending}
pub use Rattle.pg_talk.specs.Halts.{BothCauses, HasCause, IsWriteHalt, MuteAtMemory}
pub use Rattle.pg_talk.specs.Opening.{IsGameLacking, IsSaidBy, game_held}
pub use Rattle.pg_talk.specs.Runs.{Runs}
pub use Rattle.pg_talk.specs.Storing.{Delivers, StoresAt, texts_of}
pub use Rattle.pg_talk.specs.declared.halt.Halt.TheVariants.{Refused}
pub use Rattle.pg_talk.specs.declared.halt.Halt.{Halt}
pub use Rattle.serde_json.specs.Data.{Data, Members, member, no_members, number, object, string}
pub use Rattle.serde_json.specs.Data.{unsigned}
pub use Rattle.serde_json.specs.View.{view}
pub use Rattle.serde_json.specs.Written.{compact_text, has_float}
pub use Rattle.std.specs.List.{Contains}
