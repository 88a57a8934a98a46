-- What the definitions of this crate name of std and of the crates below.
pub use Rattle.pg_base.specs.Kind.{kind_word}
pub use Rattle.pg_base.specs.Side.{side_word}
pub use Rattle.pg_base.specs.declared.kind.Kind.TheVariants.{Switching}
pub use Rattle.pg_base.specs.declared.kind.Kind.{Kind}
pub use Rattle.pg_base.specs.declared.score.Score.TheVariants.{Draw, XWins, YWins}
pub use Rattle.pg_base.specs.declared.score.Score.{Score}
pub use Rattle.pg_base.specs.declared.side.Side.TheVariants.{X, Y}
pub use Rattle.pg_base.specs.declared.side.Side.{Side}
pub use Rattle.pg_cert.specs.Limits.{node_count}
pub use Rattle.pg_cert.specs.declared.cert.Cert.{Cert}
pub use Rattle.pg_game.specs.Game.{IsPosition, after, bias_of, point_count, start}
unfoldable pub use Rattle.pg_game.specs.Game.{free_points, is_over}
pub use Rattle.pg_game.specs.Position.{is_free}
pub use Rattle.pg_game.specs.Value.{best, value}
pub use Rattle.pg_game.specs.declared.game.Game.{Game}
pub use Rattle.pg_game.specs.declared.position.Position.{Position}
pub use Rattle.pg_io.specs.Console.{ConsoleTold}
pub use Rattle.pg_io.specs.Files.{Bytes, FilesTold, Holding, ReadsOnly}
pub use Rattle.pg_io.specs.declared.entry.Entry.TheVariants.{Said}
pub use Rattle.pg_io.specs.declared.entry.Entry.{Entry}
pub use Rattle.pg_messages.specs.Texts.{outcome_word, unknown_text}
pub use Rattle.pg_messages.specs.declared.statuses.TheConstants.{DONE, UNKNOWN}
pub use Rattle.pg_results.specs.GameRuns.{DeclinesGame, EndsOnGame, IsQuiet, IsSilent}
pub use Rattle.pg_results.specs.GameRuns.{game_statuses}
pub use Rattle.pg_sessions.specs.Known.{won_by}
pub use Rattle.pg_sessions.specs.Review.{IsGameAt}
pub use Rattle.pg_settle.specs.Budgets.{IsBudget}
pub use Rattle.pg_settle.specs.Findings.{IsAnswer, ShowsValue}
pub use Rattle.pg_settle.specs.JsonLines.{json_line, json_name}
pub use Rattle.pg_settle.specs.Settling.{IsSettleEnd, ShowsClass, outcome_of}
pub use Rattle.pg_settle.specs.declared.budget.Budget.{Budget}
pub use Rattle.pg_settle.specs.declared.finding.Finding.TheVariants.{Certificate, Open}
pub use Rattle.pg_settle.specs.declared.finding.Outcome.{Outcome}
pub use Rattle.pg_settle.specs.declared.version.TheConstants.{VERSION}
pub use Rattle.pg_solve.specs.Due.{winner}
pub use Rattle.pg_solve.specs.declared.solution.Class.{Class}
pub use Rattle.pg_talk.specs.Done.{Changes, Done, End, Failed, Finished, Performs, Starved, ending}
pub use Rattle.pg_talk.specs.Halts.{BothCauses, HaltCauses, HasCause, IsWriteHalt, MuteAtMemory}
pub use Rattle.pg_talk.specs.Opening.{IsGameLacking, IsSaidBy, game_held}
pub use Rattle.pg_talk.specs.Runs.{Runs}
pub use Rattle.pg_talk.specs.declared.halt.Halt.TheVariants.{Refused}
pub use Rattle.pg_talk.specs.declared.halt.Halt.{Halt}
pub use Rattle.serde_json.specs.Data.{Data, array, member, no_members, null, number, object, string}
pub use Rattle.serde_json.specs.Data.{unsigned}
pub use Rattle.serde_json.specs.View.{items_of, view}
pub use Rattle.std.specs.List.{All, Contains, filter, flat_map, list_all, list_any}
