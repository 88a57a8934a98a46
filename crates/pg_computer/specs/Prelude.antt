-- What the definitions of this crate name of std and of the crates below.
pub use Rattle.pg_base.specs.Side.{is_same_side, other}
pub use Rattle.pg_base.specs.Texts.{Bytes}
pub use Rattle.pg_base.specs.declared.score.Score.{Score}
pub use Rattle.pg_base.specs.declared.side.Side.{Side}
pub use Rattle.pg_files.specs.Views.{entry}
pub use Rattle.pg_game.specs.Game.{IsPosition, after, bias_of, lowest_free, point_count, start}
unfoldable pub use Rattle.pg_game.specs.Game.{free_points, is_over}
pub use Rattle.pg_game.specs.Judge.{IsMadeForGame, judged_move}
pub use Rattle.pg_game.specs.Position.{is_free}
pub use Rattle.pg_game.specs.Value.{best, value}
pub use Rattle.pg_game.specs.declared.game.Game.{Game}
pub use Rattle.pg_game.specs.declared.position.Illegal.{Illegal}
pub use Rattle.pg_game.specs.declared.position.Position.{Position}
pub use Rattle.pg_graph.specs.Joiner.{Room}
pub use Rattle.pg_io.specs.Console.{ConsoleTold}
pub use Rattle.pg_io.specs.Files.{FilesTold, Holding}
pub use Rattle.pg_io.specs.Stop.{Causes}
pub use Rattle.pg_io.specs.declared.entry.Entry.{Entry}
pub use Rattle.pg_io.specs.declared.entry.Entry.TheVariants.{Ended, Heard, Said, Skipped}
pub use Rattle.pg_io.specs.declared.stop.Stop.{Stop}
pub use Rattle.pg_io.specs.declared.stop.Stop.TheVariants.{Memory, Read, Write}
pub use Rattle.pg_messages.specs.declared.refusal.Refusal.{Refusal}
pub use Rattle.pg_moves.specs.Best.{all_known, has_score, known_scores}
pub use Rattle.pg_moves.specs.Trials.{AreTrials}
pub use Rattle.pg_moves.specs.declared.trial.Trial.{Trial}
pub use Rattle.pg_playing.specs.Courses.{Breaks}
pub use Rattle.pg_playing.specs.Dialogue.{Allows, Rules}
pub use Rattle.pg_playing.specs.Dialogue.{Steps as StepsBy}
pub use Rattle.pg_playing.specs.Playing.{GivesPlay, GivesTable, PlaysLog, Stores, names_of}
pub use Rattle.pg_playing.specs.Playing.{turned_to}
pub use Rattle.pg_playing.specs.Screens.{answer_text}
pub use Rattle.pg_playing.specs.Seated.{IsSeated}
pub use Rattle.pg_playing.specs.TableLog.{Closes, IsClaimed, IsShown, Leaves, Listens, Notes, Shows}
pub use Rattle.pg_playing.specs.TableLog.{Stalls, TableStage, place}
pub use Rattle.pg_playing.specs.declared.dialogue.TheConstants.{MAX_HEARD}
pub use Rattle.pg_playing.specs.declared.table.Table.{Table}
pub use Rattle.pg_record.specs.Replay.{IsRecord, position_after}
unfoldable pub use Rattle.pg_record.specs.Replay.{standing}
pub use Rattle.pg_record.specs.Session.{Recorded}
pub use Rattle.pg_record.specs.declared.event.Event.{Event}
pub use Rattle.pg_record.specs.declared.event.Event.TheVariants.{Play}
pub use Rattle.pg_record.specs.declared.event.TheConstants.{MAX_EVENTS}
pub use Rattle.pg_sessions.specs.Course.{Course, LeadsBy}
pub use Rattle.pg_sessions.specs.Known.{won_by}
pub use Rattle.pg_sessions.specs.Review.{IsGameAt}
pub use Rattle.pg_settle.specs.Budgets.{IsBudget}
pub use Rattle.pg_settle.specs.declared.budget.Budget.{Budget}
pub use Rattle.pg_settle.specs.declared.finding.Outcome.{Outcome}
pub use Rattle.pg_characters.specs.Names.{point_name}
pub use Rattle.pg_table.specs.Reply.{read_reply}
pub use Rattle.pg_table.specs.declared.reply.Reply.{Reply}
pub use Rattle.pg_characters.specs.declared.shown.Look.{Look}
pub use Rattle.pg_talk.specs.Done.{Changes, Does, Done, End, Failed, Finished, Follows, Starved}
pub use Rattle.pg_talk.specs.Done.{Stops, stop_end, talk}
pub use Rattle.pg_talk.specs.Halts.{BothCauses}
pub use Rattle.pg_talk.specs.Opening.{IsGameLacking, IsSaidBy, OpensGame, game_held}
pub use Rattle.pg_talk.specs.Reply.{trimmed}
pub use Rattle.pg_talk.specs.Runs.{QuietsBy, Runs}
pub use Rattle.pg_talk.specs.Storing.{StoresAt}
pub use Rattle.pg_talk.specs.declared.halt.Halt.{Halt}
pub use Rattle.pg_talk.specs.declared.halt.Halt.TheVariants.{Refused, Stopped}
pub use Rattle.std.specs.List.{find}
