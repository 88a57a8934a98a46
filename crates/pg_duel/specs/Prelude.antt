-- What the definitions of this crate name of std and of the crates below.
pub use Rattle.pg_base.specs.Side.{is_same_side, other}
pub use Rattle.pg_base.specs.Texts.{Bytes}
pub use Rattle.pg_base.specs.declared.goal.Goal.{Goal}
pub use Rattle.pg_base.specs.declared.goal.Goal.TheVariants.{Win}
pub use Rattle.pg_base.specs.declared.goal.Goal.TheVariants.{Draw as AtLeastDraw}
pub use Rattle.pg_base.specs.declared.score.Score.{Score}
pub use Rattle.pg_base.specs.declared.side.Side.{Side}
pub use Rattle.pg_base.specs.declared.side.Side.TheVariants.{X, Y}
pub use Rattle.pg_cert.specs.Valid.{IsValid}
pub use Rattle.pg_cert.specs.declared.cert.Cert.{Cert}
pub use Rattle.pg_cert.specs.declared.cert.Claim.{Claim}
pub use Rattle.pg_evidence.specs.Evidence.{IsWithinItsLimits, evidence_held}
pub use Rattle.pg_evidence.specs.Standing.{RejectsEvidence, StandsFor}
pub use Rattle.pg_evidence.specs.declared.evidence.Evidence.{Evidence}
pub use Rattle.pg_files.specs.Views.{entry}
pub use Rattle.pg_game.specs.Game.{point_count}
unfoldable pub use Rattle.pg_game.specs.Game.{is_over, outcome}
pub use Rattle.pg_game.specs.Judge.{judged_move}
pub use Rattle.pg_game.specs.Value.{reaches}
pub use Rattle.pg_game.specs.declared.field.Field.{Field}
pub use Rattle.pg_game.specs.declared.game.Game.{Game}
pub use Rattle.pg_game.specs.declared.position.Illegal.{Illegal}
pub use Rattle.pg_game.specs.declared.position.Position.{Position}
pub use Rattle.pg_io.specs.Console.{ConsoleTold}
pub use Rattle.pg_io.specs.Files.{FilesTold, Holding, ReadsOnly}
pub use Rattle.pg_io.specs.Stop.{Causes}
pub use Rattle.pg_io.specs.declared.entry.Entry.{Entry}
pub use Rattle.pg_io.specs.declared.entry.Entry.TheVariants.{Ended, Heard, Said, Skipped}
pub use Rattle.pg_io.specs.declared.stop.Stop.{Stop}
pub use Rattle.pg_io.specs.declared.stop.Stop.TheVariants.{Memory, Read, Write}
pub use Rattle.pg_messages.specs.declared.refusal.Refusal.{Refusal}
pub use Rattle.pg_messages.specs.declared.refusal.Refusal.TheVariants.{NoClaim}
pub use Rattle.pg_messages.specs.declared.statuses.TheConstants.{DONE}
pub use Rattle.pg_opponent.specs.Fits.{IsFit}
pub use Rattle.pg_opponent.specs.Sitting.{Answered, Begins, IsAfter, IsAnswered, Sitting, place}
pub use Rattle.pg_opponent.specs.Sitting.{sitting_of}
pub use Rattle.pg_opponent.specs.declared.seat.OwnPoint.{OwnPoint}
pub use Rattle.pg_player.specs.Player.{chosen_claim}
pub use Rattle.pg_player.specs.declared.rule.Rule.{Rule}
pub use Rattle.pg_playing.specs.Dialogue.{AfterTurn, Allows, Closes, Notes, Rules, Shows, Stage}
pub use Rattle.pg_playing.specs.Dialogue.{Stalls}
pub use Rattle.pg_playing.specs.Dialogue.{Steps as StepsBy, after_shown, turned}
pub use Rattle.pg_playing.specs.Notes.{note_text}
pub use Rattle.pg_playing.specs.Playing.{PlaysLog, Stores, names_of, turned_to}
pub use Rattle.pg_playing.specs.Screens.{screen_text}
pub use Rattle.pg_playing.specs.TableLog.{claimed, ending_at, ending_of}
pub use Rattle.pg_playing.specs.declared.dialogue.TheConstants.{MAX_HEARD}
pub use Rattle.pg_playing.specs.declared.note.Note.{Note}
pub use Rattle.pg_playing.specs.declared.bout.Turn.{Turn}
pub use Rattle.pg_record.specs.declared.event.Event.{Event}
pub use Rattle.pg_sessions.specs.Course.{Course}
pub use Rattle.pg_sessions.specs.SessionLog.{reason_of}
pub use Rattle.pg_characters.specs.Names.{point_name}
pub use Rattle.pg_table.specs.Reply.{read_reply}
pub use Rattle.pg_table.specs.Words.{turn_text}
pub use Rattle.pg_table.specs.declared.reply.Reply.{Reply}
pub use Rattle.pg_characters.specs.declared.shown.Look.{Look}
pub use Rattle.pg_talk.specs.Done.{Does, Done, End, Finished, Follows as FollowsOn}
pub use Rattle.pg_talk.specs.Done.{Starved, stop_end}
pub use Rattle.pg_talk.specs.Halts.{BothCauses, HaltCauses, IsReadHalt}
pub use Rattle.pg_talk.specs.Opening.{IsSaidBy, game_held}
pub use Rattle.pg_talk.specs.Reading.{IsLackingTwo, OpensTwo, both}
pub use Rattle.pg_talk.specs.Reply.{trimmed}
pub use Rattle.pg_talk.specs.Runs.{QuietsBy, Runs}
pub use Rattle.pg_talk.specs.Storing.{StoresAt}
pub use Rattle.pg_talk.specs.declared.halt.Halt.{Halt}
pub use Rattle.pg_talk.specs.declared.halt.Halt.TheVariants.{Refused, Stopped}
