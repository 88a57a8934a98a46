-- What the definitions of this crate name of std and of the crates below.
pub use Rattle.pg_base.specs.declared.goal.Goal.{Goal}
pub use Rattle.pg_base.specs.declared.side.Side.{Side}
pub use Rattle.pg_cert.specs.Limits.{IsWithinLimits, node_count}
pub use Rattle.pg_cert.specs.Print.{printed_certificate}
pub use Rattle.pg_cert.specs.Valid.{IsValid}
pub use Rattle.pg_cert.specs.declared.cert.Cert.{Cert}
pub use Rattle.pg_cert.specs.declared.cert.Claim.{Claim}
pub use Rattle.pg_cert.specs.declared.limits.TheConstants.{MAX_NODES}
pub use Rattle.pg_files.specs.GameFile.{game}
pub use Rattle.pg_files.specs.Views.{entry}
pub use Rattle.pg_fold.specs.Folded.{DifferInPosition, HaveDifferentPositions, IsSameClaim}
pub use Rattle.pg_fold.specs.Symmetry.{FoldsWell, IsFoldedWell}
pub use Rattle.pg_game.specs.Fit.{is_switching}
pub use Rattle.pg_game.specs.Game.{with_turn}
pub use Rattle.pg_game.specs.Value.{Forces}
pub use Rattle.pg_game.specs.declared.game.Game.{Game}
pub use Rattle.pg_game.specs.declared.position.Position.{Position}
pub use Rattle.pg_image.specs.Limits.{IsImageWithinLimits}
pub use Rattle.pg_image.specs.Print.{printed_image_certificate}
pub use Rattle.pg_image.specs.declared.cert.ImageCert.{ImageCert}
pub use Rattle.pg_io.specs.Causes.{Faults, Rose}
pub use Rattle.pg_io.specs.Console.{ConsoleTold, Grows}
pub use Rattle.pg_io.specs.Files.{Bytes, FilesTold, Holding}
pub use Rattle.pg_io.specs.declared.entry.Entry.{Entry}
pub use Rattle.pg_io.specs.declared.entry.Entry.TheVariants.{Said}
pub use Rattle.pg_io.specs.declared.stop.Stop.{Stop}
pub use Rattle.pg_io.specs.declared.stop.Stop.TheVariants.{Memory, Read, Write}
pub use Rattle.pg_messages.specs.Statuses.{refusal_status}
pub use Rattle.pg_messages.specs.Texts.{class_cut_text, class_first_mover_text, class_short_text}
pub use Rattle.pg_messages.specs.Texts.{message_text, refusal_text, result_text}
pub use Rattle.pg_messages.specs.declared.refusal.Refusal.{Refusal}
pub use Rattle.pg_messages.specs.declared.refusal.Refusal.TheVariants.{Certificate, NoClaim}
pub use Rattle.pg_messages.specs.declared.refusal.Refusal.TheVariants.{NoMeaning, Rejected}
pub use Rattle.pg_messages.specs.declared.refusal.Refusal.TheVariants.{RejectedImage, RejectedSpan}
pub use Rattle.pg_messages.specs.declared.refusal.Refusal.TheVariants.{RejectedVectors}
pub use Rattle.pg_messages.specs.declared.statuses.TheConstants.{DONE, FAULTY_GAME, NO_MEMORY}
pub use Rattle.pg_messages.specs.declared.statuses.TheConstants.{READ_FAILED, UNKNOWN, WRITE_FAILED}
pub use Rattle.pg_solve.specs.Due.{Heading, heading}
pub use Rattle.pg_solve.specs.Solved.{IsShown, IsTrueOf, certificate_of, due, is_class}
pub use Rattle.pg_solve.specs.declared.solution.Class.TheVariants.{Cut, First, Short}
pub use Rattle.pg_solve.specs.declared.solution.Solution.{Solution}
pub use Rattle.pg_solve.specs.declared.solution.Solution.TheVariants.{Unknown, Value}
pub use Rattle.pg_talk.specs.Done.{Changes, Done, End, Failed, Finished, Follows, IsNothing}
pub use Rattle.pg_talk.specs.Done.{Starved, ending, nothing, stop_end, talk}
pub use Rattle.pg_talk.specs.Halts.{BothCauses, Calm, HasCause, IsGameHalt, stop_status}
pub use Rattle.pg_talk.specs.Hearing.{Hearing}
pub use Rattle.pg_talk.specs.Opening.{game_held}
pub use Rattle.pg_talk.specs.Runs.{QuietsBy, Runs}
pub use Rattle.pg_talk.specs.declared.halt.Halt.{Halt}
pub use Rattle.pg_talk.specs.declared.halt.Halt.TheVariants.{Refused, Stopped}
pub use Rattle.pg_unfold.specs.Flaws.{AreSound, IsFaultless}
pub use Rattle.pg_unfold.specs.Unfolded.{IsUnfoldedCert}
pub use Rattle.pg_unfold.specs.declared.unfolded.Unfolded.{Unfolded}
pub use Rattle.std.specs.List.{AllZip, Contains}
