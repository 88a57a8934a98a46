-- What the definitions of this crate name of std and of the crates below.
pub use Rattle.pg_base.specs.Goal.{goal_word}
pub use Rattle.pg_base.specs.Kind.{kind_word}
pub use Rattle.pg_base.specs.Side.{is_same_side, side_word}
pub use Rattle.pg_base.specs.declared.goal.Goal.{Goal}
pub use Rattle.pg_base.specs.declared.goal.Goal.TheVariants.{Draw, Win}
pub use Rattle.pg_base.specs.declared.kind.Kind.{Kind}
pub use Rattle.pg_base.specs.declared.kind.Kind.TheVariants.{AvoiderEnforcer, MakerBreaker}
pub use Rattle.pg_base.specs.declared.kind.Kind.TheVariants.{MakerMaker, Switching}
pub use Rattle.pg_base.specs.declared.side.Side.{Side}
pub use Rattle.pg_base.specs.declared.side.Side.TheVariants.{X, Y}
pub use Rattle.pg_cert.specs.Limits.{IsWithinLimits, node_count}
pub use Rattle.pg_cert.specs.Print.{printed_certificate}
pub use Rattle.pg_cert.specs.Valid.{IsValid}
pub use Rattle.pg_cert.specs.declared.cert.Cert.{Cert}
pub use Rattle.pg_cert.specs.declared.cert.Claim.{Claim}
pub use Rattle.pg_cert.specs.declared.limits.TheConstants.{MAX_NODES}
pub use Rattle.pg_evidence.specs.Evidence.{IsInnerHalt, IsWithinItsLimits, evidence, evidence_held}
pub use Rattle.pg_evidence.specs.Standing.{HasFault, HasImageFault, MakesStanding, RejectsEvidence}
pub use Rattle.pg_evidence.specs.Standing.{ShowsValid, StandsFor}
pub use Rattle.pg_evidence.specs.Verdicts.{IsFound, heads_of_evidence, image_head}
pub use Rattle.pg_evidence.specs.declared.evidence.Evidence.{Evidence}
pub use Rattle.pg_evidence.specs.declared.evidence.Evidence.TheVariants.{Folded, Plain}
pub use Rattle.pg_evidence.specs.declared.verdict.Verdict.{Verdict}
pub use Rattle.pg_families.specs.Family.{ActsInFamily, AreForcedBy, AreForcedInFamily}
pub use Rattle.pg_families.specs.Family.{GivesInFamily, IsForcedInFamily, IsForcedInFamilyFrom}
pub use Rattle.pg_families.specs.Family.{LacksInFamily, LeavesFamilyFiles, QuietAtReadInFamily}
pub use Rattle.pg_families.specs.Family.{RefusesFamily, statuses_in_family}
pub use Rattle.pg_files.specs.GameFile.{game}
pub use Rattle.pg_files.specs.Views.{entry}
pub use Rattle.pg_fold.specs.Folded.{DifferInPosition, HaveDifferentPositions, IsSameClaim}
pub use Rattle.pg_fold.specs.Symmetry.{FoldsWell, IsFoldedWell}
pub use Rattle.pg_game.specs.Fit.{is_switching}
pub use Rattle.pg_game.specs.Game.{free_points, start, with_turn}
pub use Rattle.pg_game.specs.Value.{Forces}
pub use Rattle.pg_game.specs.declared.bounds.TheConstants.{MAX_POSITIONS}
pub use Rattle.pg_game.specs.declared.field.Field.{Field}
pub use Rattle.pg_game.specs.declared.field.Field.TheVariants.{Graph, Lines}
pub use Rattle.pg_game.specs.declared.game.Game.{Game}
pub use Rattle.pg_game.specs.declared.position.Position.{Position}
pub use Rattle.pg_image.specs.Limits.{IsImageWithinLimits}
pub use Rattle.pg_image.specs.Print.{printed_image_certificate}
pub use Rattle.pg_image.specs.declared.cert.ImageCert.{ImageCert}
pub use Rattle.pg_io.specs.Causes.{Faults, Rose}
pub use Rattle.pg_io.specs.Console.{ConsoleTold, Grows}
pub use Rattle.pg_io.specs.Files.{Bytes, FilesTold, Holding, Making, ReadsOnly}
pub use Rattle.pg_io.specs.declared.entry.Entry.{Entry}
pub use Rattle.pg_io.specs.declared.entry.Entry.TheVariants.{Said}
pub use Rattle.pg_io.specs.declared.stop.Stop.{Stop}
pub use Rattle.pg_io.specs.declared.stop.Stop.TheVariants.{Memory, Read, Write}
pub use Rattle.pg_judge.specs.declared.claim_head.ClaimHead.{ClaimHead}
pub use Rattle.pg_messages.specs.Statuses.{refusal_status}
pub use Rattle.pg_messages.specs.Texts.{accepted_text, class_cut_text, class_first_mover_text}
pub use Rattle.pg_messages.specs.Texts.{class_short_text, expanded_text, line_game_text, lost_text}
pub use Rattle.pg_messages.specs.Texts.{message_text, no_meaning_text, refusal_text, reply_text}
pub use Rattle.pg_messages.specs.Texts.{result_text, reviewed_text, switching_game_text}
pub use Rattle.pg_messages.specs.Texts.{unknown_at_text, unknown_text}
pub use Rattle.pg_messages.specs.declared.message.Message.{Message}
pub use Rattle.pg_messages.specs.declared.refusal.Refusal.{Refusal}
pub use Rattle.pg_messages.specs.declared.refusal.Refusal.TheVariants.{Certificate, NoClaim}
pub use Rattle.pg_messages.specs.declared.refusal.Refusal.TheVariants.{NoMeaning, Rejected}
pub use Rattle.pg_messages.specs.declared.refusal.Refusal.TheVariants.{RejectedImage, RejectedSpan}
pub use Rattle.pg_messages.specs.declared.refusal.Refusal.TheVariants.{RejectedVectors}
pub use Rattle.pg_messages.specs.declared.statuses.TheConstants.{DONE, FAULTY_GAME, FAULTY_RECORD}
pub use Rattle.pg_messages.specs.declared.statuses.TheConstants.{INPUT_ENDED, NO_MEANING, NO_MEMORY}
pub use Rattle.pg_messages.specs.declared.statuses.TheConstants.{OUT_OF_REPLIES, READ_FAILED}
pub use Rattle.pg_messages.specs.declared.statuses.TheConstants.{REFUSED, UNKNOWN, WRITE_FAILED}
pub use Rattle.pg_player.specs.Player.{is_claim_of, is_win, is_win_of}
unfoldable pub use Rattle.pg_player.specs.Player.{chosen_claim}
pub use Rattle.pg_pns.specs.Expanded.{Expanded}
pub use Rattle.pg_sessions.specs.Along.{IsAlong, IsOfNames, IsReached, SaysAtLeast}
pub use Rattle.pg_sessions.specs.Recording.{GivesRecord, Records, RecordsGame}
pub use Rattle.pg_sessions.specs.Review.{GivesReview, RefusesReview, Reviews, ReviewsMoves}
pub use Rattle.pg_sessions.specs.Review.{ReviewsRead, StandsAgainst, loss_texts}
pub use Rattle.pg_solve.specs.Due.{Heading, heading}
pub use Rattle.pg_solve.specs.Left.{IsAskedLast, IsLeft, IsLeftOpen, LeavesSearch, budget}
pub use Rattle.pg_solve.specs.Solved.{IsShown, IsTrueOf, certificate_of, due, is_class}
pub use Rattle.pg_solve.specs.declared.solution.Class.TheVariants.{Cut, First, Short}
pub use Rattle.pg_solve.specs.declared.solution.Solution.{Solution}
pub use Rattle.pg_solve.specs.declared.solution.Solution.TheVariants.{Unknown, Value}
pub use Rattle.pg_solve.specs.declared.solving.TheConstants.{MIN_POSITIONS}
pub use Rattle.pg_talk.specs.Contender.{Contender, contender_of, player_of}
pub use Rattle.pg_talk.specs.Done.{Changes, Does, Done, End, Failed, Finished, Follows, IsNothing}
pub use Rattle.pg_talk.specs.Done.{Performs, SaysFirst, Starved, Stops, behind, ending, nothing}
pub use Rattle.pg_talk.specs.Done.{stop_end, talk}
pub use Rattle.pg_talk.specs.Halts.{BothCauses, Calm, HaltCauses, HasCause, IsGameHalt, IsPlayEnd}
pub use Rattle.pg_talk.specs.Halts.{IsPlayHalt, IsReadHalt, IsTalkHalt, IsWriteHalt, MuteAtMemory}
pub use Rattle.pg_talk.specs.Halts.{stop_status}
pub use Rattle.pg_talk.specs.Opening.{IsGameLacking, IsSaidBy, OpensGame, game_held}
pub use Rattle.pg_talk.specs.Playing.{IsPlay}
pub use Rattle.pg_talk.specs.Reading.{IsLackingTwo, OpensTwo, both, lacking}
pub use Rattle.pg_talk.specs.Runs.{QuietsBy, Runs}
pub use Rattle.pg_talk.specs.Saying.{IsCut, SaysAll, Speaks}
pub use Rattle.pg_talk.specs.Storing.{Delivers, DeliversThen, StoresAt, delivered, texts_of}
pub use Rattle.pg_talk.specs.declared.halt.Halt.{Halt}
pub use Rattle.pg_talk.specs.declared.halt.Halt.TheVariants.{Refused, Stopped}
pub use Rattle.pg_unfold.specs.Flaws.{AreSound, IsFaultless}
pub use Rattle.pg_unfold.specs.Unfolded.{AreUnfolded, IsUnfolded, IsUnfoldedCert}
pub use Rattle.pg_unfold.specs.declared.unfolded.Unfolded.{Unfolded}
pub use Rattle.pg_words.specs.Ordered.{ordered, text}
pub use Rattle.pg_words.specs.Words.{Check, Command, Gen, OfFamily, Play, Record, Report, Review}
pub use Rattle.pg_words.specs.Words.{Solve, meaning_of}
pub use Rattle.pg_words.specs.declared.family.FamilyTask.{FamilyTask}
pub use Rattle.pg_words.specs.declared.source.Source.{Source}
pub use Rattle.pg_words.specs.declared.source.Source.TheVariants.{Bridge, Rows, Scatter}
pub use Rattle.serde_json.specs.Data.{Data, Items, Members, array, member, no_members, number}
pub use Rattle.serde_json.specs.Data.{object, string, unsigned}
pub use Rattle.serde_json.specs.View.{items_of, view}
pub use Rattle.serde_json.specs.Written.{compact_text, has_float, items_have_float, items_text}
pub use Rattle.serde_json.specs.Written.{members_have_float, members_text}
pub use Rattle.std.specs.List.{AllByRecursion, AllZip, Contains}
