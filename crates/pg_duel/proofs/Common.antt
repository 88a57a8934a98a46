-- What the proofs of this crate name of std and of the crates below.
pub use Rattle.pg_duel.specs.Prelude.{AfterTurn, Allows, Bytes, Claim, ConsoleTold, Does, Done}
pub use Rattle.pg_duel.specs.Prelude.{End, Evidence, IsAnswered, point_count}
pub use Rattle.pg_duel.specs.Prelude.{FilesTold, Finished, FollowsOn, Game, Halt, Holding, Illegal}
pub use Rattle.pg_duel.specs.Prelude.{IsFit, Look, Memory, Position, QuietsBy, Read, Refusal}
pub use Rattle.pg_duel.specs.Prelude.{Refused, Runs, Score, Side, Sitting, StandsFor, Starved, Stop}
pub use Rattle.pg_duel.specs.Prelude.{Stopped, Stores, Write, chosen_claim, claimed, judged_move}
pub use Rattle.pg_duel.specs.Prelude.{place, reaches, reason_of, sitting_of, stop_end, turned, Turn}
unfoldable pub use Rattle.pg_duel.specs.Prelude.{is_over, outcome}
pub use Rattle.pg_talk.proofs.Openings.{not_opened_two, opened_two}
pub use Rattle.pg_talk.proofs.Runs.{kept, runs_halt, silent}
pub use Rattle.std.proofs.lemmas.Result.{err_from_is_err_and}
