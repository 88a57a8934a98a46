-- The status of each refusal.
use Rattle.std.specs.Prelude.{ℕ}
use Rattle.pg_messages.specs.declared.refusal.Refusal.{Refusal}
use Rattle.pg_messages.specs.declared.refusal.Refusal.TheVariants.{NoMeaning, NoClaim, Game}
use Rattle.pg_messages.specs.declared.refusal.Refusal.TheVariants.{Certificate, Rejected}
use Rattle.pg_messages.specs.declared.refusal.Refusal.TheVariants.{RejectedSpan, RejectedVectors}
use Rattle.pg_messages.specs.declared.refusal.Refusal.TheVariants.{RejectedImage, Record}
use Rattle.pg_messages.specs.declared.statuses.TheConstants.{NO_MEANING, FAULTY_GAME, REFUSED}
use Rattle.pg_messages.specs.declared.statuses.TheConstants.{FAULTY_RECORD}

abbrev pub refusal_status : Refusal → ℕ
refusal_status NoMeaning = NO_MEANING
refusal_status (NoClaim side) = NO_MEANING
refusal_status (Game number line) = FAULTY_GAME
refusal_status (Certificate number line) = REFUSED
refusal_status (Rejected claim node why) = REFUSED
refusal_status (RejectedSpan claim why) = REFUSED
refusal_status (RejectedVectors claim node why) = REFUSED
refusal_status (RejectedImage claim node why) = REFUSED
refusal_status (Record number line) = FAULTY_RECORD
