-- With which statuses a run ends.
use Rattle.std.proofs.Common.{◌≡◌, ℕ, List, Option, Some, None, Ok, Err, refl, sym, subst, inl, inr}
use Rattle.std.proofs.Common.{arith}
use Rattle.pg_drawing.proofs.Common.{Contains, ConsoleTold, Bytes, Read, Write, Memory}
use Rattle.pg_drawing.proofs.Common.{refusal_status, NoMeaning, NoClaim, Certificate, Rejected}
use Rattle.pg_drawing.proofs.Common.{RejectedSpan, RejectedVectors, RejectedImage, Record, DONE}
use Rattle.pg_drawing.proofs.Common.{NO_MEANING, REFUSED, WRITE_FAILED, stop_status, Refused}
use Rattle.pg_drawing.proofs.Common.{Stopped}
use Rattle.pg_io.specs.declared.stop.Stop.{Stop}
use Rattle.pg_messages.specs.declared.refusal.Refusal.{Refusal}
use Rattle.pg_messages.specs.declared.refusal.Refusal.TheVariants.{Game}
use Rattle.pg_drawing.specs.Orders.{Order}
use Rattle.pg_drawing.specs.Orders.Order.{OfGame, OfNode}
use Rattle.pg_drawing.specs.Runs.{EndsWith, Gives, statuses_of}
use Rattle.pg_drawing.specs.declared.picturing.Telling.{Telling}

is_at : (l : List ℕ) (n m : ℕ) → n ≡ m → Contains l m → Contains l n
is_at l n m is there = subst (λ (s : ℕ). Contains l s) (sym is) there

-- a text was said with its status, or that fails
pub said_status : (text : Bytes) (status result : ℕ) (before after : ConsoleTold)
    → EndsWith text status before after result
    → (l : List ℕ) → Contains l status
    → Contains l WRITE_FAILED
    → Contains l result
said_status text status result before after (inl done) l there failing =
    is_at l result status done.0 there
said_status text status result before after (inr failed) l there failing =
    is_at l result WRITE_FAILED failed.0 failing

pub writes_fail : (order : Option Order) → Contains (statuses_of order) WRITE_FAILED
writes_fail None = (1, omega arith, refl)
writes_fail (Some (OfGame game)) = (3, omega arith, refl)
writes_fail (Some (OfNode game certificate name)) = (5, omega arith, refl)

pub told_status : (order : Option Order) (told : Telling)
    → Gives order (Ok told)
    → Contains (statuses_of order) told.status
told_status None told gives = absurd gives
told_status (Some (OfGame game)) told is =
    is_at (statuses_of (Some (OfGame game))) told.status DONE is (0, omega arith, refl)
told_status (Some (OfNode game certificate name)) told (inl is) = is_at
    (statuses_of (Some (OfNode game certificate name))) told.status DONE is (0, omega arith, refl)
told_status (Some (OfNode game certificate name)) told (inr (inl is)) =
    is_at (statuses_of (Some (OfNode game certificate name))) told.status NO_MEANING is
    (1, omega arith, refl)
told_status (Some (OfNode game certificate name)) told (inr (inr is)) =
    is_at (statuses_of (Some (OfNode game certificate name))) told.status REFUSED is
    (3, omega arith, refl)

pub refusal_in : (order : Option Order) (refusal : Refusal)
    → Gives order (Err (Refused refusal))
    → Contains (statuses_of order) (refusal_status refusal)
refusal_in None refusal gives =
    let e : refusal ≡ NoMeaning = cc gives in
    subst (λ (r : Refusal). Contains (statuses_of None) (refusal_status r)) (sym e)
    (0, omega arith, refl)
refusal_in (Some (OfGame game)) (Game number line) gives = (1, omega arith, refl)
refusal_in (Some (OfGame game)) NoMeaning gives = absurd gives
refusal_in (Some (OfGame game)) (NoClaim side) gives = absurd gives
refusal_in (Some (OfGame game)) (Certificate number line) gives = absurd gives
refusal_in (Some (OfGame game)) (Rejected claim node why) gives = absurd gives
refusal_in (Some (OfGame game)) (RejectedSpan claim why) gives = absurd gives
refusal_in (Some (OfGame game)) (RejectedVectors claim node why) gives = absurd gives
refusal_in (Some (OfGame game)) (RejectedImage claim node why) gives = absurd gives
refusal_in (Some (OfGame game)) (Record number line) gives = absurd gives
refusal_in (Some (OfNode game certificate name)) NoMeaning gives = absurd gives
refusal_in (Some (OfNode game certificate name)) (NoClaim side) gives = absurd gives
refusal_in (Some (OfNode game certificate name)) (Record number line) gives = absurd gives
refusal_in (Some (OfNode game certificate name)) (Game number line) gives = (2, omega arith, refl)
refusal_in (Some (OfNode game certificate name)) (Certificate number line) gives =
    (3, omega arith, refl)
refusal_in (Some (OfNode game certificate name)) (Rejected claim node why) gives =
    (3, omega arith, refl)
refusal_in (Some (OfNode game certificate name)) (RejectedSpan claim why) gives =
    (3, omega arith, refl)
refusal_in (Some (OfNode game certificate name)) (RejectedVectors claim node why) gives =
    (3, omega arith, refl)
refusal_in (Some (OfNode game certificate name)) (RejectedImage claim node why) gives =
    (3, omega arith, refl)

pub stopped_status : (order : Option Order) (stop : Stop)
    → Gives order (Err (Stopped stop))
    → Contains (statuses_of order) (stop_status stop)
stopped_status None stop gives = absurd (cc gives)
stopped_status (Some (OfGame game)) Read gives = (2, omega arith, refl)
stopped_status (Some (OfGame game)) Write gives = (3, omega arith, refl)
stopped_status (Some (OfGame game)) Memory gives = (4, omega arith, refl)
stopped_status (Some (OfNode game certificate name)) Read gives = (4, omega arith, refl)
stopped_status (Some (OfNode game certificate name)) Write gives = (5, omega arith, refl)
stopped_status (Some (OfNode game certificate name)) Memory gives = (6, omega arith, refl)
