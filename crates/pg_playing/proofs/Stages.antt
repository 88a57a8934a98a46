-- Where lines lead.
use Rattle.std.proofs.Common.{◌≡◌, ℕ, ◌<◌, ◌≤◌, nat_lt, Bool, true, false, List}
use Rattle.std.proofs.Common.{refl}
use Rattle.std.proofs.Common.{arith}
use Rattle.pg_playing.proofs.Common.{Event, Game}
use Rattle.pg_playing.proofs.Common.{nat_tests, point_count}
use Rattle.pg_messages.specs.declared.message.ReplyFault.TheVariants as faults
use Rattle.pg_playing.specs.Dialogue.{Listens, Notes, after_answer, after_shown}
use Rattle.pg_playing.specs.TableLog.{IsClaimed}
use Rattle.pg_playing.specs.declared.dialogue.TheConstants.{MAX_HEARD}
use Rattle.pg_playing.specs.declared.note.Note.TheVariants.{Refused}

-- ---- where a point leads

-- a number that is no point
pub beyond_claim : (g : Game) (events : List Event) (heard v : ℕ)
    → point_count g ≤ v
    → IsClaimed g events heard v (Notes events heard (Refused faults.NoPoint))
beyond_claim g events heard v great =
    let test : nat_lt v (point_count g) ≡ false = grind (arith, nat_tests, great) in
    rw test refl

-- ---- where the dialogue goes on

pub goes_on : {S : Type 0} (s : S) (heard : ℕ)
    → heard < MAX_HEARD
    → after_answer s heard ≡ Listens s heard
goes_on s heard room =
    let test : nat_lt heard MAX_HEARD ≡ true = grind (arith, nat_tests, room) in
    rw test refl

-- after the board was shown in a game that isn't over
pub shown_goes_on : {S : Type 0} (over : Bool) (s : S) (heard : ℕ)
    → over ≡ false
    → heard < MAX_HEARD
    → after_shown over s heard ≡ Listens s heard
shown_goes_on over s heard going room = rw going (goes_on s heard room)
