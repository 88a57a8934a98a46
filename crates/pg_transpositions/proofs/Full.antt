-- A table that isn't full has room for one more.
use Rattle.std.proofs.Common.{◌≡◌, ◌<◌, ◌≤◌, ◌+◌, ℕ, Bool, false, List, length, ap, arith, Option}
use Rattle.std.proofs.Common.{Some, None, Result, Ok, Err, IfOk, IsTrue, OnErr, cond, inl, inr}
use Rattle.std.proofs.Common.{is_some, ◌↔◌}
use Rattle.std.proofs.lemmas.Bool.{both_ways, cases_lt}

-- an insertion into a map adds one entry at most
pub put-few : {X Y E : Type 0} (r : Result (Option X) E) (old new : List Y) (most : ℕ)
    → IfOk r (λ o. length new ≡ length old + cond (is_some o) 0 1)
    → OnErr r (new ≡ old)
    → length old < most
    → length new ≤ most
put-few (Ok (Some x)) old new most added kept room = omega (arith, added, room)
put-few (Ok None) old new most added kept room = omega (arith, added, room)
put-few (Err e) old new most added kept room =
    let same = ap length kept in
    omega (arith, same, room)

pub not-full : (full : Bool) (most len : ℕ)
    → full ≡ false
    → (IsTrue full ↔ (most ≤ len))
    → len < most
not-full full most len off h = elim (cases_lt len most) [
  | inl lt ↦ lt
  | inr le ↦ absurd (both_ways full off (h.1 le))
]
