-- Positions that make a plan, one by one.
use Rattle.std.proofs.Common.{◌≡◌, ◌∙◌, ◌+◌, ◌<◌, ◌≤◌, ◌&&◌, ℕ, Bool, true, List, [], ◌∷◌, ◌++◌}
use Rattle.std.proofs.Common.{length}
use Rattle.std.proofs.Common.{ap, ap₂, arith, get_or, length-take, nat_lt, refl, subst, sym, take}
use Rattle.std.proofs.lemmas.Bool.{and_parts}
use Rattle.std.proofs.lemmas.List.{take_more}
use Rattle.std.specs.List.{list_all}
use borrow.Author.Tests.{ltb-true}
use Rattle.pg_base.specs.declared.limits.TheConstants.{MAX_MEMBERS}
use Rattle.pg_plan.specs.Places.{ArePlaces, IsPlace, names_earlier}
use Rattle.pg_plan.specs.declared.place.Place.{Place}
use Rattle.pg_plan.specs.declared.place.Step.{Step}
use Rattle.pg_plan.specs.declared.place.TheConstants.{MAX_PLACES}
use Rattle.pg_split.specs.Steps.{AreSteps, is_step}

-- ---- moves

pub steps_are : (count : ℕ) (steps : List Step)
    → count ≤ MAX_PLACES
    → list_all (is_step count) steps ≡ true
    → AreSteps count steps
steps_are count [] few all = record { range = tt; earlier = refl }
steps_are count (s ∷ ss) few all =
    let parts = and_parts (is_step count s) (list_all (is_step count) ss) all in
    let own = and_parts (nat_lt s.point MAX_MEMBERS) (nat_lt s.place count) parts.0 in
    let others = steps_are count ss few parts.1 in
    let below : s.place < count = ltb-true s.place count own.1 in record {
      range = (
        record { point = ltb-true s.point MAX_MEMBERS own.0; place = omega (arith, below, few) },
        others.range,
      );
      earlier = ap₂ (λ (a b : Bool). a && b) own.1 others.earlier;
    }

-- ---- positions

-- one more behind others
places_push : (count : ℕ) (places : List Place) (p : Place)
    → ArePlaces count places
    → IsPlace p
    → names_earlier (count + length places) p ≡ true
    → ArePlaces count (places ++ p ∷ [])
places_push count [] p each is earlier =
    let same : count + 0 ≡ count = omega arith in
    (is, subst (λ (n : ℕ). names_earlier n p ≡ true) same earlier, tt)
places_push count (q ∷ qs) p each is earlier =
    let same : count + length (q ∷ qs) ≡ (count + 1) + length qs = omega arith in (
      each.0,
      each.1,
      places_push (count + 1) qs p each.2 is
          (subst (λ (n : ℕ). names_earlier n p ≡ true) same earlier),
    )

-- the first of the positions, and one more
pub place_more : (places : List Place) (i : ℕ) (p : Place)
    → i < length places
    → p ≡ get_or places i p
    → IsPlace p
    → names_earlier i p ≡ true
    → ArePlaces 0 (take i places)
    → ArePlaces 0 (take (i + 1) places)
place_more places i p within at is earlier are =
    let more : take (i + 1) places ≡ take i places ++ p ∷ [] = take_more places i p within
    ∙ ap (λ (q : Place). take i places ++ q ∷ []) (sym at) in
    let count : 0 + length (take i places) ≡ i = omega (arith, length-take i places) in
    subst (λ (ps : List Place). ArePlaces 0 ps) (sym more) (places_push 0 (take i places) p are is
    (subst (λ (n : ℕ). names_earlier n p ≡ true) (sym count) earlier))
