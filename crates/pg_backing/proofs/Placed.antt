-- Positions that are put at the numbers of a plan, from the last number down.
use Rattle.std.proofs.Common.{◌≡◌, ◌∙◌, ◌+◌, ◌-◌, ◌<◌, ◌≤◌, ◌&&◌, ◌==◌, ℕ, zero, suc, Bool, true}
use Rattle.std.proofs.Common.{false, cond, if◌then◌else◌, List, [], ◌∷◌, ◌++◌, Option, Some, None}
use Rattle.std.proofs.Common.{ap, ap₂, arith, drop, get_or, inl, inr, le_of_suc-le-suc, length}
use Rattle.std.proofs.Common.{length-drop, nat_lt, not-suc-le-zero, refl, subst, sym, take}
use Rattle.std.proofs.lemmas.Bool.{and_parts, and_right, cases_eq}
use Rattle.std.proofs.lemmas.List.{drop_more, ext_get_or, get_or-drop, take_at, take_more}
use Rattle.std.specs.List.{list_all}
use Rattle.std.specs.Option.{option_or}
use borrow.Author.Tests.{ltb-true, ne_eqb}
use Rattle.pg_game.specs.Game.{after, start}
use Rattle.pg_game.specs.declared.game.Game.{Game}
use Rattle.pg_game.specs.declared.position.Position.{Position}
use Rattle.pg_plan.specs.Places.{ArePlaces, names_earlier}
use Rattle.pg_plan.specs.declared.place.Place.{Place}
use Rattle.pg_plan.specs.declared.place.Place.TheVariants as places
use Rattle.pg_plan.specs.declared.place.Step.{Step}
use Rattle.pg_backing.specs.Ways.{ArePut, first_way, may_take, moved, source_of, way_from}

-- ---- options

or_assoc : (a b c : Option Position)
    → option_or (option_or a b) c ≡ option_or a (option_or b c)
or_assoc None b c = refl
or_assoc (Some x) b c = refl

or_none : (a : Option Position) → option_or a None ≡ a
or_none None = refl
or_none (Some x) = refl

-- what stands at each number stays as it is
pub put_none : (given : ℕ → Option Position) (old new : List (Option Position))
    → new ≡ old
    → ((j : ℕ) → given j ≡ None)
    → ArePut given old new
put_none given old new same none = record {
  count = ap length same;
  each = λ j _. ap (λ (xs : List (Option Position)). get_or xs j None) same
      ∙ sym (or_none (get_or old j None)) ∙ ap (option_or (get_or old j None)) (sym (none j));
}

-- ---- moves

kept_or : (b : Bool) (y : Position) (a c d : Option Position)
    → a ≡ option_or c d
    → cond b (Some y) a ≡ option_or (cond b (Some y) c) d
kept_or true y a c d e = refl
kept_or false y a c d e = e

moved_push : (g : Game) (p : Position) (steps : List Step) (s : Step) (j : ℕ)
    → moved g p (steps ++ s ∷ []) j ≡ option_or (moved g p steps j) (moved g p (s ∷ []) j)
moved_push g p [] s j = refl
moved_push g p (t ∷ steps) s j = kept_or (may_take g p t.point && (t.place == j))
    (after g p t.point) (moved g p (steps ++ s ∷ []) j) (moved g p steps j)
    (moved g p (s ∷ []) j) (moved_push g p steps s j)

-- the first moves, and one more
moved_more : (g : Game) (p : Position) (steps : List Step) (i : ℕ) (d : Step) (j : ℕ)
    → i < length steps
    → moved g p (take (i + 1) steps) j
    ≡ option_or (moved g p (take i steps) j) (moved g p (get_or steps i d ∷ []) j)
moved_more g p steps i d j within = ap (λ (ss : List Step). moved g p ss j)
    (take_more steps i d within) ∙ moved_push g p (take i steps) (get_or steps i d) j

put_more : (g : Game) (p : Position) (steps : List Step) (i : ℕ) (d : Step)
    (first old new : List (Option Position))
    → i < length steps
    → may_take g p (get_or steps i d).point ≡ true
    → ArePut (moved g p (take i steps)) first old
    → ArePut (λ j. if (get_or steps i d).place == j
    then Some (after g p (get_or steps i d).point)
    else None) old new
    → ArePut (moved g p (take (i + 1) steps)) first new
put_more g p steps i d first old new within may before put = record {
  count = put.count ∙ before.count;
  each = λ j small.
      let s = get_or steps i d in
      let one : moved g p (s ∷ []) j ≡ (if s.place == j then Some (after g p s.point) else None) =
      ap (λ (b : Bool). cond (b && (s.place == j)) (Some (after g p s.point)) None) may in
      put.each j (omega (arith, small, before.count))
      ∙ ap (λ (o : Option Position). option_or o
      (if s.place == j then Some (after g p s.point) else None)) (before.each j small)
      ∙ or_assoc (get_or first j None) (moved g p (take i steps) j)
      (if s.place == j then Some (after g p s.point) else None)
      ∙ ap (λ (o : Option Position). option_or (get_or first j None)
      (option_or (moved g p (take i steps) j) o)) (sym one)
      ∙ ap (option_or (get_or first j None)) (sym (moved_more g p steps i d j within));
}

pub put_taken : (g : Game) (p : Position) (steps : List Step) (i : ℕ) (d : Step) (q : Position)
    (first old new last : List (Option Position))
    → i < length steps
    → may_take g p (get_or steps i d).point ≡ true
    → q ≡ after g p (get_or steps i d).point
    → ArePut (moved g p (take i steps)) first old
    → ArePut (λ j. if (get_or steps i d).place == j then Some q else None) old new
    → last ≡ new
    → ArePut (moved g p (take (i + 1) steps)) first last
put_taken g p steps i d q first old new last within may is before put end =
    subst (ArePut (moved g p (take (i + 1) steps)) first) (sym end)
    (put_more g p steps i d first old new within may before
    (subst (λ (r : Position). ArePut
    (λ j. if (get_or steps i d).place == j then Some r else None) old new) is put))

pub put_same : (g : Game) (p : Position) (steps : List Step) (i : ℕ) (d : Step)
    (first old : List (Option Position))
    → i < length steps
    → may_take g p (get_or steps i d).point ≡ false
    → ArePut (moved g p (take i steps)) first old
    → ArePut (moved g p (take (i + 1) steps)) first old
put_same g p steps i d first old within may before = record {
  count = before.count;
  each = λ j small.
      let s = get_or steps i d in
      let one : moved g p (s ∷ []) j ≡ None =
      ap (λ (b : Bool). cond (b && (s.place == j)) (Some (after g p s.point)) None) may in
      before.each j small
      ∙ ap (option_or (get_or first j None)) (sym (moved_more g p steps i d j within
      ∙ ap (option_or (moved g p (take i steps) j)) one ∙ or_none (moved g p (take i steps) j)));
}

-- ---- places that name earlier ones

not_late : (i k j : ℕ) → nat_lt i k ≡ true → k ≤ j → (i == j) ≡ false
not_late i k j low high = ne_eqb i j (λ same. let below = ltb-true i k low in omega arith)

moved_late : (g : Game) (p : Position) (steps : List Step) (k j : ℕ)
    → list_all (λ s. nat_lt s.place k) steps ≡ true
    → k ≤ j
    → moved g p steps j ≡ None
moved_late g p [] k j early high = refl
moved_late g p (s ∷ steps) k j early high =
    let parts = and_parts (nat_lt s.place k) (list_all (λ t. nat_lt t.place k) steps) early in
    ap (λ (b : Bool). cond b (Some (after g p s.point)) (moved g p steps j))
    (and_right (may_take g p s.point) (s.place == j) (not_late s.place k j parts.0 high))
    ∙ moved_late g p steps k j parts.1 high

way_late : (g : Game) (place : Place) (p : Option Position) (k j : ℕ)
    → names_earlier k place ≡ true
    → k ≤ j
    → way_from g place p j ≡ None
way_late g place None k j early high = refl
way_late g places.Decided (Some p) k j early high = refl
way_late g (places.Image m i) (Some p) k j early high =
    ap (λ (b : Bool). cond b (source_of g m p) None) (not_late i k j early high)
way_late g (places.Game n steps) (Some p) k j early high = moved_late g p steps k j early high
way_late g (places.Moves steps) (Some p) k j early high = moved_late g p steps k j early high

early_at : (count : ℕ) (plan : List Place) (i : ℕ) (place : Place)
    → ArePlaces count plan
    → i < length plan
    → place ≡ get_or plan i place
    → names_earlier (count + i) place ≡ true
early_at count [] i place are within at = absurd (not-suc-le-zero within)
early_at count (p ∷ plan) zero place are within at =
    let same : count ≡ count + 0 = omega arith in
    subst (λ (n : ℕ). names_earlier n place ≡ true) same
    (ap (names_earlier count) at ∙ are.1)
early_at count (p ∷ plan) (suc i) place are within at =
    let same : (count + 1) + i ≡ count + suc i = omega arith in
    let lower : i < length plan = le_of_suc-le-suc within in
    subst (λ (n : ℕ). names_earlier n place ≡ true) same
    (early_at (count + 1) plan i place are.2 lower at)

-- ---- from the last number down

-- these are the positions once the numbers from m on have been gone through
pub record AreStanding (g : Game) (plan : List Place) (positions : List (Option Position))
    (m : ℕ) : Type 0 where
  pub count : length positions ≡ length plan
  pub last : 0 < length plan → get_or positions (length plan - 1) None ≡ Some (start g)
  pub below : ArePlaces 0 plan
      → (i : ℕ)
      → i < m
      → i + 1 < length plan
      → get_or positions i None ≡ first_way g (drop m plan) (drop m positions) i
  pub above : ArePlaces 0 plan
      → (i : ℕ)
      → m ≤ i
      → i + 1 < length plan
      → get_or positions i None ≡ first_way g (drop (i + 1) plan) (drop (i + 1) positions) i

-- the positions from a number on are the same
rest_same : (old new : List (Option Position)) (k n : ℕ)
    → length new ≡ length old
    → ((j : ℕ) → k ≤ j → j < length old → get_or new j None ≡ get_or old j None)
    → k ≤ n
    → drop n new ≡ drop n old
rest_same old new k n count same high = ext_get_or None (drop n new) (drop n old)
    (length-drop n new ∙ ap (λ (m : ℕ). m - n) count ∙ sym (length-drop n old))
    (λ i within. let inside : n + i < length old =
    omega (arith, within, length-drop n new, count) in
    get_or-drop n new i None ∙ same (n + i) (omega (arith, high)) inside
    ∙ sym (get_or-drop n old i None))

-- what stood at a number that has been gone through
stood : (g : Game) (plan : List Place) (k i : ℕ) (old : List (Option Position))
    → k ≤ i
    → i + 1 < length plan
    → ((j : ℕ)
    → j < k + 1
    → j + 1 < length plan
    → get_or old j None ≡ first_way g (drop (k + 1) plan) (drop (k + 1) old) j)
    → ((j : ℕ)
    → k + 1 ≤ j
    → j + 1 < length plan
    → get_or old j None ≡ first_way g (drop (j + 1) plan) (drop (j + 1) old) j)
    → get_or old i None ≡ first_way g (drop (i + 1) plan) (drop (i + 1) old) i
stood g plan k i old low high below above = elim (cases_eq i k) [
  | inl here ↦ below i (omega (arith, here)) high
      ∙ ap (λ (n : ℕ). first_way g (drop (n + 1) plan) (drop (n + 1) old) i) (sym here)
  | inr other ↦ above i (omega (arith, low, other)) high
]

-- one number more has been gone through
pub stands_more : (g : Game) (plan : List Place) (k : ℕ) (place : Place)
    (old new : List (Option Position))
    → k < length plan
    → place ≡ get_or plan k place
    → ArePut (way_from g place (get_or old k None)) old new
    → AreStanding g plan old (k + 1)
    → AreStanding g plan new k
stands_more g plan k place old new within at put before =
    let from = get_or old k None in
    let count : length new ≡ length plan = put.count ∙ before.count in
    let plain : 0 + k ≡ k = omega arith in
    let early : ArePlaces 0 plan → names_earlier k place ≡ true = λ are.
    subst (λ (n : ℕ). names_earlier n place ≡ true) plain (early_at 0 plan k place are within at) in
    let same : ArePlaces 0 plan
    → (j : ℕ)
    → k ≤ j
    → j < length old
    → get_or new j None ≡ get_or old j None =
    λ are j high small. put.each j small
    ∙ ap (option_or (get_or old j None)) (way_late g place from k j
    (early are) high) ∙ or_none (get_or old j None) in
    let rest : ArePlaces 0 plan → (n : ℕ) → k ≤ n → drop n new ≡ drop n old =
    λ are n high. rest_same old new k n put.count (same are) high in
    let split : ArePlaces 0 plan
    → (j : ℕ)
    → first_way g (drop k plan) (drop k new) j
    ≡ option_or (first_way g (drop (k + 1) plan) (drop (k + 1) old) j)
    (way_from g place from j) =
    λ are j. ap₂ (λ (ps : List Place) (qs : List (Option Position)). first_way g ps qs j)
    (drop_more plan k place within ∙ ap (λ (q : Place). q ∷ drop (k + 1) plan) (sym at))
    (rest are k (omega arith) ∙ drop_more old k None (omega (arith, within, before.count))) in
    record {
      count = count;
      last = λ some. put.each (length plan - 1) (omega (arith, some, before.count))
          ∙ ap (λ (o : Option Position). option_or o (way_from g place from (length plan - 1)))
          (before.last some);
      below = λ are i low high. put.each i (omega (arith, high, before.count))
          ∙ ap (λ (o : Option Position). option_or o (way_from g place from i))
          (before.below are i (omega (arith, low)) high) ∙ sym (split are i);
      above = λ are i low high. same are i low (omega (arith, high, before.count))
          ∙ stood g plan k i old low high (before.below are) (before.above are)
          ∙ ap (λ (qs : List (Option Position)). first_way g (drop (i + 1) plan) qs i)
          (sym (rest are (i + 1) (omega (arith, low))));
    }

-- so in a vector of n positions that was lent as a slice
pub gone_on : (g : Game) (plan : List Place) (done : ℕ) (place : Place) (n : ℕ)
    (items slice new : List (Option Position))
    → done < length plan
    → place ≡ get_or plan ((length plan - 1) - done) place
    → slice ≡ items
    → length slice ≡ n
    → ArePut (way_from g place (get_or slice ((length plan - 1) - done) None)) slice new
    → AreStanding g plan items (length plan - done)
    → AreStanding g plan (take n (new ++ drop (length new) items)) (length plan - (done + 1))
gone_on g plan done place n items slice new within at is size put before =
    let k : ℕ = (length plan - 1) - done in
    let next : length plan - (done + 1) ≡ k = omega (arith, within) in
    let here : length plan - done ≡ k + 1 = omega (arith, within) in
    let same : take n (new ++ drop (length new) items) ≡ new =
    take_at new (drop (length new) items) n (put.count ∙ size) in
    subst (λ (qs : List (Option Position)). AreStanding g plan qs (length plan - (done + 1)))
    (sym same) (subst (AreStanding g plan new) (sym next)
    (stands_more g plan k place slice new (omega (arith, within)) at put
    (subst (AreStanding g plan slice) here
    (subst (λ (qs : List (Option Position)). AreStanding g plan qs (length plan - done)) (sym is)
    before))))
