-- Plans that are checked, one position and one move after another.
use Rattle.std.proofs.Common.{◌≡◌, ◌∙◌, ◌+◌, ◌<◌, ◌||◌, ℕ, Bool, true, false, List, []}
use Rattle.std.proofs.Common.{◌∷◌, ◌++◌, inl, inr, ap, arith, get_or, length, map}
use Rattle.std.proofs.Common.{sym, subst, take, eqb, eqb-true, Some, None}
use Rattle.std.proofs.Common.{slice_get, if◌then◌else◌}
use Rattle.std.proofs.lemmas.Bool.{cases_eq, false≢true, or_cases}
use Rattle.std.proofs.lemmas.List.{map_push, take_more}
use Rattle.std.proofs.lemmas.Option.{get_or_from_slice_get, none-some, slice_get-map}
use Rattle.std.proofs.lemmas.Option.{slice_get_within}
use Rattle.std.proofs.lemmas.List.Elements.{All-push, Contains-append_left, Contains-push}
use Rattle.std.specs.FinSet.{FinSet, contains, contains-empty, empty, insert}
use Rattle.std.specs.Ordering.{nat_cmp}
use Rattle.std.specs.List.{All, Contains}
use Rattle.std.specs.Option.{option_map}
use Rattle.pg_base.proofs.Stands.{same_some}
use Rattle.pg_base.specs.WordLemmas.{in_insert}
use Rattle.pg_base.specs.declared.side.Side.TheVariants.{X, Y}
use Rattle.pg_game.specs.Game.{all_touched, can_join, has_filled, is_full, is_over_by, short_joins}
unfoldable use Rattle.pg_game.specs.Game.{is_over}
use Rattle.pg_game.specs.declared.game.Game.{Game}
use Rattle.pg_game.specs.declared.position.Position.{Position}
use Rattle.pg_maps.specs.declared.grid_map.GridMap.{GridMap}
use Rattle.pg_plan.specs.declared.place.Place.{Place}
use Rattle.pg_plan.specs.declared.place.Step.{Step}
use Rattle.pg_split.specs.Splits.{AreTrueBelow, AreWhole, AreWholeBelow, IsTruePlace, moves_of}
use Rattle.pg_split.specs.Splits.{step_points}
use Rattle.pg_split.specs.declared.numbering.Piece.{Piece}

-- what holds of the first members and of the next one
pub all_more : {X : Type 0} (P : X → Type 0) (xs : List X) (i : ℕ) (d : X)
    → i < length xs
    → P (get_or xs i d)
    → All P (take i xs)
    → All P (take (i + 1) xs)
all_more P xs i d within is are =
    subst (All P) (sym (take_more xs i d within)) (All-push P (take i xs) (get_or xs i d) are is)

-- ---- the points of moves

points_push : (steps : List Step) (i : ℕ) (d : Step)
    → i < length steps
    → step_points (take (i + 1) steps)
    ≡ step_points (take i steps) ++ (get_or steps i d).point ∷ []
points_push steps i d within = ap step_points (take_more steps i d within)
    ∙ map_push (λ (s : Step). s.point) (take i steps) (get_or steps i d)

-- each point of the set is that of one of the moves
abbrev pub ArePointsOf : FinSet nat_cmp → List Step → Type 0
ArePointsOf points steps = (v : ℕ) → contains points v ≡ true → Contains (step_points steps) v

pub points_none : (points : FinSet nat_cmp) → points ≡ empty → ArePointsOf points []
points_none points is v has =
    absurd (false≢true (sym (contains-empty nat_cmp v)
    ∙ sym (ap (λ (s : FinSet nat_cmp). contains s v) is) ∙ has))

pub points_kept : (points : FinSet nat_cmp) (steps : List Step) (i : ℕ) (d : Step)
    → i < length steps
    → ArePointsOf points (take i steps)
    → ArePointsOf points (take (i + 1) steps)
points_kept points steps i d within are v has =
    subst (λ (vs : List ℕ). Contains vs v) (sym (points_push steps i d within))
    (Contains-append_left (step_points (take i steps)) ((get_or steps i d).point ∷ []) v
    (are v has))

pub points_more : (before after : FinSet nat_cmp) (steps : List Step) (i : ℕ) (d : Step)
    → i < length steps
    → after ≡ insert before (get_or steps i d).point
    → ArePointsOf before (take i steps)
    → ArePointsOf after (take (i + 1) steps)
points_more before after steps i d within put are v has =
    let here : (eqb v (get_or steps i d).point || contains before v) ≡ true =
    sym (in_insert before (get_or steps i d).point v)
    ∙ sym (ap (λ (s : FinSet nat_cmp). contains s v) put) ∙ has in
    elim (or_cases (eqb v (get_or steps i d).point) (contains before v) here) [
      | inl new ↦ subst (λ (vs : List ℕ). Contains vs v) (sym (points_push steps i d within))
          (subst (Contains (step_points (take i steps) ++ (get_or steps i d).point ∷ []))
          (sym (eqb-true v (get_or steps i d).point new))
          (Contains-push (step_points (take i steps)) (get_or steps i d).point))
      | inr old ↦ points_kept before steps i d within are v old
    ]

-- the same points, and one more
pub same_more : (steps others : List Step) (i : ℕ) (d : Step)
    → i < length steps
    → i < length others
    → (get_or steps i d).point ≡ (get_or others i d).point
    → step_points (take i steps) ≡ step_points (take i others)
    → step_points (take (i + 1) steps) ≡ step_points (take (i + 1) others)
same_more steps others i d within inside same before = points_push steps i d within
    ∙ (λ k. before k ++ same k ∷ []) ∙ sym (points_push others i d inside)

-- what a member of a list is mapped to
pub image_is_in : {X Y : Type 0} (f : X → Y) (xs : List X) (i : ℕ) (x : X) (y : Y)
    → slice_get xs i ≡ Some x
    → f x ≡ y
    → Contains (map f xs) y
image_is_in f xs i x y at is =
    let here : slice_get (map f xs) i ≡ Some y =
    slice_get-map f xs i ∙ ap (option_map f) at ∙ ap Some is in
    (i, slice_get_within (map f xs) i y here, get_or_from_slice_get (map f xs) i y y here)

-- ---- positions

pub map_is : (b : Bool) (a m : GridMap) → (if b then Some a else None) ≡ Some m → m ≡ a
map_is true a m e = sym (same_some e)
map_is false a m e = absurd (none-some m e)

pub over_is : (g : Game) (p : Position) (r x y t f : Bool)
    → ((a b : Bool) → r ≡ is_over_by g.kind x y t f a b)
    → x ≡ has_filled g p X
    → y ≡ has_filled g p Y
    → t ≡ all_touched g p
    → f ≡ is_full g p
    → r ≡ is_over g p
unfolding is_over
over_is g p r x y t f by ex ey et ef = by (short_joins g p) (can_join g p)
    ∙ (λ i. is_over_by g.kind (ex i) (ey i) (et i) (ef i) (short_joins g p) (can_join g p))

-- one position more
pub true_more : (g : Game) (first : ℕ) (positions : List Position) (pieces : List Piece)
    (plan : List Place) (k : ℕ) (p : Position) (place : Place)
    → slice_get positions k ≡ Some p
    → slice_get plan k ≡ Some place
    → IsTruePlace g first positions pieces p place
    → AreTrueBelow g first positions pieces plan k
    → AreTrueBelow g first positions pieces plan (k + 1)
true_more g first positions pieces plan k p place at_p at_place is below i q other small at_q
    at_other = elim (cases_eq i k) [
      | inl same ↦
          let position : p ≡ q = same_some (sym at_p
          ∙ ap (λ (n : ℕ). slice_get positions n) (sym same) ∙ at_q) in
          let one : place ≡ other = same_some (sym at_place
          ∙ ap (λ (n : ℕ). slice_get plan n) (sym same) ∙ at_other) in
          subst (λ (r : Position). IsTruePlace g first positions pieces r other) position
          (subst (IsTruePlace g first positions pieces p) one is)
      | inr differ ↦ let lower : i < k = omega (arith, small, differ) in
          below i q other lower at_q at_other
    ]

pub whole_more : (g : Game) (old : List Place) (positions : List Position) (plan : List Place)
    (k : ℕ) (p : Position) (place : Place)
    → slice_get positions k ≡ Some p
    → slice_get plan k ≡ Some place
    → AreWhole g old p (moves_of place)
    → AreWholeBelow g old positions plan k
    → AreWholeBelow g old positions plan (k + 1)
whole_more g old positions plan k p place at_p at_place is below i q other small at_q at_other =
    elim (cases_eq i k) [
      | inl same ↦
          let position : p ≡ q = same_some (sym at_p
          ∙ ap (λ (n : ℕ). slice_get positions n) (sym same) ∙ at_q) in
          let one : place ≡ other = same_some (sym at_place
          ∙ ap (λ (n : ℕ). slice_get plan n) (sym same) ∙ at_other) in
          subst (λ (r : Position). AreWhole g old r (moves_of other)) position
          (subst (λ (r : Place). AreWhole g old p (moves_of r)) one is)
      | inr differ ↦ let lower : i < k = omega (arith, small, differ) in
          below i q other lower at_q at_other
    ]
