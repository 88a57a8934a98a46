-- What is known of values, number by number.
use Rattle.std.proofs.Common.{◌≡◌, ◌∙◌, ◌+◌, ◌<◌, ◌&&◌, ◌||◌, ◌==◌, ℕ, Bool, true, false}
use Rattle.std.proofs.Common.{cond, if◌then◌else◌, List, [], ◌∷◌, ◌++◌, Option, Some, None, ap, ap₂}
use Rattle.std.proofs.Common.{arith, drop, get_or, inl, inr, length, nat_lt, refl, slice_get}
use Rattle.std.proofs.Common.{sym, take}
use Rattle.std.proofs.lemmas.Bool.{and_from, and_parts, cases_eq, false_from_ne_true, false≢true}
use Rattle.std.proofs.lemmas.List.{drop_more, get_or_append_left, get_or_push, length_push}
use Rattle.std.proofs.lemmas.List.{take-append-le, take_at, take_more}
use Rattle.std.proofs.lemmas.List.Folds.{list_any-append}
use Rattle.std.proofs.lemmas.Option.{get_or_from_slice_get, slice_get_within}
use Rattle.std.specs.FinSet.{FinSet, contains, contains-empty, empty, insert}
use Rattle.std.specs.Ordering.{nat_cmp}
use borrow.Author.Tests.{eq-eqb, lt-ltb, ltb-true, ne_eqb}
use Rattle.pg_base.specs.Points.{AreWithin}
use Rattle.pg_base.specs.WordLemmas.{in_insert}
use Rattle.pg_base.specs.declared.side.Side.{Side}
use Rattle.pg_game.proofs.FreePoints.{all-free_points}
use Rattle.pg_game.proofs.Greatest.{free-member}
use Rattle.pg_game.proofs.Members.{true-at}
use Rattle.pg_game.specs.Game.{free_points, point_count}
use Rattle.pg_game.specs.Position.{is_free}
use Rattle.pg_game.specs.declared.game.Game.{Game}
use Rattle.pg_game.specs.declared.position.Position.{Position}
use Rattle.pg_plan.specs.declared.place.Place.{Place}
use Rattle.pg_plan.specs.declared.place.Step.{Step}
use Rattle.pg_backing.specs.Backed.{AreSpansOf, best_from, has_all_moves, is_moved, known_of}
use Rattle.pg_backing.specs.Backed.{span_at, with_next}
use Rattle.pg_backing.specs.Spans.{all_scores}
use Rattle.pg_backing.specs.Ways.{may_take}
use Rattle.pg_backing.specs.declared.report.Own.{Own}
use Rattle.pg_backing.specs.declared.report.Own.TheVariants.{Nothing}
use Rattle.pg_backing.specs.declared.span.Span.{Span}

-- the spans of the numbers below n, each by those below it
pub record AreKnownBelow (g : Game) (plan : List Place) (positions : List (Option Position))
    (own : List Own) (spans : List Span) (n : ℕ) : Type 0 where
  pub count : length spans ≡ n
  pub each : (i : ℕ) (place : Place)
      → i < n
      → slice_get plan i ≡ Some place
      → known_of spans i
      ≡ span_at g (take i spans) (get_or own i Nothing) place (get_or positions i None)

-- one span more
pub known_more : (g : Game) (plan : List Place) (positions : List (Option Position))
    (own : List Own) (old new : List Span) (n : ℕ) (place : Place) (span : Span)
    → n < length plan
    → place ≡ get_or plan n place
    → span ≡ span_at g old (get_or own n Nothing) place (get_or positions n None)
    → new ≡ old ++ span ∷ []
    → AreKnownBelow g plan positions own old n
    → AreKnownBelow g plan positions own new (n + 1)
known_more g plan positions own old new n place span within at is push before = record {
  count = ap length push ∙ length_push old span ∙ ap (λ (m : ℕ). m + 1) before.count;
  each = λ i other low there. elim (cases_eq i n) [
    | inl same ↦
        let size : length old ≡ i = omega (arith, before.count, same) in
        let eq : place ≡ other = at ∙ ap (λ (m : ℕ). get_or plan m place) (sym same)
        ∙ get_or_from_slice_get plan i other place there in
        let takes : take i new ≡ old = ap (take i) push ∙ take_at old (span ∷ []) i size in
        ap (λ (xs : List Span). get_or xs i all_scores) push
        ∙ get_or_push old span all_scores i size ∙ is
        ∙ (λ k. span_at g (sym takes k) (get_or own (sym same k) Nothing) (eq k)
        (get_or positions (sym same k) None))
    | inr differ ↦
        let lower : i < n = omega (arith, low, differ) in
        let inside : i < length old = omega (arith, lower, before.count) in
        let takes : take i new ≡ take i old = ap (take i) push
        ∙ take-append-le i old (span ∷ []) (omega (arith, inside)) in
        ap (λ (xs : List Span). get_or xs i all_scores) push
        ∙ get_or_append_left old (span ∷ []) all_scores i inside ∙ before.each i other lower there
        ∙ ap (λ (xs : List Span). span_at g xs (get_or own i Nothing) other
        (get_or positions i None)) (sym takes)
  ];
}

pub known_all : (g : Game) (plan : List Place) (positions : List (Option Position))
    (own : List Own) (spans : List Span) (n : ℕ)
    → n ≡ length plan
    → AreKnownBelow g plan positions own spans n
    → AreSpansOf g plan positions own spans
known_all g plan positions own spans n all known = record {
  count = known.count ∙ all;
  each = λ i place there.
      let within : i < length plan = slice_get_within plan i place there in
      known.each i place (omega (arith, within, all)) there;
}

-- ---- the moves of a position

-- one move more is gone through
pub best_more : (g : Game) (p : Position) (spans : List Span) (best : Option Span)
    (steps : List Step) (i : ℕ) (d : Step)
    → i < length steps
    → best_from g p spans best (drop i steps)
    ≡ best_from g p spans (if may_take g p (get_or steps i d).point
    then with_next p.turn best (known_of spans (get_or steps i d).place)
    else best) (drop (i + 1) steps)
best_more g p spans best steps i d within =
    ap (best_from g p spans best) (drop_more steps i d within)

pub best_taken : (g : Game) (p : Position) (spans : List Span) (old new : Option Span)
    (turn : Side) (steps : List Step) (i : ℕ) (d : Step)
    → i < length steps
    → may_take g p (get_or steps i d).point ≡ true
    → turn ≡ p.turn
    → new ≡ with_next turn old (known_of spans (get_or steps i d).place)
    → best_from g p spans new (drop (i + 1) steps) ≡ best_from g p spans old (drop i steps)
best_taken g p spans old new turn steps i d within may turns is =
    sym (best_more g p spans old steps i d within
    ∙ ap (λ (b : Bool). best_from g p spans
    (cond b (with_next p.turn old (known_of spans (get_or steps i d).place)) old)
    (drop (i + 1) steps)) may
    ∙ ap (λ (o : Option Span). best_from g p spans o (drop (i + 1) steps))
    (sym (is ∙ ap (λ (side : Side). with_next side old
    (known_of spans (get_or steps i d).place)) turns)))

pub best_left : (g : Game) (p : Position) (spans : List Span) (best : Option Span)
    (steps : List Step) (i : ℕ) (d : Step)
    → i < length steps
    → may_take g p (get_or steps i d).point ≡ false
    → best_from g p spans best (drop (i + 1) steps) ≡ best_from g p spans best (drop i steps)
best_left g p spans best steps i d within may = sym (best_more g p spans best steps i d within
    ∙ ap (λ (b : Bool). best_from g p spans
    (cond b (with_next p.turn best (known_of spans (get_or steps i d).place)) best)
    (drop (i + 1) steps)) may)

-- ---- the points of moves

-- the points are those of these moves that may be taken
abbrev pub AreMoved : Game → Position → List Step → FinSet nat_cmp → Type 0
AreMoved g p steps points = (v : ℕ) → contains points v ≡ is_moved g p steps v

eq_swap : (a b : ℕ) → (a == b) ≡ (b == a)
eq_swap a b = elim (cases_eq a b) [
  | inl same ↦ eq-eqb a b same ∙ sym (eq-eqb b a (sym same))
  | inr differ ↦ ne_eqb a b differ ∙ sym (ne_eqb b a (λ e. differ (sym e)))
]

or_flip : (a b : Bool) → (a || b) ≡ (b || (a || false))
or_flip true true = refl
or_flip true false = refl
or_flip false true = refl
or_flip false false = refl

or_last : (a : Bool) → a ≡ (a || false)
or_last true = refl
or_last false = refl

moved_push : (g : Game) (p : Position) (steps : List Step) (i : ℕ) (d : Step) (v : ℕ)
    → i < length steps
    → is_moved g p (take (i + 1) steps) v
    ≡ (is_moved g p (take i steps) v || is_moved g p (get_or steps i d ∷ []) v)
moved_push g p steps i d v within =
    ap (λ (ss : List Step). is_moved g p ss v) (take_more steps i d within)
    ∙ list_any-append (λ (s : Step). may_take g p s.point && (s.point == v)) (take i steps)
    (get_or steps i d ∷ [])

pub points_none : (g : Game) (p : Position) (points : FinSet nat_cmp)
    → points ≡ empty
    → AreMoved g p [] points
points_none g p points is v =
    ap (λ (s : FinSet nat_cmp). contains s v) is ∙ contains-empty nat_cmp v

pub points_taken : (g : Game) (p : Position) (old new : FinSet nat_cmp) (steps : List Step)
    (i : ℕ) (d : Step)
    → i < length steps
    → may_take g p (get_or steps i d).point ≡ true
    → new ≡ insert old (get_or steps i d).point
    → AreMoved g p (take i steps) old
    → AreMoved g p (take (i + 1) steps) new
points_taken g p old new steps i d within may is before v =
    let q : ℕ = (get_or steps i d).point in
    ap (λ (s : FinSet nat_cmp). contains s v) is ∙ in_insert old q v
    ∙ ap₂ (λ (a b : Bool). a || b) (eq_swap v q) (before v)
    ∙ or_flip (q == v) (is_moved g p (take i steps) v)
    ∙ ap (λ (b : Bool). is_moved g p (take i steps) v || ((b && (q == v)) || false)) (sym may)
    ∙ sym (moved_push g p steps i d v within)

pub points_left : (g : Game) (p : Position) (points : FinSet nat_cmp) (steps : List Step)
    (i : ℕ) (d : Step)
    → i < length steps
    → may_take g p (get_or steps i d).point ≡ false
    → AreMoved g p (take i steps) points
    → AreMoved g p (take (i + 1) steps) points
points_left g p points steps i d within may before v =
    let q : ℕ = (get_or steps i d).point in
    before v ∙ or_last (is_moved g p (take i steps) v)
    ∙ ap (λ (b : Bool). is_moved g p (take i steps) v || ((b && (q == v)) || false)) (sym may)
    ∙ sym (moved_push g p steps i d v within)

-- the free points are among those of moves just where each is moved
pub moves_all : (g : Game) (p : Position) (steps : List Step) (free points : FinSet nat_cmp)
    (b : Bool)
    → ((v : ℕ) → contains free v ≡ (nat_lt v (point_count g) && is_free p v))
    → AreMoved g p steps points
    → (b ≡ true → AreWithin free points)
    → (AreWithin free points → b ≡ true)
    → b ≡ has_all_moves g p steps
moves_all g p steps free points true are moved to from =
    sym (all-free_points g p (is_moved g p steps) (λ v within is.
    sym (moved v) ∙ to refl v (are v
    ∙ and_from (nat_lt v (point_count g)) (is_free p v) (lt-ltb v (point_count g) within) is)))
moves_all g p steps free points false are moved to from =
    sym (false_from_ne_true (has_all_moves g p steps) (λ all. false≢true (from (λ v has.
    let parts = and_parts (nat_lt v (point_count g)) (is_free p v) (sym (are v) ∙ has) in
    moved v ∙ true-at (is_moved g p steps) (free_points g p) v all
    (free-member g p v (ltb-true v (point_count g) parts.0) parts.1)))))
