-- What a move changes, and that positions stay positions.
use Rattle.std.proofs.Common.{◌≡◌, ◌≢◌, ℕ, ◌+◌, ◌<◌, ◌≤◌, true, false, ◌||◌, List, [], ◌∷◌, eqb}
use Rattle.std.proofs.Common.{refl, sym, ap, ◌∙◌, subst, inl, inr, ◌⊎◌, arith, eq-eqb, ne_eqb}
use Rattle.std.proofs.Common.{eqb-true}
use Rattle.pg_game.proofs.Common.{cases_Bool, cases_eq, cases_lt, and_parts, and_from, or_right}
use Rattle.pg_game.proofs.Common.{or_cases, not-true, not_from_false, false≢true, lt-ltb, le-ltb}
use Rattle.pg_game.proofs.Common.{FinSet, contains, insert, nat_cmp, ShareNone, Side, X, Y, other}
use Rattle.pg_game.proofs.Common.{in_insert}
use Rattle.pg_game.specs.declared.game.Game.{Game}
use Rattle.pg_game.specs.declared.position.Position.{Position}
use Rattle.pg_game.specs.Position.{is_free, points_of, claims_in_turn, x_after, y_after}
use Rattle.pg_game.specs.Game.{point_count, bias_of, after, with_turn, start, IsPosition}
use Rattle.pg_game.specs.Play.{IsLegalPlay, played}
use Rattle.pg_game.proofs.FreePoints.{is_free-after}
pub use Rattle.pg_game.proofs.Sides.{side≢other, side_cases, other_other}

-- ---- the points of the mover and of the other side

-- of the sets that the sides have after a move, those of a side
after_of : Side → Side → FinSet nat_cmp → FinSet nat_cmp → ℕ → FinSet nat_cmp
after_of turn X x y v = x_after turn x v
after_of turn Y x y v = y_after turn y v

points_of-after : (g : Game) (p : Position) (side : Side) (v : ℕ)
    → points_of (after g p v) side ≡ after_of p.turn side p.x p.y v
unfolding after_of
points_of-after g p X v = refl
points_of-after g p Y v = refl

mover_at : (p : Position) (side : Side) (v : ℕ)
    → after_of side side p.x p.y v ≡ insert (points_of p side) v
unfolding after_of
mover_at p X v = refl
mover_at p Y v = refl

waiter_at : (p : Position) (side : Side) (v : ℕ)
    → after_of (other side) side p.x p.y v ≡ points_of p side
unfolding after_of
waiter_at p X v = refl
waiter_at p Y v = refl

-- the side that moves has one point more
pub points_of-mover : (g : Game) (p : Position) (side : Side) (v : ℕ)
    → p.turn ≡ side
    → points_of (after g p v) side ≡ insert (points_of p side) v
points_of-mover g p side v e =
    points_of-after g p side v ∙ ap (λ (s : Side). after_of s side p.x p.y v) e ∙ mover_at p side v

-- the other side has the points that it had
pub points_of-waiter : (g : Game) (p : Position) (side : Side) (v : ℕ)
    → p.turn ≡ other side
    → points_of (after g p v) side ≡ points_of p side
points_of-waiter g p side v e =
    points_of-after g p side v ∙ ap (λ (s : Side). after_of s side p.x p.y v) e ∙ waiter_at p side v

-- a side's points stay its points
pub points-stay : (g : Game) (p : Position) (side : Side) (v q : ℕ)
    → contains (points_of p side) q ≡ true
    → contains (points_of (after g p v) side) q ≡ true
points-stay g p side v q h = elim (side_cases p.turn side) [
  | inl mine ↦ ap (λ (s : FinSet nat_cmp). contains s q) (points_of-mover g p side v mine)
      ∙ in_insert (points_of p side) v q
      ∙ or_right (eqb q v) _ h
  | inr yours ↦ ap (λ (s : FinSet nat_cmp). contains s q) (points_of-waiter g p side v yours) ∙ h
]

-- what a side has after a move it had before, or it is the point that it took
pub points-from : (g : Game) (p : Position) (side : Side) (v q : ℕ)
    → contains (points_of (after g p v) side) q ≡ true
    → (contains (points_of p side) q ≡ true) ⊎ ((p.turn ≡ side) × (q ≡ v))
points-from g p side v q h = elim (side_cases p.turn side) [
  | inl mine ↦
      let now = sym (ap (λ (s : FinSet nat_cmp). contains s q) (points_of-mover g p side v mine)
      ∙ in_insert (points_of p side) v q)
      ∙ h in
      elim (or_cases (eqb q v) _ now) [ inl new ↦ inr (mine, eqb-true q v new) | inr old ↦ inl old ]
  | inr yours ↦
      inl (sym (ap (λ (s : FinSet nat_cmp). contains s q) (points_of-waiter g p side v yours)) ∙ h)
]

-- the point that is taken is the mover's
pub own-point : (g : Game) (p : Position) (side : Side) (v : ℕ)
    → p.turn ≡ side
    → contains (points_of (after g p v) side) v ≡ true
own-point g p side v e = ap (λ (s : FinSet nat_cmp). contains s v) (points_of-mover g p side v e)
    ∙ in_insert (points_of p side) v v
    ∙ ap (λ b. b || contains (points_of p side) v) (eq-eqb v v refl)

-- ---- turns

-- with more than one point to claim the same side stays to move
pub turn-stays : (g : Game) (p : Position) (v : ℕ) → 1 < p.left → (after g p v).turn ≡ p.turn
turn-stays g p v more = rw (lt-ltb 1 p.left more) refl

-- it then claims one fewer
pub left-falls : (g : Game) (p : Position) (v : ℕ) → 1 < p.left → (after g p v).left + 1 ≡ p.left
left-falls g p v more = rw (lt-ltb 1 p.left more) (omega arith)

-- with the last point the turn passes
pub turn-passes : (g : Game) (p : Position) (v : ℕ) → p.left ≤ 1 → (after g p v).turn ≡ other p.turn
turn-passes g p v last = rw (le-ltb 1 p.left last) refl

-- the other side then claims as many points as it does in a turn
pub left-passes : (g : Game) (p : Position) (v : ℕ)
    → p.left ≤ 1
    → (after g p v).left ≡ bias_of g (other p.turn)
left-passes g p v last = rw (le-ltb 1 p.left last) refl

-- after the other side's last point it is the side's turn
pub turn-replied : (g : Game) (p : Position) (side : Side) (v : ℕ)
    → p.left ≤ 1
    → p.turn ≡ other side
    → (after g p v).turn ≡ side
turn-replied g p side v last e = turn-passes g p v last ∙ ap other e ∙ other_other side

-- X claims one point a turn, so the turn passes after it
pub turn-after_x : (g : Game) (p : Position) (v : ℕ)
    → IsPosition g p
    → p.turn ≡ X
    → (after g p v).turn ≡ Y
turn-after_x g p v is e =
    let few : p.left ≤ 1 = subst (λ (s : Side). p.left ≤ bias_of g s) e is.few_left in
    turn-passes g p v few ∙ ap other e

-- where Y claims one point a turn, the turn passes with each move
pub turn-alternates : (g : Game) (p : Position) (v : ℕ)
    → IsPosition g p
    → g.bias ≡ 1
    → (after g p v).turn ≡ other p.turn
turn-alternates g p v is one = turn-passes g p v (few p.turn is.few_left)
  where
    few : (turn : Side) → p.left ≤ claims_in_turn g.bias turn → p.left ≤ 1
    few X h = h
    few Y h = omega arith

-- ---- free points

-- a free point is no side's
pub free-of : (p : Position) (side : Side) (v : ℕ)
    → is_free p v ≡ true
    → contains (points_of p side) v ≡ false
free-of p X v free = not-true _ (and_parts _ _ free).0
free-of p Y v free = not-true _ (and_parts _ _ free).1

-- a point that isn't taken stays free
pub free-stays : (g : Game) (p : Position) (v q : ℕ)
    → v ≢ q
    → is_free p q ≡ true
    → is_free (after g p v) q ≡ true
free-stays g p v q ne free =
    is_free-after g p v q ∙ and_from _ _ (not_from_false _ (ne_eqb q v (λ e. ne (sym e)))) free

-- what is free after a move was free before, and isn't the point that is taken
pub free-was : (g : Game) (p : Position) (v q : ℕ)
    → is_free (after g p v) q ≡ true
    → (is_free p q ≡ true) × (q ≢ v)
free-was g p v q free =
    let parts = and_parts _ _ (sym (is_free-after g p v q) ∙ free) in
    (parts.1, λ e. absurd (false≢true (sym (not-true _ parts.0) ∙ eq-eqb q v e)))

-- ---- positions

-- no point is both sides'
pub apart : (p : Position) (side : Side) (v : ℕ)
    → ShareNone p.x p.y
    → contains (points_of p (other side)) v ≡ true
    → contains (points_of p side) v ≡ false
apart p X v d h = elim (cases_Bool (contains p.x v)) [
  | inl on ↦ absurd (false≢true (sym (d v on) ∙ h))
  | inr off ↦ off
]
apart p Y v d h = d v h

disjoint_after : (x y : FinSet nat_cmp) (turn : Side) (v : ℕ)
    → ((q : ℕ) → contains x q ≡ true → contains y q ≡ false)
    → contains x v ≡ false
    → contains y v ≡ false
    → (q : ℕ) → contains (x_after turn x v) q ≡ true
    → contains (y_after turn y v) q ≡ false
disjoint_after x y X v d fx fy q h = elim (cases_eq q v) [
  | inl e ↦ ap (contains y) e ∙ fy
  | inr ne ↦ d q (sym (in_insert x v q ∙ ap (λ b. b || contains x q) (ne_eqb q v ne)) ∙ h)
]
disjoint_after x y Y v d fx fy q h = elim (cases_eq q v) [
  | inl e ↦ absurd (false≢true (sym fx ∙ ap (contains x) (sym e) ∙ h))
  | inr ne ↦ in_insert y v q ∙ ap (λ b. b || contains y q) (ne_eqb q v ne) ∙ d q h
]

pub ShareNone-after : (g : Game) (p : Position) (v : ℕ)
    → ShareNone p.x p.y
    → is_free p v ≡ true
    → ShareNone (after g p v).x (after g p v).y
ShareNone-after g p v d free =
    disjoint_after p.x p.y p.turn v d (free-of p X v free) (free-of p Y v free)

-- each side claims at least one point a turn
pub some_bias : (g : Game) (side : Side) → 1 ≤ bias_of g side
some_bias g X = omega arith
some_bias g Y = g.fits.some_bias

pub IsPosition-after : (g : Game) (p : Position) (v : ℕ)
    → IsPosition g p
    → v < point_count g
    → is_free p v ≡ true
    → IsPosition g (after g p v)
IsPosition-after g p v is within free = record {
  x_range = λ q h. elim (points-from g p X v q h) [
    | inl old ↦ is.x_range q old
    | inr new ↦ subst (λ (n : ℕ). n < point_count g) (sym new.1) within
  ];
  y_range = λ q h. elim (points-from g p Y v q h) [
    | inl old ↦ is.y_range q old
    | inr new ↦ subst (λ (n : ℕ). n < point_count g) (sym new.1) within
  ];
  disjoint = ShareNone-after g p v is.disjoint free;
  some_left = elim (cases_lt 1 p.left) [
    | inl more ↦ omega (arith, left-falls g p v more)
    | inr last ↦ omega (arith, left-passes g p v last, some_bias g (other p.turn))
  ];
  few_left = elim (cases_lt 1 p.left) [
    | inl more ↦ subst (λ (s : Side). (after g p v).left ≤ bias_of g s)
        (sym (turn-stays g p v more)) (omega (arith, left-falls g p v more, is.few_left))
    | inr last ↦ subst (λ (s : Side). (after g p v).left ≤ bias_of g s)
        (sym (turn-passes g p v last)) (omega (arith, left-passes g p v last))
  ];
}

-- the marks with a whole turn of a side
pub IsPosition-with_turn : (g : Game) (turn : Side) → IsPosition g (with_turn g turn)
IsPosition-with_turn g turn = record {
  x_range = g.fits.x_range;
  y_range = g.fits.y_range;
  disjoint = g.fits.disjoint;
  some_left = some_bias g turn;
  few_left = omega arith;
}

pub IsPosition-start : (g : Game) → IsPosition g (start g)
IsPosition-start g = IsPosition-with_turn g g.turn

-- a legal play leads to a position
pub IsPosition-played : (g : Game) (p : Position) (moves : List ℕ)
    → IsPosition g p
    → IsLegalPlay g p moves
    → IsPosition g (played g p moves)
IsPosition-played g p [] is legal = is
IsPosition-played g p (v ∷ others) is legal =
    IsPosition-played g (after g p v) others (IsPosition-after g p v is legal.1 legal.2) legal.3
