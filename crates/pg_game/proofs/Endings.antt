-- The end of a Maker-Breaker game in two positions of which one is no worse for a side.
use Rattle.std.proofs.Common.{◌≡◌, ℕ, ◌<◌, Bool, true, false, not, ◌&&◌, ◌||◌, List, [], ◌∷◌, refl}
use Rattle.std.proofs.Common.{sym, ap, ap₂, ◌∙◌, inl, inr, ◌⊎◌}
use Rattle.pg_game.proofs.Common.{cases_Bool, and_from, or_cases, or_left, or_right, false≢true}
use Rattle.pg_game.proofs.Common.{both_ways, All-contains, list_any, list_all, All, Contains}
use Rattle.pg_game.proofs.Common.{FinSet, contains, nat_cmp, Goal, Win, Kind, MakerBreaker, Score}
use Rattle.pg_game.proofs.Common.{XWins, YWins, Side, X, Y, AreWithin}
use Rattle.pg_base.specs.declared.goal.Goal.TheVariants.{Draw as AtLeastDraw}
use Rattle.pg_game.specs.declared.game.Game.{Game}
use Rattle.pg_game.specs.declared.position.Position.{Position}
use Rattle.pg_game.specs.Game.{point_count, lines_of, is_filled, is_touched, has_filled}
use Rattle.pg_game.specs.Game.{all_touched, is_full, is_over, outcome, is_over_by, outcome_by}
use Rattle.pg_game.specs.Game.{short_joins, can_join}
use Rattle.pg_game.specs.Value.{reaches, Forces}
use Rattle.pg_game.proofs.FreePoints.{none-full}
use Rattle.pg_game.proofs.Members.{Contains-head, Contains-tail, true-at, false-at, list_any-one}
use Rattle.pg_game.proofs.Members.{member-from_any}
use Rattle.pg_game.proofs.Limits.{lines-range}
use Rattle.pg_game.proofs.ValueLaws.{value-over}
use Rattle.pg_game.specs.Weaker.{IsNoWorse}

-- ---- a test of all members

module _ {A : Type 0} (t : A → Bool) where
  list_all-each : (xs : List A) → ((x : A) → Contains xs x → t x ≡ true) → list_all t xs ≡ true
  list_all-each [] each = refl
  list_all-each (x ∷ xs) each = and_from (t x) _ (each x (Contains-head x xs))
      (list_all-each xs (λ y c. each y (Contains-tail x y xs c)))

  -- where not all members pass one fails
  member-failing : (xs : List A) → list_all t xs ≡ false → (x : A) × Contains xs x × (t x ≡ false)
  member-failing [] some = absurd (false≢true (sym some))
  member-failing (x ∷ xs) some = elim (cases_Bool (t x)) [
    | inl on ↦
        let rest = member-failing xs (rw on at some) in
        (rest.0, Contains-tail x rest.0 xs rest.1, rest.2)
    | inr off ↦ (x, Contains-head x xs, off)
  ]

-- ---- more points fill and touch more lines

filled-more : (s t : FinSet nat_cmp) (line : List ℕ)
    → AreWithin s t
    → is_filled s line ≡ true
    → is_filled t line ≡ true
filled-more s t line within filled =
    list_all-each (contains t) line (λ v c. within v (true-at (contains s) line v filled c))

touched-more : (s t : FinSet nat_cmp) (line : List ℕ)
    → AreWithin s t
    → is_touched s line ≡ true
    → is_touched t line ≡ true
touched-more s t line within touched =
    let found = member-from_any (contains s) line touched in
    list_any-one (contains t) line found.0 found.1 (within found.0 found.2)

-- whether some line is filled by the set, and whether each is touched by it
abbrev fills_some : Game → FinSet nat_cmp → Bool
fills_some g s = list_any (is_filled s) (lines_of g)

abbrev touches_all : Game → FinSet nat_cmp → Bool
touches_all g s = list_all (is_touched s) (lines_of g)

fills_some-more : (g : Game) (s t : FinSet nat_cmp)
    → AreWithin s t
    → fills_some g s ≡ true
    → fills_some g t ≡ true
fills_some-more g s t within filled =
    let found = member-from_any (is_filled s) (lines_of g) filled in
    list_any-one (is_filled t) (lines_of g) found.0 found.1 (filled-more s t found.0 within found.2)

touches_all-more : (g : Game) (s t : FinSet nat_cmp)
    → AreWithin s t
    → touches_all g s ≡ true
    → touches_all g t ≡ true
touches_all-more g s t within touched = list_all-each (is_touched t) (lines_of g)
    (λ line c. touched-more s t line within (true-at (is_touched s) (lines_of g) line touched c))

-- ---- when a Maker-Breaker game is over

-- where no point is free and X has filled no line, Y has a point of each
full-touched : (g : Game) (p : Position)
    → is_full g p ≡ true
    → fills_some g p.x ≡ false
    → touches_all g p.y ≡ true
full-touched g p full none = list_all-each (is_touched p.y) (lines_of g) (λ line c.
    let lacked =
    member-failing (contains p.x) line (false-at (is_filled p.x) (lines_of g) line none c) in
    let within = All-contains (λ v. v < point_count g) line lacked.0
    (All-contains (All (λ v. v < point_count g)) (lines_of g) line (lines-range g) c) lacked.1 in
    list_any-one (contains p.y) line lacked.0 lacked.1 (taken (contains p.x lacked.0)
    (contains p.y lacked.0) lacked.2 (none-full g p full lacked.0 within)))
  where
    taken : (a b : Bool) → a ≡ false → (not a && not b) ≡ false → b ≡ true
    taken a true off h = refl
    taken true false off h = absurd (false≢true (sym off))
    taken false false off h = absurd (false≢true (sym h))

-- the rules of a Maker-Breaker game
over-breaker : (g : Game) (p : Position)
    → g.kind ≡ MakerBreaker
    → is_over g p ≡ (fills_some g p.x || (touches_all g p.y || is_full g p))
unfolding is_over
over-breaker g p kind = ap (λ (k : Kind). is_over_by k (has_filled g p X) (has_filled g p Y)
    (all_touched g p) (is_full g p) (short_joins g p) (can_join g p)) kind

-- it is over by X's line, or by Y's points of every line
over-cases : (g : Game) (p : Position)
    → g.kind ≡ MakerBreaker
    → is_over g p ≡ true
    → (fills_some g p.x ≡ true) ⊎ ((fills_some g p.x ≡ false) × (touches_all g p.y ≡ true))
over-cases g p kind over = elim (cases_Bool (fills_some g p.x)) [
  | inl filled ↦ inl filled
  | inr none ↦ elim (or_cases (fills_some g p.x) _ (sym (over-breaker g p kind) ∙ over)) [
    | inl filled ↦ inl filled
    | inr rest ↦ elim (or_cases (touches_all g p.y) _ rest) [
      | inl touched ↦ inr (none, touched)
      | inr full ↦ inr (none, full-touched g p full none)
    ]
  ]
]

over-filled : (g : Game) (p : Position)
    → g.kind ≡ MakerBreaker
    → fills_some g p.x ≡ true
    → is_over g p ≡ true
over-filled g p kind filled = over-breaker g p kind ∙ or_left (fills_some g p.x) _ filled

over-touched : (g : Game) (p : Position)
    → g.kind ≡ MakerBreaker
    → touches_all g p.y ≡ true
    → is_over g p ≡ true
over-touched g p kind touched =
    over-breaker g p kind ∙ or_right (fills_some g p.x) _ (or_left (touches_all g p.y) _ touched)

outcome-filled : (g : Game) (p : Position)
    → g.kind ≡ MakerBreaker
    → fills_some g p.x ≡ true
    → outcome g p ≡ XWins
unfolding outcome
outcome-filled g p kind filled =
    ap₂ (λ (k : Kind) (x : Bool). outcome_by k x (has_filled g p Y) (short_joins g p)) kind filled

outcome-unfilled : (g : Game) (p : Position)
    → g.kind ≡ MakerBreaker
    → fills_some g p.x ≡ false
    → outcome g p ≡ YWins
unfolding outcome
outcome-unfilled g p kind none =
    ap₂ (λ (k : Kind) (x : Bool). outcome_by k x (has_filled g p Y) (short_joins g p)) kind none

-- ---- what a win is worth

x_reaches : (goal : Goal) → reaches X goal XWins ≡ true
x_reaches Win = refl
x_reaches AtLeastDraw = refl

y_reaches : (goal : Goal) → reaches Y goal YWins ≡ true
y_reaches Win = refl
y_reaches AtLeastDraw = refl

x_fails : (goal : Goal) → reaches X goal YWins ≡ false
x_fails Win = refl
x_fails AtLeastDraw = refl

y_fails : (goal : Goal) → reaches Y goal XWins ≡ false
y_fails Win = refl
y_fails AtLeastDraw = refl

-- a lost end isn't forced
not-forced : (g : Game) (q : Position) (side : Side) (goal : Goal) (s : Score)
    → is_over g q ≡ true
    → outcome g q ≡ s
    → reaches side goal s ≡ false
    → Forces g q side goal
    → ⊥
not-forced g q side goal s over is fails forced =
    false≢true (sym fails ∙ ap (reaches side goal) (sym (value-over g q over ∙ is)) ∙ forced)

-- ---- the ends of the two positions

-- where the better position is over the goal is reached
pub ends-no_worse : (g : Game) (q p : Position) (side : Side) (goal : Goal)
    → g.kind ≡ MakerBreaker
    → IsNoWorse side q p
    → Forces g q side goal
    → is_over g p ≡ true
    → reaches side goal (outcome g p) ≡ true
ends-no_worse g q p X goal kind h forced over = elim (over-cases g p kind over) [
  | inl filled ↦ ap (reaches X goal) (outcome-filled g p kind filled) ∙ x_reaches goal
  | inr lost ↦
      let none : fills_some g q.x ≡ false = elim (cases_Bool (fills_some g q.x)) [
        | inl filled ↦ absurd (both_ways _ lost.0 (fills_some-more g q.x p.x h.own filled))
        | inr none ↦ none
      ] in
      absurd
      (not-forced g q X goal YWins
      (over-touched g q kind (touches_all-more g p.y q.y h.theirs lost.1))
      (outcome-unfilled g q kind none) (x_fails goal) forced)
]
ends-no_worse g q p Y goal kind h forced over = elim (over-cases g p kind over) [
  | inl filled ↦
      let lost = fills_some-more g p.x q.x h.theirs filled in
      absurd
      (not-forced g q Y goal XWins (over-filled g q kind lost) (outcome-filled g q kind lost)
      (y_fails goal) forced)
  | inr won ↦ ap (reaches Y goal) (outcome-unfilled g p kind won.0) ∙ y_reaches goal
]

-- where the weaker one is over so is the better
over-weaker : (g : Game) (q p : Position) (side : Side) (goal : Goal)
    → g.kind ≡ MakerBreaker
    → IsNoWorse side q p
    → Forces g q side goal
    → is_over g q ≡ true
    → is_over g p ≡ true
over-weaker g q p X goal kind h forced over = elim (over-cases g q kind over) [
  | inl filled ↦ over-filled g p kind (fills_some-more g q.x p.x h.own filled)
  | inr lost ↦ absurd
      (not-forced g q X goal YWins over (outcome-unfilled g q kind lost.0) (x_fails goal) forced)
]
over-weaker g q p Y goal kind h forced over = elim (over-cases g q kind over) [
  | inl lost ↦
      absurd (not-forced g q Y goal XWins over (outcome-filled g q kind lost) (y_fails goal) forced)
  | inr won ↦ over-touched g p kind (touches_all-more g q.y p.y h.own won.1)
]

-- so the weaker one goes on while the better does; without the force it needn't, since it may be
-- lost
pub going-weaker : (g : Game) (q p : Position) (side : Side) (goal : Goal)
    → g.kind ≡ MakerBreaker
    → IsNoWorse side q p
    → Forces g q side goal
    → is_over g p ≡ false
    → is_over g q ≡ false
going-weaker g q p side goal kind h forced going = elim (cases_Bool (is_over g q)) [
  | inl over ↦ absurd (both_ways _ going (over-weaker g q p side goal kind h forced over))
  | inr on ↦ on
]
