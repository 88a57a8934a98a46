-- The best of the values after the moves from a point on.
use Rattle.std.proofs.Common.{◌≡◌, ℕ, ◌+◌, ◌<◌, true, false, List, ◌∷◌, Some, None, if◌then◌else◌}
use Rattle.std.proofs.Common.{refl, sym, ◌∙◌, subst, inl, inr}
use Rattle.pg_plain.proofs.Common.{cases_Bool, cond-true, cond-false, Side, X, Y, Score, Game}
use Rattle.pg_plain.proofs.Common.{Position, AreBelow, point_count, after, is_over, outcome}
use Rattle.pg_plain.proofs.Common.{is_free, best, better, value}
use Rattle.pg_game.proofs.Moves.{points-from}
use Rattle.pg_plain.proofs.MovesFrom.{told_from, from-free, from-all}
use Rattle.pg_game.proofs.ValueLaws.{value-step, value-over}

-- the best of the values after moves to the free points from a on
abbrev pub best_from : Game → Position → ℕ → Score
best_from g p = told_from g p (best p.turn) (λ v. value g (after g p v))

best-more : (side : Side) (s : Score) (ss : List Score)
    → best side (s ∷ ss) ≡ better side s (best side ss)
best-more X s ss = refl
best-more Y s ss = refl

-- a free point more
pub best-free : (g : Game) (p : Position) (a : ℕ)
    → a < point_count g
    → is_free p a ≡ true
    → best_from g p a ≡ better p.turn (value g (after g p a)) (best_from g p (a + 1))
best-free g p a within free = from-free g p (best p.turn) (λ v. value g (after g p v))
    (better p.turn) (best-more p.turn) a within free

-- all points
pub best-all : (g : Game) (p : Position) → is_over g p ≡ false → best_from g p 0 ≡ value g p
best-all g p going =
    from-all g p (best p.turn) (λ v. value g (after g p v)) ∙ sym (value-step g p going)

-- X's points stay points of the game
pub x_range-after : (g : Game) (p : Position) (v : ℕ)
    → AreBelow p.x (point_count g)
    → v < point_count g
    → AreBelow (after g p v).x (point_count g)
x_range-after g p v range within = λ q h. elim (points-from g p X v q h) [
  | inl old ↦ range q old
  | inr new ↦ subst (λ (n : ℕ). n < point_count g) (sym new.1) within
]

-- where the judge gives no outcome the game isn't over
pub over-none : (g : Game) (p : Position)
    → None ≡ (if is_over g p then Some (outcome g p) else None)
    → is_over g p ≡ false
over-none g p h = elim (cases_Bool (is_over g p)) [
  | inl over ↦ absurd (none≢some (outcome g p) (h ∙ cond-true (is_over g p) _ _ over))
  | inr going ↦ going
]
  where
    none≢some : (s : Score) → None ≡ Some s → ⊥
    none≢some s e = cc

-- the outcome that the judge gives is the value
pub over-some : (g : Game) (p : Position) (s : Score)
    → Some s ≡ (if is_over g p then Some (outcome g p) else None)
    → s ≡ value g p
over-some g p s h = elim (cases_Bool (is_over g p)) [
  | inl over ↦
      same s (outcome g p) (h ∙ cond-true (is_over g p) _ _ over) ∙ sym (value-over g p over)
  | inr going ↦ absurd (some≢none s (h ∙ cond-false (is_over g p) _ _ going))
]
  where
    some≢none : (s : Score) → Some s ≡ None → ⊥
    some≢none s e = cc

    same : (s u : Score) → Some s ≡ Some u → s ≡ u
    same s u e = cc
