-- Values by rules, what a side forces by one step, and by keeping an invariant.
use Rattle.std.proofs.Common.{◌≡◌, ℕ, zero, suc, ◌+◌, ◌-◌, ◌<◌, ◌≤◌, Bool, true, false, not, ◌&&◌}
use Rattle.std.proofs.Common.{◌∷◌, map, length, refl, sym, ap, ◌∙◌, inl, inr, arith, eqb}
use Rattle.pg_game.proofs.Common.{cases_Bool, cond-true, cond-false, false≢true, filter_agree}
use Rattle.pg_game.proofs.Common.{filter, range_with_len, list_any, list_all, Goal, Score, Side}
use Rattle.pg_game.proofs.Common.{other, find_below}
use Rattle.pg_game.specs.declared.position.Position.{Position}
use Rattle.pg_game.specs.Position.{is_free}
use Rattle.pg_game.specs.Rules.{Rules, moved, free_below, best, value_within, value_by, reaches}
use Rattle.pg_game.specs.Rules.{ForcesBy, IsEnding, KeepsBy}
use Rattle.pg_game.proofs.FreePoints.{free_at, one_fewer, any-filter, all-filter, any-filter-from}
use Rattle.pg_game.proofs.FreePoints.{all-filter-from}
use Rattle.pg_game.proofs.Scores.{reaches-best, reaches-best_other}
use Rattle.pg_game.proofs.Sides.{side_cases}

-- ---- free points

module _ (r : Rules) where
  -- a move takes its point and leaves the others
  pub is_free-moved : (p : Position) (v q : ℕ)
      → is_free (moved r p v) q ≡ (not (eqb q v) && is_free p q)
  is_free-moved p v q = free_at p.x p.y p.turn v q

  -- a move of a free point leaves one fewer
  pub length-moved : (p : Position) (v : ℕ)
      → v < r.points
      → is_free p v ≡ true
      → length (free_below r.points (moved r p v)) + 1 ≡ length (free_below r.points p)
  unfolding free_below
  length-moved p v within free = ap (λ qs. length qs + 1) (filter_agree (is_free (moved r p v))
      (λ q. not (eqb q v) && is_free p q) (is_free-moved p v) (range_with_len 0 r.points))
      ∙ one_fewer (is_free p) v 0 r.points free (omega arith) (omega arith)

  any-below : (p : Position) (t : ℕ → Bool) (v : ℕ)
      → v < r.points
      → is_free p v ≡ true
      → t v ≡ true
      → list_any t (free_below r.points p) ≡ true
  unfolding free_below
  any-below p t v within free pass =
      any-filter (is_free p) t v 0 r.points (omega arith) (omega arith) free pass

  all-below : (p : Position) (t : ℕ → Bool)
      → ((v : ℕ) → v < r.points → is_free p v ≡ true → t v ≡ true)
      → list_all t (free_below r.points p) ≡ true
  unfolding free_below
  all-below p t each =
      all-filter (is_free p) t 0 r.points (λ v _ high free. each v (omega arith) free)

  any-below-from : (p : Position) (t : ℕ → Bool)
      → list_any t (free_below r.points p) ≡ true
      → (v : ℕ) × (v < r.points) × (is_free p v ≡ true) × (t v ≡ true)
  unfolding free_below
  any-below-from p t h =
      let w = any-filter-from (is_free p) t 0 r.points h in
      (w.0, omega (arith, w.2), w.3, w.4)

  all-below-from : (p : Position) (t : ℕ → Bool)
      → list_all t (free_below r.points p) ≡ true
      → (v : ℕ) → v < r.points
      → is_free p v ≡ true
      → t v ≡ true
  unfolding free_below
  all-below-from p t h v within free =
      all-filter-from (is_free p) t 0 r.points h v (omega arith) (omega arith) free

  none-free : (p : Position)
      → length (free_below r.points p) ≡ 0
      → (v : ℕ) → v < r.points
      → is_free p v ≡ false
  none-free p h v within = elim (cases_Bool (is_free p v)) [
    | inr taken ↦ taken
    | inl free ↦ let fewer = length-moved p v within free in absurd (omega (arith, h, fewer))
  ]

-- ---- the value

map-filter : (p : ℕ → Bool) (f h : ℕ → Score) (a n : ℕ)
    → ((v : ℕ) → a ≤ v → v < a + n → p v ≡ true → f v ≡ h v)
    → map f (filter p (range_with_len a n)) ≡ map h (filter p (range_with_len a n))
map-filter p f h a zero each = refl
map-filter p f h a (suc n) each =
    let rest = map-filter p f h (a + 1) n (λ v low high. each v (omega arith) (omega arith)) in
    elim (cases_Bool (p a)) [
      | inl here ↦
          let first = each a (omega arith) (omega arith) here in
          rw here (λ i. first i ∷ rest i)
      | inr off ↦ rw off rest
    ]

map-below : (r : Rules) (p : Position) (f h : ℕ → Score)
    → ((v : ℕ) → v < r.points → is_free p v ≡ true → f v ≡ h v)
    → map f (free_below r.points p) ≡ map h (free_below r.points p)
unfolding free_below
map-below r p f h each =
    map-filter (is_free p) f h 0 r.points (λ v low high free. each v (omega arith) free)

within-over : (r : Rules) (p : Position) (moves : ℕ)
    → r.over p ≡ true
    → value_within moves r p ≡ r.outcome p
unfolding value_within
within-over r p zero over = refl
within-over r p (suc moves) over = cond-true (r.over p) _ _ over

within-step : (r : Rules) (p : Position) (moves : ℕ)
    → r.over p ≡ false
    → value_within (suc moves) r p
    ≡ best p.turn (map (λ v. value_within moves r (moved r p v)) (free_below r.points p))
unfolding value_within
within-step r p moves going = cond-false (r.over p) _ _ going

-- where the game is over the value is the outcome
pub value_by-over : (r : Rules) (p : Position) → r.over p ≡ true → value_by r p ≡ r.outcome p
unfolding value_by
value_by-over r p over = within-over r p (length (free_below r.points p)) over

module _ (r : Rules) (ending : IsEnding r) where
  -- where the game isn't over some point is free
  pub some_free : (p : Position)
      → r.over p ≡ false
      → (v : ℕ) × (v < r.points) × (is_free p v ≡ true)
  some_free p going = elim (find_below (is_free p) r.points) [
    | inl w ↦ (w.0, w.1, w.2)
    | inr none ↦ absurd (false≢true (sym going ∙ ending.full p none))
  ]

  -- where it isn't over the value is the mover's best among the values after a move
  pub value_by-step : (p : Position)
      → r.over p ≡ false
      → value_by r p ≡ best p.turn (map (λ v. value_by r (moved r p v)) (free_below r.points p))
  unfolding value_by
  value_by-step p going =
      let some = some_free p going in
      let fewer = length-moved r p some.0 some.1 some.2 in
      let moves = length (free_below r.points p) - 1 in
      let count : length (free_below r.points p) ≡ suc moves = omega arith in
      ap (λ m. value_within m r p) count
      ∙ within-step r p moves going
      ∙ ap (best p.turn) (map-below r p (λ v. value_within moves r (moved r p v)) (λ v.
      value_within (length (free_below r.points (moved r p v))) r (moved r p v)) (λ v range free.
      let one = length-moved r p v range free in
      let left : moves ≡ length (free_below r.points (moved r p v)) = omega arith in
      ap (λ m. value_within m r (moved r p v)) left))

  -- ---- what a side forces by one step

  pub reaches_by-own : (p : Position) (side : Side) (goal : Goal)
      → r.over p ≡ false
      → p.turn ≡ side
      → reaches side goal (value_by r p)
      ≡ list_any (λ v. reaches side goal (value_by r (moved r p v))) (free_below r.points p)
  reaches_by-own p side goal going mine = ap (reaches side goal) (value_by-step p going)
      ∙ ap (λ (s : Side).
      reaches side goal (best s (map (λ v. value_by r (moved r p v)) (free_below r.points p)))) mine
      ∙ reaches-best side goal (λ v. value_by r (moved r p v)) (free_below r.points p)

  pub reaches_by-theirs : (p : Position) (side : Side) (goal : Goal)
      → r.over p ≡ false
      → p.turn ≡ other side
      → reaches side goal (value_by r p)
      ≡ list_all (λ v. reaches side goal (value_by r (moved r p v))) (free_below r.points p)
  reaches_by-theirs p side goal going yours = ap (reaches side goal) (value_by-step p going)
      ∙ ap (λ (s : Side). reaches side goal
      (best s (map (λ v. value_by r (moved r p v)) (free_below r.points p)))) yours
      ∙ reaches-best_other side goal (λ v. value_by r (moved r p v)) (free_below r.points p)

  pub ForcesBy-over : (p : Position) (side : Side) (goal : Goal)
      → r.over p ≡ true
      → reaches side goal (r.outcome p) ≡ true
      → ForcesBy r p side goal
  ForcesBy-over p side goal over good = ap (reaches side goal) (value_by-over r p over) ∙ good

  pub ForcesBy-move : (p : Position) (side : Side) (goal : Goal)
      → r.over p ≡ false
      → p.turn ≡ side
      → (v : ℕ) → v < r.points
      → is_free p v ≡ true
      → ForcesBy r (moved r p v) side goal
      → ForcesBy r p side goal
  ForcesBy-move p side goal going mine v range free child = reaches_by-own p side goal going mine
      ∙ any-below r p (λ v. reaches side goal (value_by r (moved r p v))) v range free child

  pub ForcesBy-all : (p : Position) (side : Side) (goal : Goal)
      → r.over p ≡ false
      → p.turn ≡ other side
      → ((v : ℕ) → v < r.points → is_free p v ≡ true → ForcesBy r (moved r p v) side goal)
      → ForcesBy r p side goal
  ForcesBy-all p side goal going yours children = reaches_by-theirs p side goal going yours
      ∙ all-below r p (λ v. reaches side goal (value_by r (moved r p v))) children

  pub ForcesBy-move-from : (p : Position) (side : Side) (goal : Goal)
      → r.over p ≡ false
      → p.turn ≡ side
      → ForcesBy r p side goal
      → (v : ℕ) × (v < r.points) × (is_free p v ≡ true) × ForcesBy r (moved r p v) side goal
  ForcesBy-move-from p side goal going mine forced =
      any-below-from r p (λ v. reaches side goal (value_by r (moved r p v)))
      (sym (reaches_by-own p side goal going mine) ∙ forced)

  pub ForcesBy-all-from : (p : Position) (side : Side) (goal : Goal)
      → r.over p ≡ false
      → p.turn ≡ other side
      → ForcesBy r p side goal
      → (v : ℕ) → v < r.points
      → is_free p v ≡ true
      → ForcesBy r (moved r p v) side goal
  ForcesBy-all-from p side goal going yours forced =
      all-below-from r p (λ v. reaches side goal (value_by r (moved r p v)))
      (sym (reaches_by-theirs p side goal going yours) ∙ forced)

  -- ---- keeping an invariant

  module _ {I : Position → Type 0} (side : Side) (goal : Goal) (keeps : KeepsBy r side goal I) where
    within : (moves : ℕ) (p : Position)
        → I p
        → length (free_below r.points p) ≤ moves
        → reaches side goal (value_within moves r p) ≡ true
    unfolding value_within
    within zero p i few = keeps.ends p i (ending.full p (none-free r p (omega arith)))
    within (suc moves) p i few =
        elim (cases_Bool (r.over p)) [
          | inl over ↦ rw over (keeps.ends p i over)
          | inr going ↦ rw going (elim (side_cases p.turn side) [
            | inl mine ↦
                let move = keeps.own p i going mine in
                let fewer = length-moved r p move.0 move.1 move.2 in
                let good = within moves (moved r p move.0) move.3 (omega arith) in
                ap (λ (s : Side). reaches side goal
                (best s (map (λ v. value_within moves r (moved r p v)) (free_below r.points p))))
                mine
                ∙ (reaches-best side goal (λ v. value_within moves r (moved r p v))
                (free_below r.points p)
                ∙ any-below r p (λ v. reaches side goal (value_within moves r (moved r p v))) move.0
                move.1 move.2 good)
            | inr yours ↦ ap (λ (s : Side). reaches side goal
                (best s (map (λ v. value_within moves r (moved r p v)) (free_below r.points p))))
                yours
                ∙ (reaches-best_other side goal (λ v. value_within moves r (moved r p v))
                (free_below r.points p)
                ∙ all-below r p (λ v. reaches side goal (value_within moves r (moved r p v)))
                (λ v range free.
                let fewer = length-moved r p v range free in
                within moves (moved r p v) (keeps.theirs p i going yours v range free)
                (omega arith)))
          ])
        ]

    -- so the side forces its goal wherever the invariant holds
    pub ForcesBy-from_keeps : (p : Position) → I p → ForcesBy r p side goal
    unfolding value_by
    ForcesBy-from_keeps p i = within (length (free_below r.points p)) p i (omega arith)
