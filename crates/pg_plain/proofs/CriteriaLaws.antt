-- The first criterion that applies, asked one after the other.
use Rattle.std.proofs.Common.{◌≡◌, ℕ, Bool, true, false, ◌&&◌, Some, None, List, if◌then◌else◌}
use Rattle.std.proofs.Common.{refl, sym, ap, ◌∙◌, ltb, lt-ltb, inl, inr}
use Rattle.pg_plain.proofs.Common.{FinSet, contains, nat_cmp, cases_Bool, cond-true, cond-false}
use Rattle.pg_plain.proofs.Common.{Score, Side, Game, Position, is_free, points_of, is_over}
use Rattle.pg_plain.proofs.Common.{outcome, lines_of, point_count, breaker_of, decided}
use Rattle.pg_plain.proofs.Common.{first_criterion, at_least, answer_for, defender, defends}
use Rattle.pg_plain.proofs.Common.{attack_wins, pairs_exist, has_lines, avoider_can_pair}
use Rattle.std.proofs.lemmas.Option.{same_Some, none-some}
use Rattle.pg_game.proofs.Limits.{lines-range}
use Rattle.pg_plain.specs.PairSearch.{have_pairs}
use Rattle.pg_plain.proofs.PairSearches.{pairs-within}

-- ---- private pairs

pub no_lines : (g : Game) (p : Position) (side : Side)
    → has_lines g.kind ≡ false
    → pairs_exist g p side ≡ false
unfolding pairs_exist
no_lines g p side off = rw off refl

pub unpairable : (g : Game) (p : Position) (side : Side)
    → has_lines g.kind ≡ true
    → avoider_can_pair g.kind g p ≡ false
    → pairs_exist g p side ≡ false
unfolding pairs_exist
unpairable g p side on off = rw (on, off) refl

pub pairs-are : (g : Game) (p : Position) (side : Side) (own free : FinSet nat_cmp)
    (lines : List (List ℕ)) (b : Bool)
    → has_lines g.kind ≡ true
    → avoider_can_pair g.kind g p ≡ true
    → lines ≡ lines_of g
    → own ≡ points_of p (breaker_of g.kind side)
    → ((v : ℕ) → contains free v ≡ (ltb v (point_count g) && is_free p v))
    → b ≡ have_pairs own lines (contains free)
    → b ≡ pairs_exist g p side
unfolding pairs_exist
pairs-are g p side own free lines b on can same whose members is =
    let here : have_pairs own lines (contains free)
    ≡ have_pairs (points_of p (breaker_of g.kind side)) (lines_of g) (contains free) =
    λ i. have_pairs (whose i) (same i) (contains free) in
    let within = pairs-within (points_of p (breaker_of g.kind side)) (lines_of g) (contains free)
    (is_free p) (point_count g) (lines-range g)
    (λ v lt. members v ∙ ap (λ c. c && is_free p v) (lt-ltb v (point_count g) lt)) in
    rw (on, can) (is ∙ here ∙ within)

-- ---- what is decided

-- a judge that tells an outcome says that the game is over
pub told-over : (g : Game) (p : Position) (s : Score)
    → Some s ≡ (if is_over g p then Some (outcome g p) else None)
    → (is_over g p ≡ true) × (s ≡ outcome g p)
told-over g p s h = elim (cases_Bool (is_over g p)) [
  | inl over ↦ (over, same_Some s (outcome g p) (h ∙ cond-true (is_over g p) _ _ over))
  | inr going ↦ absurd (none-some s (sym (h ∙ cond-false (is_over g p) _ _ going)))
]

module _ (g : Game) (t : Score) (p : Position) where
  pub at-end : is_over g p ≡ true → decided g t p ≡ Some (at_least t (outcome g p))
  unfolding decided first_criterion
  at-end over = rw over refl

  pub by-potential : is_over g p ≡ false
      → defends g.kind g t p ≡ true
      → decided g t p ≡ Some (answer_for (defender g.kind t))
  unfolding decided first_criterion
  by-potential going on = rw (going, on) refl

  pub by-threat : is_over g p ≡ false
      → defends g.kind g t p ≡ false
      → attack_wins g p ≡ true
      → decided g t p ≡ Some (answer_for p.turn)
  unfolding decided first_criterion
  by-threat going weak on = rw (going, weak, on) refl

  pub by-pairs : is_over g p ≡ false
      → defends g.kind g t p ≡ false
      → attack_wins g p ≡ false
      → pairs_exist g p (defender g.kind t) ≡ true
      → decided g t p ≡ Some (answer_for (defender g.kind t))
  unfolding decided first_criterion
  by-pairs going weak slow on = rw (going, weak, slow, on) refl

  pub by-none : is_over g p ≡ false
      → defends g.kind g t p ≡ false
      → attack_wins g p ≡ false
      → pairs_exist g p (defender g.kind t) ≡ false
      → decided g t p ≡ None
  unfolding decided first_criterion
  by-none going weak slow off = rw (going, weak, slow, off) refl
