-- The greatest weight of a free point.
use Rattle.std.proofs.Common.{◌≡◌, ◌≢◌, ℕ, ◌+◌, ◌<◌, ◌≤◌, List, map, get_or, unwrap_or, ◌==◌, ap}
use Rattle.std.proofs.Common.{ap₂, false, ◌∙◌, arith}
use Rattle.pg_potential.proofs.Common.{Switching, Side, Game, Position, points_of, Contains, find}
use Rattle.pg_potential.proofs.Common.{free_points, is_full, find_same, total, weight, greatest}
use Rattle.pg_potential.proofs.Common.{greatest_weight, potential_answer, greatest-le}
use Rattle.pg_potential.proofs.Common.{greatest-same, member-within, few_points-lines, first_free}
use Rattle.pg_potential.proofs.PotentialLaws.{answer-heaviest}
use Rattle.pg_game.proofs.LineSums.{weight-le-total}

pub greatest_weight-is : (g : Game) (p : Position) (side : Side) (points : List ℕ) (most : ℕ)
    → g.kind ≢ Switching
    → ((v : ℕ) → v < 256 → get_or points v 0 ≡ weight g p side v)
    → most ≡ greatest (map (λ v. get_or points v 0) (free_points g p))
    → most ≡ greatest_weight g p side
greatest_weight-is g p side points most on_lines each is = is
    ∙ greatest-same (λ v. get_or points v 0) (weight g p side) (free_points g p)
    (λ v c. each v (omega (arith, member-within g p v c, few_points-lines g on_lines)))

pub greatest_weight-le : (g : Game) (p : Position) (side : Side)
    → greatest_weight g p side ≤ total g p side
greatest_weight-le g p side = greatest-le (weight g p side) (free_points g p) (total g p side)
    (λ v c. weight-le-total (1 + g.bias) g (points_of p side) p v)

-- ---- the answer

pub answer-is : (g : Game) (p : Position) (side : Side) (points : List ℕ) (most r : ℕ)
    → g.kind ≢ Switching
    → ((v : ℕ) → v < 256 → get_or points v 0 ≡ weight g p side v)
    → most ≡ greatest (map (λ v. get_or points v 0) (free_points g p))
    → r ≡ unwrap_or (find (λ v. get_or points v 0 == most) (free_points g p)) 0
    → r ≡ potential_answer g p side
unfolding potential_answer
answer-is g p side points most r on_lines each is_most is = is
    ∙ ap (λ o. unwrap_or o 0)
    (find_same (λ v. get_or points v 0 == most) (λ v. weight g p side v == greatest_weight g p side)
    (free_points g p) (λ v c. ap₂ (λ (a b : ℕ). a == b) (each v (omega (
      arith,
      member-within g p v c,
      few_points-lines g on_lines,
    ))) (greatest_weight-is g p side points most on_lines each is_most)))

-- where some point is free the answer is free and of greatest weight
pub answer-good : (g : Game) (p : Position) (side : Side)
    → is_full g p ≡ false
    → Contains (free_points g p) (potential_answer g p side)
    × (weight g p side (potential_answer g p side) ≡ greatest_weight g p side)
answer-good g p side some =
    let point = first_free g p some in
    answer-heaviest g p side point.0 point.1 point.2
