-- The two conditions by their parts, and that the parts fit 128 bits.
use Rattle.std.proofs.Common.{◌≡◌, ℕ, ◌+◌, ◌*◌, ◌^◌, ◌≤◌, nat_lt, ap₂, arith}
use Rattle.pg_plain.proofs.Common.{Side, Game, Position, points_of, free_points, total, weight}
use Rattle.pg_plain.proofs.Common.{limit, greatest_weight, times_counted, potential_holds}
use Rattle.pg_plain.proofs.Common.{avoider_risk, avoider_limit, avoider_holds, bias-few, total-few}
use Rattle.pg_plain.proofs.Common.{greatest-le}
use Rattle.pg_game.proofs.LineSums.{weight-le-total}

pub total-le : (g : Game) (p : Position) (side : Side) → total g p side ≤ 2 ^ 115
total-le g p side = total-few (1 + g.bias) g (points_of p side) p (omega arith) (bias-few g)

pub greatest_weight-le : (g : Game) (p : Position) (side : Side)
    → greatest_weight g p side ≤ 2 ^ 115
greatest_weight-le g p side =
    let le : greatest_weight g p side ≤ total g p side =
    greatest-le (weight g p side) (free_points g p) (total g p side)
    (λ v c. weight-le-total (1 + g.bias) g (points_of p side) p v) in
    omega (arith, le, total-le g p side)

pub potential_holds-is : (g : Game) (p : Position) (side : Side) (sum times most below : ℕ)
    → sum ≡ total g p side
    → times ≡ times_counted g p side
    → most ≡ greatest_weight g p side
    → below ≡ limit g
    → nat_lt (sum + times * most) below ≡ potential_holds g p side
unfolding potential_holds
potential_holds-is g p side sum times most below s t m b =
    ap₂ nat_lt (ap₂ (λ (i j : ℕ). i + j) s (ap₂ (λ (i j : ℕ). i * j) t m)) b

pub avoider_holds-is : (g : Game) (p : Position) (risk below : ℕ)
    → risk ≡ avoider_risk g p
    → below ≡ avoider_limit g
    → nat_lt risk below ≡ avoider_holds g p
unfolding avoider_holds
avoider_holds-is g p risk below r b = ap₂ nat_lt r b
