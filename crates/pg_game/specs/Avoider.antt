-- Avoider's potential, where Enforcer claims q points a turn. The condition is this project's own:
-- it rests on two facts. A point that Enforcer takes after Avoider's point of least weight weighs
-- at least as much as Avoider's did, so that Enforcer's first point brings the total back to what
-- it was or below; and where Avoider takes the last point the total at most doubles.
use Rattle.std.specs.Prelude.{ℕ, ◌+◌, ◌-◌, ◌*◌, ◌%◌, ◌<◌, min, Bool, ◌&&◌, List, [], ◌∷◌, length}
use Rattle.std.specs.Prelude.{map, ◌==◌, nat_lt, find, unwrap_or, if◌then◌else◌}
use Rattle.pg_game.specs.Prelude.{Side, X, Y}
use Rattle.pg_game.specs.declared.game.Game.{Game}
use Rattle.pg_game.specs.declared.position.Position.{Position}
use Rattle.pg_game.specs.Game.{free_points}
use Rattle.pg_game.specs.Potential.{total_weight, point_weight, full_weight}

-- whether X takes the last of so many free points, where a side is to move and still claims so many
-- points in its turn
unfoldable pub x_takes_last : ℕ → Side → ℕ → ℕ → Bool
x_takes_last bias X left free = nat_lt 0 free && (free - 1) % (bias + 1) == 0
x_takes_last bias Y left free = nat_lt left free && (free - left - 1) % (bias + 1) == 0

-- whether Avoider takes the last free point
abbrev pub avoider_ends : Game → Position → Bool
avoider_ends g p = x_takes_last g.bias p.turn p.left (length (free_points g p))

-- the sum of the weights of the lines without a point of Enforcer
abbrev pub avoider_total : Game → Position → ℕ
avoider_total g p = total_weight 2 g p.y p

-- the sum of those through a point
abbrev pub avoider_weight : Game → Position → ℕ → ℕ
avoider_weight g p v = point_weight 2 g p.y p v

-- what the total must stay below
abbrev pub avoider_limit : Game → ℕ
avoider_limit g = full_weight 2 g

-- the total, twice where Avoider takes the last point
abbrev pub avoider_risk : Game → Position → ℕ
avoider_risk g p = if avoider_ends g p then 2 * avoider_total g p else avoider_total g p

-- whether that is below the limit
unfoldable pub avoider_holds : Game → Position → Bool
avoider_holds g p = nat_lt (avoider_risk g p) (avoider_limit g)

-- the same as a fact
abbrev pub AvoiderHolds : Game → Position → Type 0
AvoiderHolds g p = avoider_risk g p < avoider_limit g

-- the least of numbers, or 0 where there is none
abbrev pub least : List ℕ → ℕ
least [] = 0
least (n ∷ []) = n
least (n ∷ (m ∷ ns)) = min n (least (m ∷ ns))

-- the lowest free point of least weight
unfoldable pub avoider_answer : Game → Position → ℕ
avoider_answer g p = unwrap_or
    (find (λ v. avoider_weight g p v == least (map (avoider_weight g p) (free_points g p)))
    (free_points g p)) 0
