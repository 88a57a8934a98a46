use Rattle.std.proofs.Common.{◌≡◌, List, get_or}
use Rattle.pg_pns.proofs.Common.{Position}
use Rattle.pg_leaf.specs.Ahead.{IsAhead}
use Rattle.pg_met.specs.Reading.{IsKept}
use Rattle.pg_pns.specs.Search.{CanGrow, IsGrowing}
use Rattle.pg_pns.proofs.expansion.expand.Given as goal

-- the position is that of the place, and the moves to the points so far are met
abbrev pub invariant-loop-v : goal.invariant-loop-v
invariant-loop-v l = IsKept l.asked.game.now l.fn.board l.board l.cache
    × (l.expansion.place ≡ l.k)
    × (l.expansion.position
    ≡ get_or l.fn.table.positions.items l.k l.expansion.position)
    × IsAhead l.asked.question l.fn.board l.expansion.ahead
    × ((list : List Position) → (p : Position)
    → CanGrow l.asked.game.now l.asked.question list l.fn.table l.k p
    → IsGrowing l.asked.game.now l.asked.question list l.expansion.place l.expansion.position l.v
    l.table l.expansion.nexts)
