use Rattle.std.proofs.Common.{◌≡◌, ◌≤◌}
use Rattle.pg_game.specs.Threat.{LeadsToLine}
use Rattle.pg_threat.specs.Search.{NoneBelow}
use Rattle.pg_threat.proofs.search.forced_after.Given as goal

abbrev pub invariant-loop-depth : goal.invariant-loop-depth
invariant-loop-depth l = (l.b ≡ l.fn.b)
    × (1 ≤ l.depth)
    × NoneBelow (LeadsToLine l.fn.b.game l.fn.b.stand.position l.side) l.depth
