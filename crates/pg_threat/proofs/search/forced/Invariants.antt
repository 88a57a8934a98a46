use Rattle.std.proofs.Common.{◌≡◌, ◌≤◌}
use Rattle.pg_game.specs.Threat.{LeadsToLine}
use Rattle.pg_threat.specs.Search.{NoneBelow}
use Rattle.pg_threat.proofs.search.forced.Given as goal

abbrev pub invariant-loop-least : goal.invariant-loop-least
invariant-loop-least l = (l.b ≡ l.fn.b)
    × (1 ≤ l.least)
    × NoneBelow (LeadsToLine l.fn.b.game l.fn.b.stand.position l.side) l.least
