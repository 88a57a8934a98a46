use Rattle.std.proofs.Common.{◌≡◌, ◌≤◌, take}
use Rattle.std.specs.List.{count_by}
use Rattle.pg_game.specs.Game.{lines_of}
use Rattle.pg_table.specs.OpenLines.{is_kept}
use Rattle.pg_table.proofs.open_lines.count_open.Given as goal

abbrev pub invariant-loop-line : goal.invariant-loop-line
invariant-loop-line l = (l.count
    ≡ count_by (is_kept l.game.kind l.position l.through) (take l.line-index (lines_of l.game)))
    × (l.count ≤ l.line-index)
