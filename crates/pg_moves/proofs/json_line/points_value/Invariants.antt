use Rattle.std.proofs.Common.{◌≡◌, map, take}
use Rattle.pg_moves.specs.JsonLines.{number_data}
use Rattle.pg_moves.specs.Prelude.{view}
use Rattle.pg_moves.proofs.json_line.points_value.Given as goal

abbrev pub invariant-loop-point : goal.invariant-loop-point
invariant-loop-point l =
    map view l.values.items ≡ map number_data (take l.point-index l.points)
