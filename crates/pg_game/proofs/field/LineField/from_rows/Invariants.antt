use Rattle.std.proofs.Common.{take}
use Rattle.std.specs.List.{AllZip}
use Rattle.pg_game.specs.Rows.{IsLineOfRow}
use Rattle.pg_game.proofs.field.LineField.from_rows.Given as goal

abbrev pub invariant-loop-row : goal.invariant-loop-row
invariant-loop-row l =
    AllZip (λ row line. IsLineOfRow row.now line) (take l.row-index l.rows) l.lines.items
