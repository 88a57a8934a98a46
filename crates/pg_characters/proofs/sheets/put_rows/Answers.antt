use Rattle.std.proofs.Common.{refl}
use Rattle.std.specs.Prelude.{string_bytes}
use Rattle.pg_characters.specs.Sheets.{row_text}
use Rattle.pg_characters.proofs.Pieces.{next_piece}
use Rattle.pg_characters.proofs.sheets.put_rows.Goals as goal

pub loop-row-preserved : goal.loop-row-preserved
loop-row-preserved c =
    next_piece (row_text c.args.sheet c.args.shown.now c.args.part) c.loop-row.row
    (string_bytes c.args.out.now) _ _ _ c.in_ok-put_row.ensures c.loop-row.invariant refl
