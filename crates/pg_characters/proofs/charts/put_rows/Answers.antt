use Rattle.std.proofs.Common.{refl}
use Rattle.std.specs.Prelude.{string_bytes}
use Rattle.pg_characters.specs.Charts.{row_text}
use Rattle.pg_characters.proofs.Pieces.{next_piece}
use Rattle.pg_characters.proofs.charts.put_rows.Goals as goal

pub loop-line-preserved : goal.loop-line-preserved
loop-line-preserved c =
    next_piece (row_text c.args.spots.now c.args.shown.now c.args.strip) c.loop-line.line
    (string_bytes c.args.out.now) _ _ _ c.in_ok-put_row.ensures c.loop-line.invariant refl
