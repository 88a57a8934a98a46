use Rattle.std.proofs.Common.{◌+◌, refl}
use Rattle.std.specs.Prelude.{string_bytes}
use Rattle.pg_characters.specs.Charts.{cell_text}
use Rattle.pg_characters.proofs.Pieces.{next_piece}
use Rattle.pg_characters.proofs.charts.put_row.Goals as goal

pub loop-i-preserved : goal.loop-i-preserved
loop-i-preserved c =
    next_piece (λ i. cell_text c.args.spots.now c.args.shown.now c.args.strip c.args.line
    (c.args.strip.first + i)) c.loop-i.i (string_bytes c.args.out.now) _ _ _
    c.in_ok-put_cell.ensures c.loop-i.invariant refl
