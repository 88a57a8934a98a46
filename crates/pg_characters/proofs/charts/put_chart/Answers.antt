use Rattle.std.proofs.Common.{refl}
use Rattle.std.specs.Prelude.{string_bytes}
use Rattle.pg_characters.specs.Charts.{strip_text}
use Rattle.pg_characters.proofs.Pieces.{next_piece}
use Rattle.pg_characters.proofs.charts.put_chart.Goals as goal

pub loop-first-preserved : goal.loop-first-preserved
loop-first-preserved c =
    next_piece (strip_text c.args.spots.now c.args.shown.now c.columns_in-wide.result)
    c.loop-first.first (string_bytes c.args.out.now) _ _ _ c.in_ok-put_strip.ensures
    c.loop-first.invariant refl
