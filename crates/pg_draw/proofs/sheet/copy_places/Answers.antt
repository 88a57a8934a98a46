use Rattle.std.proofs.Common.{◌+◌}
use Rattle.pg_gen.proofs.Ascending.{one_more_of}
use Rattle.pg_draw.specs.Sheets.{copy_place}
use Rattle.pg_draw.proofs.sheet.copy_places.Goals as goal

pub loop-i-preserved : goal.loop-i-preserved
loop-i-preserved c = one_more_of (λ i. copy_place c.args.width c.args.height (i + 1)) c.loop-i.i _ _
    _ c.in_ok-push.ensures.items c.loop-i.invariant c.copy_place.ensures
