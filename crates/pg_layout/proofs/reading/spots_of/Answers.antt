use Rattle.std.proofs.Common.{◌∙◌, Some, ap, refl, sym}
use Rattle.pg_layout.proofs.Sound.{found_next, missing}
use Rattle.pg_layout.proofs.reading.spots_of.Goals as goal
use Rattle.pg_layout.specs.LayoutFile.{spots_below}

pub loop-p-init : goal.loop-p-init
unfolding spots_below
loop-p-init c = ap Some (sym c.new-spots.ensures.items)

pub loop-p-preserved : goal.loop-p-preserved
loop-p-preserved c =
    found_next c.args.placed.now c.loop-p.p c.loop-p.spots.items c.in-Some.spot
    c.loop-p.invariant (sym c.spot_of.ensures ∙ c.in-Some.is)
    ∙ ap Some (sym c.in_ok-push-in-Some.ensures.items)

pub returns-in-None : goal.returns-in-None
returns-in-None c =
    let none = missing c.args.placed.now c.loop-p.p c.args.points c.loop-p.spots.items
    c.loop-p-test.true c.loop-p.invariant (sym c.spot_of.ensures ∙ c.in-None.is) in
    rw (c.at_line.ensures, none) (refl, refl)
