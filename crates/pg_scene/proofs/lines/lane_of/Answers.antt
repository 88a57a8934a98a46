use Rattle.std.proofs.Common.{◌∙◌, ◌<◌, ℕ, List, [], ap₂, arith, get_or, refl, sym}
use Rattle.pg_scene.specs.Items.{lane_after, overlap}
use Rattle.pg_scene.proofs.Lanes.{at_any, lane_before, lane_low, lane_off, lane_on}
use Rattle.pg_scene.proofs.Lanes.{lanes_count}
use Rattle.pg_scene.proofs.lines.lane_of.Goals as goal
use Rattle.pg_scene.proofs.lines.lane_of.Goals.{then-overlap, else-overlap}

pub loop-j-init : goal.loop-j-init
unfolding lane_after
loop-j-init c = record { lane = refl; few = omega arith }

pub bounds-lanes-j : goal.bounds-lanes-j
bounds-lanes-j c =
    let count = lanes_count c.args.lines.now c.args.lanes.now c.args.i c.requires.before in
    let lt : c.loop-j.j < c.args.i = omega (arith, c.loop-j-test.true) in
    omega (arith, count, lt)

pub overflow_add-lanes : goal.overflow_add-lanes
overflow_add-lanes c =
    let lines = c.args.lines.now in
    let lt : c.loop-j.j < c.args.i = omega (arith, c.loop-j-test.true) in
    let is = lane_before lines c.args.lanes.now c.args.i c.loop-j.j c.requires.before lt in
    let low = lane_low lines c.loop-j.j (get_or lines c.loop-j.j []) in
    omega (arith, is, low, lt, c.ranges.i.fits)

pub loop-j-preserved : goal.loop-j-preserved
loop-j-preserved c =
    let lines = c.args.lines.now in
    let j = c.loop-j.j in
    let was = c.loop-j.invariant in
    let lt : j < c.args.i = omega (arith, c.loop-j-test.true) in
    let here = at_any lines c.args.i c.index-lines-i.result c.requires.inside c.index-lines-i.is in
    let there = at_any lines j c.index-lines-j.result (omega (arith, lt, c.requires.inside))
    c.index-lines-j.is in
    let tested = ap₂ (λ (a b : List ℕ). overlap a b) (sym here) (sym there)
    ∙ sym c.overlap.ensures in
    let before = lane_before lines c.args.lanes.now c.args.i j c.requires.before lt in
    let low = lane_low lines j (get_or lines j []) in
    elim c.if-overlap.branch [
      | then-overlap w ↦
          let step = lane_on lines j (get_or lines c.args.i []) (tested ∙ w.if-overlap.true) in
          let made = w.lane-is ∙ w.greater_of-lane.ensures in
          record {
            lane = omega (arith, step, made, before, was.lane);
            few = omega (arith, made, before, low, was.few);
          }
      | else-overlap w ↦
          let step = lane_off lines j (get_or lines c.args.i []) (tested ∙ w.if-overlap.false) in
          record {
            lane = omega (arith, step, w.lane-is, was.lane);
            few = omega (arith, w.lane-is, was.few);
          }
    ]
