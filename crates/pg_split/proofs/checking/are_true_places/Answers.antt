use Rattle.std.proofs.Common.{◌<◌, arith, length, refl}
use Rattle.std.proofs.lemmas.Option.{slice_get_read}
use Rattle.pg_split.proofs.Checked.{true_more}
use Rattle.pg_split.proofs.checking.are_true_places.Goals as goal

pub loop-i-preserved : goal.loop-i-preserved
loop-i-preserved c =
    let within : c.loop-i.i < length c.args.positions.now =
    omega (arith, c.loop-i-test.true, c.if-positions-plan.false) in
    true_more c.args.game.now c.args.first c.args.positions.now c.args.pieces.now c.args.plan.now
    c.loop-i.i c.index-positions-i.result c.index-plan-i.result
    (slice_get_read c.args.positions.now (length c.args.positions.now) c.loop-i.i
    c.index-positions-i.result refl within c.index-positions-i.is)
    (slice_get_read c.args.plan.now (length c.args.plan.now) c.loop-i.i c.index-plan-i.result refl
    c.loop-i-test.true c.index-plan-i.is)
    (c.is_true_place.ensures c.if-not-is_true_place.false) c.loop-i.invariant
