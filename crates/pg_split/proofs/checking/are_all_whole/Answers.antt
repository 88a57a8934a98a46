use Rattle.std.proofs.Common.{◌<◌, arith, length, refl, subst}
use Rattle.std.proofs.lemmas.Option.{slice_get_read}
use Rattle.pg_split.proofs.Checked.{whole_more}
use Rattle.pg_split.specs.Splits.{AreWhole, moves_of}
use Rattle.pg_split.proofs.checking.are_all_whole.Goals as goal

pub loop-i-preserved : goal.loop-i-preserved
loop-i-preserved c =
    let within : c.loop-i.i < length c.args.positions.now =
    omega (arith, c.loop-i-test.true, c.if-positions-plan.false) in
    whole_more c.args.game.now c.args.old.now c.args.positions.now c.args.plan.now c.loop-i.i
    c.index-positions-i.result c.index-plan-i.result
    (slice_get_read c.args.positions.now (length c.args.positions.now) c.loop-i.i
    c.index-positions-i.result refl within c.index-positions-i.is)
    (slice_get_read c.args.plan.now (length c.args.plan.now) c.loop-i.i c.index-plan-i.result refl
    c.loop-i-test.true c.index-plan-i.is)
    (subst (AreWhole c.args.game.now c.args.old.now c.index-positions-i.result) c.moves_of.ensures
    (c.are_whole.ensures c.if-not-are_whole.false)) c.loop-i.invariant
