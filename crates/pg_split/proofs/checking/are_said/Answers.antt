use Rattle.std.proofs.Common.{arith, subst}
use Rattle.std.proofs.lemmas.List.{take_all}
use Rattle.std.specs.List.{All}
use Rattle.pg_split.proofs.Checked.{all_more}
use Rattle.pg_split.specs.Splits.{IsSaid}
use Rattle.pg_split.proofs.checking.are_said.Goals as goal

pub loop-piece-preserved : goal.loop-piece-preserved
loop-piece-preserved c = record {
  counted = omega (arith, c.loop-piece.invariant.counted);
  are = all_more (IsSaid c.args.positions.now c.args.plan.now) c.args.pieces.now
      c.loop-piece.piece-index c.piece-item.result c.loop-piece-test.true
      (subst (IsSaid c.args.positions.now c.args.plan.now) c.piece-item.is
      (c.is_said.ensures c.if-not-is_said.false)) c.loop-piece.invariant.are;
}

pub returns : goal.returns
returns c = λ on. subst (All (IsSaid c.args.positions.now c.args.plan.now))
    (take_all c.loop-piece.piece-index c.args.pieces.now c.loop-piece-test.false)
    c.loop-piece.invariant.are
