use Rattle.std.proofs.Common.{arith}
use Rattle.std.proofs.lemmas.Option.{slice_get-get_or}
use Rattle.pg_leaf.proofs.Taking.{takes-on, more-gone}
use Rattle.pg_leaf.proofs.order.Order.take_rest.Goals as goal

pub loop-m-preserved : goal.loop-m-preserved
loop-m-preserved c =
    let at = slice_get-get_or c.args.moves.now c.loop-m.m-index (0, 0) c.loop-m-test.true in (
      takes-on _ _ _ c.loop-m.invariant.0 c.in_ok-take.ensures.takes,
      more-gone c.args.moves.now c.loop-m.m-index _ _ c.loop-m.self.left c.take.new.self.left at
          c.loop-m.invariant.1 c.in_ok-take.ensures.takes.gone c.in_ok-take.ensures.gone,
    )

pub returns-clause-gone : goal.returns-clause-gone
returns-clause-gone c =
    λ k v low p below. c.loop-m.invariant.1 k v (omega (arith, low, c.loop-m-test.false)) p below
