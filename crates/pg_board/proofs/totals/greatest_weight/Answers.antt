use Rattle.std.proofs.Common.{◌≡◌, ◌∙◌, sym, arith}
use Rattle.pg_game.specs.Position.{is_free}
use Rattle.pg_board.specs.Fits.{position_of}
use Rattle.pg_board.specs.Totals.{weight_in}
use Rattle.pg_board.proofs.Weighing.{below-none, below-more, below-all}
use Rattle.pg_board.proofs.totals.greatest_weight.Goals.{then-weight-greatest, else-weight-greatest}
use Rattle.pg_board.proofs.totals.greatest_weight.Goals as goal

pub loop-v-init : goal.loop-v-init
loop-v-init c =
    let p = position_of c.args.layout.now c.args.trail.now.cells in
    record {
      greatest =
          sym (below-none (weight_in c.args.base c.args.layout.now p c.args.side) (is_free p));
      few = omega arith;
    }

pub loop-v-preserved : goal.loop-v-preserved
loop-v-preserved c =
    let p = position_of c.args.layout.now c.args.trail.now.cells in
    let more =
    below-more (weight_in c.args.base c.args.layout.now p c.args.side) (is_free p) c.loop-v.v in
    elim c.if-weight-greatest.branch [
      | then-weight-greatest w ↦ record {
        greatest = omega (
          arith,
          more,
          c.loop-v.invariant.greatest,
          c.free_weight-weight.ensures.exact,
          w.greatest-is,
          w.if-weight-greatest.true,
        );
        few =
            omega (arith, c.loop-v.invariant.few, c.free_weight-weight.ensures.few, w.greatest-is);
      }
      | else-weight-greatest w ↦ record {
        greatest = omega (
          arith,
          more,
          c.loop-v.invariant.greatest,
          c.free_weight-weight.ensures.exact,
          w.greatest-is,
          w.if-weight-greatest.false,
        );
        few = omega (arith, c.loop-v.invariant.few, w.greatest-is);
      }
    ]

pub returns-clause-exact : goal.returns-clause-exact
returns-clause-exact c =
    let p = position_of c.args.layout.now c.args.trail.now.cells in
    let end : c.loop-v.v ≡ c.args.layout.now.points =
    omega (arith, c.loop-v-test.false, c.loop-v.auto.v-end, c.points-v-end.ensures) in
    c.loop-v.invariant.greatest
    ∙ below-all c.args.base c.args.layout.now p c.args.side c.loop-v.v end
