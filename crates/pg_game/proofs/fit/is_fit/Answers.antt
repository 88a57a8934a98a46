use Rattle.std.proofs.Common.{subst, arith}
use Rattle.pg_game.specs.Fit.{AreBelow}
use Rattle.pg_game.proofs.fit.is_fit.Goals as goal

pub points_of-points-requires : goal.points_of-points-requires
points_of-points-requires c = (c.field_fits.ensures.0 c.if-not-field_fits.false).on_graph

pub returns : goal.returns
returns c =
    let field = c.field_fits.ensures.0 c.if-not-field_fits.false in
    let below_x = c.is_below.ensures.0 c.if-not-is_below.false in
    let below_y = c.is_below-else-not-is_below.ensures.0 c.if-not-is_below-2.false in (
      λ apart. record {
        some_bias = omega arith;
        few_bias = omega (arith, c.greatest_bias.ensures);
        within = field;
        x_range = subst (AreBelow c.args.x.now) c.points_of-points.ensures below_x;
        y_range = subst (AreBelow c.args.y.now) c.points_of-points.ensures below_y;
        disjoint = c.shares_none.ensures.0 apart;
      },
      λ fits. c.shares_none.ensures.1 fits.disjoint,
    )
