use Rattle.std.proofs.Common.{◌≤◌, eq-eqb, eqb-true, sym, arith}
use Rattle.pg_check.proofs.Common.{point_count}
use Rattle.pg_check.proofs.GamePoints.{points-inside, inside-points, inside-same}
use Rattle.pg_check.proofs.allowed.are_points.Goals as goal

pub returns : goal.returns
returns c =
    let g = c.args.g.now in
    let points = c.args.points.now in
    let x = c.args.x.now in
    let y = c.args.y.now in
    let few : point_count g ≤ 1024 =
    omega (arith, c.points-count.ensures.count, c.points-count.ensures.few) in
    let x_small = c.is_below.ensures.0 c.if-not-is_below.false in
    let y_small = c.is_below-else-not-is_below.ensures.0 c.if-not-is_below-2.false in
    let is_x = c.words.ensures.words in
    let is_y = c.words-2.ensures.words in
    let is_in = c.words-3.ensures.words in (
      λ on. points-inside g points x y c.requires few x_small y_small
          (inside-same _ _ _ _ _ _ is_x is_y is_in
          (c.bits_outside.ensures.each (eqb-true c.bits_outside.result 0 on))),
      λ below. eq-eqb c.bits_outside.result 0
          (c.bits_outside.ensures.none (inside-same _ _ _ _ _ _ (sym is_x) (sym is_y) (sym is_in)
          (inside-points g points x y c.requires few x_small y_small below))),
    )
