use Rattle.std.proofs.Common.{◌≡◌, ◌<◌, map, arith, rules, ap, ◌∙◌, sym}
use Rattle.pg_board.proofs.Common.{range_with_len, lines_of, greatest_length, greatest_length-few}
use Rattle.pg_board.specs.Shape.{IsShape, lines_holding}
use Rattle.pg_board.proofs.OpenShape.{shape-is, layout-is}
use Rattle.pg_board.proofs.layout.Layout.of_game.Goals as goal

pub overflow_cast-result : goal.overflow_cast-result
overflow_cast-result c =
    let few = greatest_length-few c.args.g.now in
    let is : c.greatest_length.result ≡ greatest_length (lines_of c.args.g.now) =
    c.greatest_length.ensures ∙ ap greatest_length c.lines-lines.ensures.lines in
    let small : c.greatest_length.result < 65536 = omega arith in
    search rules

pub point_rows-requires-clause-ascending : goal.point_rows-requires-clause-ascending
point_rows-requires-clause-ascending c = rw c.lines-lines.ensures.lines
    (λ k d low. ((shape-is c.args.g.now c.requires).lines k d low).ascending)

pub point_rows-requires-clause-range : goal.point_rows-requires-clause-range
point_rows-requires-clause-range c = rw (c.lines-lines.ensures.lines, c.points.ensures.count)
    (λ k d low. ((shape-is c.args.g.now c.requires).lines k d low).range)

pub invariant_of-result : goal.invariant_of-result
invariant_of-result c =
    let lines = c.lines-lines.ensures.lines in
    let points = c.points-2.ensures.count in
    let longest = c.greatest_length.ensures ∙ ap greatest_length lines in
    let rows = c.in_ok-rows.ensures ∙ lines in
    let shape : IsShape (record {
      points = c.points-2.result;
      longest = c.greatest_length.result;
      lines = c.in_ok-rows.rows;
    }) = rw (points, longest, rows) (shape-is c.args.g.now c.requires) in
    layout-is _ c.in_ok-through.through shape (c.in_ok-through.ensures
    ∙ (λ i. map (lines_holding ((lines ∙ sym rows) i))
    (range_with_len 0 ((c.points.ensures.count ∙ sym points) i))))
