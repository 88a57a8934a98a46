use Rattle.std.proofs.Common.{◌≡◌, ◌≤◌, ℕ, List, [], map, length, sym, ap, ◌∙◌, subst, arith}
use Rattle.std.proofs.Common.{IsPermutation}
use Rattle.pg_maps.proofs.Common.{false≢true, get_or_read, take_all, Contains-get_or}
use Rattle.pg_maps.proofs.Common.{Contains-permutation, Contains}
use Rattle.pg_maps.specs.Images.{image_line}
use Rattle.pg_maps.specs.Rows.{IsRow, points_of_rows}
use Rattle.pg_maps.proofs.Criteria.{Contains-map}
use Rattle.pg_maps.proofs.fitting.are_images.Goals as goal

pub image_row-requires : goal.image_row-requires
image_row-requires c = subst (IsRow (length c.args.table.now))
    (sym
    (get_or_read c.args.lines.now c.loop-line.line-index c.line-item.result c.loop-line-test.true
    c.line-item.is [])) (c.requires.lines c.loop-line.line-index [] c.loop-line-test.true)

pub returns-then-not-is_among : goal.returns-then-not-is_among
returns-then-not-is_among c = λ f back is.
    let lines = c.args.lines.now in
    let n = length c.args.table.now in
    let read = get_or_read lines c.loop-line.line-index c.line-item.result c.loop-line-test.true
    c.line-item.is [] in
    let member = Contains-map (image_line f n) lines c.line-item.result
    (subst (Contains lines) (sym read)
    (Contains-get_or lines c.loop-line.line-index [] c.loop-line-test.true)) in (
      λ no. absurd (false≢true no),
      λ moved. absurd (false≢true (sym c.if-not-is_among.true
          ∙ c.is_among.ensures.1
          (subst (Contains (points_of_rows c.args.rows.now)) (sym (c.in_ok-row.ensures f back is))
          (Contains-permutation (map (image_line f n) lines)
          (points_of_rows c.args.rows.now) _ moved member)))),
    )

pub returns : goal.returns
returns c = λ f back is.
    let lines = c.args.lines.now in
    let n = length c.args.table.now in
    let end : length lines ≤ c.loop-line.line-index = omega (arith, c.loop-line-test.false) in
    let whole : points_of_rows c.loop-line.images.items ≡ map (image_line f n) lines =
    c.loop-line.invariant f back is
    ∙ ap (map (image_line f n)) (take_all c.loop-line.line-index lines end) in (
      λ on.
          subst (λ (images : List (List ℕ)). IsPermutation images (points_of_rows c.args.rows.now))
          whole (c.are_reordered.ensures.0 on),
      λ moved. c.are_reordered.ensures.1
          (subst (λ (images : List (List ℕ)). IsPermutation images (points_of_rows c.args.rows.now))
          (sym whole) moved),
    )
