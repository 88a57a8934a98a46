use Rattle.std.proofs.Common.{◌≡◌, ℕ, Bool, IsTrue, List, map, length, sym, ap, ◌∙◌, subst, subst₂}
use Rattle.std.proofs.Common.{IsPermutation, ◌↔◌}
use Rattle.pg_maps.proofs.Common.{length-map-range_with_len, IsPermutation-sym, IsPermutation-trans}
use Rattle.pg_maps.proofs.Common.{All, range_with_len, point_count, lines_of}
use Rattle.std.proofs.lemmas.Result.{IfOk-weaker}
use Rattle.pg_maps.specs.GridMaps.{image_of, reverse_of}
use Rattle.pg_maps.specs.Images.{AreInverse, Fits, image_line}
use Rattle.pg_maps.specs.Rows.{IsRow, IsTableOf, points_of_rows}
use Rattle.pg_maps.proofs.Boards.{cells, rows, Fits-some, some-Fits}
use Rattle.pg_maps.proofs.Turning.{AreInverse-map}
use Rattle.pg_maps.proofs.fitting.fits_board.Goals as goal

pub are_images-requires-clause-lines : goal.are_images-requires-clause-lines
are_images-requires-clause-lines c =
    let g = c.args.g.now in
    let count : length c.as_slice.result.now ≡ point_count g =
    ap length (c.as_slice.ensures.value ∙ c.in_ok-table.ensures)
    ∙ length-map-range_with_len (image_of c.args.m c.args.grid) 0 c.points.result
    ∙ c.points.ensures.count in
    subst₂ (λ (n : ℕ) (lines : List (List ℕ)). All (IsRow n) lines) (sym count)
    (sym c.lines.ensures.lines) (rows g)

pub returns : goal.returns
returns c =
    let g = c.args.g.now in
    let m = c.args.m in
    let grid = c.args.grid in
    let f : ℕ → ℕ = image_of m grid in
    let back : ℕ → ℕ = image_of (reverse_of m) grid in
    let own = points_of_rows c.args.rows.now in
    let count : length c.as_slice.result.now ≡ point_count g =
    ap length (c.as_slice.ensures.value ∙ c.in_ok-table.ensures)
    ∙ length-map-range_with_len f 0 c.points.result
    ∙ c.points.ensures.count in
    let table : IsTableOf f back c.as_slice.result.now = record {
      values = c.as_slice.ensures.value
          ∙ c.in_ok-table.ensures
          ∙ ap (λ (n : ℕ). map f (range_with_len 0 n)) (c.points.ensures.count ∙ sym count);
      inverse = subst (λ (n : ℕ). AreInverse n f back) (cells g grid c.requires.board ∙ sym count)
          (AreInverse-map grid m c.requires.map);
    } in
    let images : List (List ℕ) = map (image_line f (point_count g)) (lines_of g) in
    let same : map (image_line f (length c.as_slice.result.now)) c.lines.result.now ≡ images =
    λ i. map (image_line f (count i)) (c.lines.ensures.lines i) in
    IfOk-weaker c.are_images.result _ (λ yes. IsTrue yes ↔ Fits g m)
    (λ (yes : Bool) both. (
      λ on. Fits-some g grid m c.requires.board c.requires.map
          (IsPermutation-trans images own (lines_of g)
          (subst (λ (xs : List (List ℕ)). IsPermutation xs own) same ((both f back table).0 on))
          (IsPermutation-sym (lines_of g) own c.requires.rows.same)),
      λ h. (both f back table).1
          (subst (λ (xs : List (List ℕ)). IsPermutation xs own) (sym same)
          (IsPermutation-trans images (lines_of g) own
          (some-Fits g grid m c.requires.board h) c.requires.rows.same)),
    )) c.are_images.ensures
