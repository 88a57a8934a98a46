use Rattle.std.proofs.Common.{◌≡◌, ℕ, map, take, length}
use Rattle.pg_maps.specs.Images.{image_line}
use Rattle.pg_maps.specs.Rows.{points_of_rows, IsTableOf}
use Rattle.pg_maps.proofs.fitting.are_images.Given as goal

abbrev pub invariant-loop-line : goal.invariant-loop-line
invariant-loop-line l = (f : ℕ → ℕ) (back : ℕ → ℕ) → IsTableOf f back l.table
    → points_of_rows l.images.items
    ≡ map (image_line f (length l.table)) (take l.line-index l.lines)
