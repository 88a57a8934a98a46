use Rattle.std.proofs.Common.{ℕ, ◌*◌, ◌+◌, sym, ap₂, ◌∙◌, arith}
use Rattle.pg_maps.proofs.Turning.{image-beyond, image-at}
use Rattle.pg_maps.proofs.grid_map.GridMap.image_of.Goals as goal

pub returns-then-point-grid-clause-image : goal.returns-then-point-grid-clause-image
returns-then-point-grid-clause-image c =
    sym (image-beyond c.args.grid c.args.self c.args.point (omega (arith, c.if-point-grid.true)))

pub returns-clause-image : goal.returns-clause-image
returns-clause-image c = ap₂ (λ (row column : ℕ). row * c.args.grid.width + column)
    c.image_of_cell-row.ensures.row c.image_of_cell-row.ensures.column
    ∙ sym (image-at c.args.grid c.args.self c.args.point (omega (arith, c.if-point-grid.false)))
