use Rattle.std.proofs.lemmas.List.Elements.{Contains-get_or}
use Rattle.pg_poly.proofs.corners.Corners.of.Goals as goal

pub loop-cell-preserved : goal.loop-cell-preserved
loop-cell-preserved c =
    let cells = c.args.cells.now in
    c.with-corners.ensures.among cells c.loop-cell.invariant
    (Contains-get_or cells c.loop-cell.cell-index _ c.loop-cell-test.true)
