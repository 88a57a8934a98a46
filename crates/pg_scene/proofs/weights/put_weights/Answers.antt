use Rattle.std.proofs.Common.{ap, arith}
use Rattle.pg_scene.proofs.Common.{field_points, AreLinesOf, IsFit}
use Rattle.pg_scene.proofs.weights.put_weights.Goals as goal

pub put_each-requires : goal.put_each-requires
put_each-requires c =
    let g = c.args.g.now in
    let fits : IsFit g.kind g.field g.x g.y g.bias = g.fits in
    let lines : AreLinesOf g.bias c.in-Lines.field-0 =
    fits.within.on_lines c.in-Lines.field-0 c.in-Lines.is in
    let same = ap field_points c.in-Lines.is in
    omega (arith, lines.few_points, same)
