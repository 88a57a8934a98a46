use Rattle.std.proofs.Common.{◌<◌, arith, subst}
use Rattle.pg_game.specs.Field.{field_points}
use Rattle.pg_game.specs.declared.field.Field.{Field}
use Rattle.pg_characters.proofs.Widths.{some_columns}
use Rattle.pg_characters.proofs.names.put_name.Goals as goal

pub put_cell-requires-clause-some : goal.put_cell-requires-clause-some
put_cell-requires-clause-some c =
    let fits = c.args.game.now.fits.within.on_lines c.in-Lines.field c.in-Lines.is in
    some_columns c.in-Some.grid.width c.in-Some.grid.height c.in-Lines.field.points
    (fits.cells c.in-Some.grid c.in-Some.is) fits.some_points

pub put_cell-requires-clause-small : goal.put_cell-requires-clause-small
put_cell-requires-clause-small c =
    let fits = c.args.game.now.fits.within.on_lines c.in-Lines.field c.in-Lines.is in
    let inside = subst (λ (k : Field). c.args.point < field_points k) c.in-Lines.is c.requires in
    omega (arith, inside, fits.few_points)
