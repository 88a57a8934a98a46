use Rattle.std.proofs.Common.{arith, subst, sym}
use Rattle.pg_characters.specs.Sheets.{IsSheet}
use Rattle.pg_characters.specs.declared.sheets.Sheet.TheVariants.{Cells}
use Rattle.pg_characters.proofs.Widths.{few_columns, few_rows, some_columns}
use Rattle.pg_table.proofs.board.put_picture.Goals as goal

pub put_sheet-requires : goal.put_sheet-requires
put_sheet-requires c =
    let fits = c.args.game.now.fits.within.on_lines c.in-Lines.field c.in-Lines.is in
    let grid = c.in-Some.grid in
    let cells = fits.cells grid c.in-Some.is in
    let some = some_columns grid.width grid.height c.in-Lines.field.points cells fits.some_points in
    let wide = few_columns grid.width grid.height c.in-Lines.field.points cells fits.some_points in
    let high = few_rows grid.width grid.height c.in-Lines.field.points cells fits.some_points in
    let whole : IsSheet (Cells grid.width grid.height) = (
      some,
      omega (arith, wide, fits.few_points),
      omega (arith, high, fits.few_points),
      omega (arith, cells, fits.few_points),
    ) in
    record { sheet = subst IsSheet (sym c.cells_of.ensures) whole }
