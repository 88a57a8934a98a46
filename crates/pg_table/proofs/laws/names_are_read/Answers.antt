use Rattle.std.proofs.Common.{◌≡◌, ◌<◌, ℕ, arith, refl, subst}
use Rattle.std.specs.Prelude.{Option, Some, None}
use Rattle.pg_base.specs.declared.grid.Grid.{Grid}
use Rattle.pg_game.proofs.Limits.{point_count-le}
use Rattle.pg_game.specs.Fit.{AreLinesOf}
use Rattle.pg_game.specs.Game.{point_count}
use Rattle.pg_game.specs.Field.{field_points}
use Rattle.pg_game.specs.declared.field.Field.{Field}
use Rattle.pg_game.specs.declared.field.Field.TheVariants.{Lines, Graph}
use Rattle.pg_game.specs.declared.field.LineField.{LineField}
use Rattle.pg_game.specs.declared.game.Game.{Game}
use Rattle.pg_characters.specs.Names.{line_point_name, point_name}
use Rattle.pg_table.specs.Reply.{read_reply}
use Rattle.pg_table.specs.declared.reply.Reply.TheVariants.{Point}
use Rattle.pg_table.proofs.ReadBack.{cell_read, number_read}
use Rattle.pg_table.proofs.laws.names_are_read.Goals as goal

on_lines : (bias : ℕ) (f : LineField) (v : ℕ)
    → AreLinesOf bias f
    → v < f.points
    → read_reply (Lines f) (line_point_name f.grid v) ≡ Point v
on_lines bias f v fits inside = go f.grid refl where
  go : (grid : Option Grid)
      → f.grid ≡ grid
      → read_reply (Lines f) (line_point_name grid v) ≡ Point v
  go None is = number_read (Lines f) v (omega (arith, inside, fits.few_points))
  go (Some grid) is = cell_read f grid v is
      (let cells = fits.cells grid is in omega (arith, cells, inside))
      (omega (arith, inside, fits.few_points))

pub returns-clause-number : goal.returns-clause-number
returns-clause-number c = λ g v inside.
    number_read g.field v (omega (arith, inside, point_count-le g))

pub returns-clause-name : goal.returns-clause-name
returns-clause-name c = λ g v inside. go g v inside g.field refl where
  go : (g : Game) (v : ℕ)
      → v < point_count g
      → (field : Field) → g.field ≡ field
      → read_reply field (point_name field v) ≡ Point v
  go g v inside (Lines f) is = on_lines g.bias f v (g.fits.within.on_lines f is)
      (subst (λ (k : Field). v < field_points k) is inside)
  go g v inside (Graph h) is =
      number_read (Graph h) v (omega (arith, inside, point_count-le g))
