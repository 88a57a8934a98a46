use Rattle.std.proofs.Common.{◌+◌, ℕ, List, sym, subst, take}
use Rattle.std.specs.List.{AllZip}
use Rattle.pg_game.specs.Rows.{IsLineOfRow}
use Rattle.pg_game.proofs.RowLines.{zip-more}
use Rattle.pg_game.proofs.field.LineField.from_rows.Goals as goal

pub loop-row-preserved : goal.loop-row-preserved
loop-row-preserved c =
    let fits = c.in_ok-line.ensures in
    subst
    (λ (lines : List (List ℕ)). AllZip (λ row line. IsLineOfRow row.now line)
    (take (c.loop-row.row-index + 1) c.args.rows.now) lines) (sym c.in-Ok.ensures.items)
    (zip-more (λ row line. IsLineOfRow row.now line) c.args.rows.now c.loop-row.lines.items
    c.loop-row.row-index _ c.in_ok-line.line c.loop-row-test.true c.loop-row.invariant (record {
      points = fits.points;
      ascending = fits.ascending;
    }))
