use Rattle.std.proofs.Common.{ap, ℕ}
use Rattle.std.specs.Prelude.{string_bytes}
use Rattle.pg_characters.specs.Entries.{entry_in_row, in_row}
use Rattle.pg_characters.proofs.Pieces.{next_piece}
use Rattle.pg_characters.proofs.entries.put_entries.Goals as goal

pub loop-point-preserved : goal.loop-point-preserved
loop-point-preserved c =
    let game = c.args.game.now in
    let shown = c.args.shown.now in
    next_piece (entry_in_row game shown (in_row game.field shown.look.columns))
    c.loop-point.point (string_bytes c.args.out.now) _ _ _ c.in_ok-put_entry.ensures
    c.loop-point.invariant
    (ap (λ (per : ℕ). entry_in_row game shown per c.loop-point.point) c.in_row-in_row.ensures.many)
