use Rattle.std.proofs.Common.{◌+◌, ◌++◌, refl}
use Rattle.std.specs.Prelude.{string_bytes}
use Rattle.pg_characters.specs.Sheets.{label_text, place_text}
use Rattle.pg_characters.proofs.Pieces.{next_piece}
use Rattle.pg_characters.proofs.sheets.put_row.Goals as goal

pub loop-i-preserved : goal.loop-i-preserved
loop-i-preserved c =
    next_piece (λ i. place_text c.args.sheet c.args.shown.now c.args.row (c.args.part.first + i))
    c.loop-i.i (string_bytes c.args.out.now ++ label_text c.args.sheet c.args.row) _ _ _
    c.in_ok-put_place.ensures c.loop-i.invariant refl
