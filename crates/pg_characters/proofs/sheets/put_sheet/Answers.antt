use Rattle.std.proofs.Common.{refl}
use Rattle.std.specs.Prelude.{string_bytes}
use Rattle.pg_characters.specs.Sheets.{part_text}
use Rattle.pg_characters.proofs.Pieces.{next_piece}
use Rattle.pg_characters.proofs.sheets.put_sheet.Goals as goal

pub loop-first-preserved : goal.loop-first-preserved
loop-first-preserved c =
    next_piece (part_text c.args.sheet c.args.shown.now) c.loop-first.first
    (string_bytes c.args.out.now) _ _ _ c.in_ok-put_part.ensures c.loop-first.invariant refl
