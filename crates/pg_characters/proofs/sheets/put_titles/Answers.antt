use Rattle.std.proofs.Common.{◌+◌, ◌++◌, refl}
use Rattle.std.specs.Prelude.{codes, string_bytes}
use Rattle.pg_characters.specs.Sheets.{title_text}
use Rattle.pg_characters.proofs.Pieces.{next_piece}
use Rattle.pg_characters.proofs.sheets.put_titles.Goals as goal

pub loop-i-preserved : goal.loop-i-preserved
loop-i-preserved c = next_piece (λ i. title_text (c.args.part.first + i)) c.loop-i.i
    (string_bytes c.args.out.now ++ codes "    ") _ _ _ c.in_ok-put_title.ensures c.loop-i.invariant
    refl
