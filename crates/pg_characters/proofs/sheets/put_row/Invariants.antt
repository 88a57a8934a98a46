use Rattle.std.proofs.Common.{◌≡◌, ◌+◌, ◌++◌}
use Rattle.std.specs.Prelude.{string_bytes}
use Rattle.std.specs.List.{flat_map, range_with_len}
use Rattle.pg_characters.specs.Sheets.{label_text, place_text}
use Rattle.pg_characters.proofs.sheets.put_row.Given as goal

abbrev pub invariant-loop-i : goal.invariant-loop-i
invariant-loop-i l = string_bytes l.out ≡ (string_bytes l.fn.out ++ label_text l.sheet l.row)
    ++ flat_map (λ i. place_text l.sheet l.shown l.row (l.part.first + i)) (range_with_len 0 l.i)
