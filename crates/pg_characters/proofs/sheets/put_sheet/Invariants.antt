use Rattle.std.proofs.Common.{◌≡◌, ◌++◌}
use Rattle.std.specs.Prelude.{string_bytes}
use Rattle.std.specs.List.{flat_map, range_with_len}
use Rattle.pg_characters.specs.Sheets.{part_text}
use Rattle.pg_characters.proofs.sheets.put_sheet.Given as goal

abbrev pub invariant-loop-first : goal.invariant-loop-first
invariant-loop-first l = string_bytes l.out ≡ string_bytes l.fn.out
    ++ flat_map (part_text l.sheet l.shown) (range_with_len 0 l.first)
