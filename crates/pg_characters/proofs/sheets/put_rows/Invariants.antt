use Rattle.std.proofs.Common.{◌≡◌, ◌++◌}
use Rattle.std.specs.Prelude.{string_bytes}
use Rattle.std.specs.List.{flat_map, range_with_len}
use Rattle.pg_characters.specs.Sheets.{row_text}
use Rattle.pg_characters.proofs.sheets.put_rows.Given as goal

abbrev pub invariant-loop-row : goal.invariant-loop-row
invariant-loop-row l = string_bytes l.out ≡ string_bytes l.fn.out
    ++ flat_map (row_text l.sheet l.shown l.part) (range_with_len 0 l.row)
