use Rattle.std.proofs.Common.{◌≡◌, ◌+◌, ◌++◌}
use Rattle.std.specs.Prelude.{codes, string_bytes}
use Rattle.std.specs.List.{flat_map, range_with_len}
use Rattle.pg_characters.specs.Sheets.{title_text}
use Rattle.pg_characters.proofs.sheets.put_titles.Given as goal

abbrev pub invariant-loop-i : goal.invariant-loop-i
invariant-loop-i l = string_bytes l.out ≡ (string_bytes l.fn.out ++ codes "    ")
    ++ flat_map (λ i. title_text (l.part.first + i)) (range_with_len 0 l.i)
