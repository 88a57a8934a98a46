use Rattle.std.proofs.Common.{◌≡◌, ◌+◌, ◌++◌}
use Rattle.std.specs.Prelude.{string_bytes}
use Rattle.std.specs.List.{flat_map, range_with_len}
use Rattle.pg_characters.specs.Charts.{cell_text}
use Rattle.pg_characters.proofs.charts.put_row.Given as goal

abbrev pub invariant-loop-i : goal.invariant-loop-i
invariant-loop-i l = string_bytes l.out ≡ string_bytes l.fn.out ++ flat_map
    (λ i. cell_text l.spots l.shown l.strip l.line (l.strip.first + i)) (range_with_len 0 l.i)
