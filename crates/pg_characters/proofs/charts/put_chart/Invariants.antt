use Rattle.std.proofs.Common.{◌≡◌, ◌++◌}
use Rattle.std.specs.Prelude.{string_bytes}
use Rattle.std.specs.List.{flat_map, range_with_len}
use Rattle.pg_characters.specs.Charts.{strip_text}
use Rattle.pg_characters.proofs.charts.put_chart.Given as goal

abbrev pub invariant-loop-first : goal.invariant-loop-first
invariant-loop-first l = string_bytes l.out ≡ string_bytes l.fn.out
    ++ flat_map (strip_text l.spots l.shown l.wide) (range_with_len 0 l.first)
