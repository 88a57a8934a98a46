use Rattle.std.proofs.Common.{◌≡◌, ◌++◌}
use Rattle.std.specs.Prelude.{string_bytes}
use Rattle.std.specs.List.{flat_map, range_with_len}
use Rattle.pg_characters.specs.Entries.{entry_in_row, in_row}
use Rattle.pg_characters.proofs.entries.put_entries.Given as goal

abbrev pub invariant-loop-point : goal.invariant-loop-point
invariant-loop-point l = string_bytes l.out ≡ string_bytes l.fn.out
    ++ flat_map (entry_in_row l.game l.shown (in_row l.game.field l.shown.look.columns))
    (range_with_len 0 l.point)
