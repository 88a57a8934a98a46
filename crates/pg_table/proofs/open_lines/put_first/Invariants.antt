use Rattle.std.proofs.Common.{◌≡◌, ◌≤◌, ◌++◌, length, take}
use Rattle.std.specs.Prelude.{filter, string_bytes}
use Rattle.std.specs.List.{flat_map}
use Rattle.pg_game.specs.Game.{lines_of}
use Rattle.pg_table.specs.OpenLines.{is_kept, line_text}
use Rattle.pg_table.specs.declared.open_lines.TheConstants.{MAX_SHOWN_LINES}
use Rattle.pg_table.proofs.open_lines.put_first.Given as goal

-- so far no more lines than may be shown, and all of them are
abbrev pub invariant-loop-line : goal.invariant-loop-line
invariant-loop-line l = (l.count
    ≡ length (filter (is_kept l.game.kind l.position l.through)
    (take l.line-index (lines_of l.game))))
    × (l.count ≤ MAX_SHOWN_LINES)
    × (string_bytes l.out ≡ string_bytes l.fn.out ++ flat_map (line_text l.game.field)
    (filter (is_kept l.game.kind l.position l.through) (take l.line-index (lines_of l.game))))
