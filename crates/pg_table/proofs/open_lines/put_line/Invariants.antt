use Rattle.std.proofs.Common.{◌≡◌, ◌++◌, drop}
use Rattle.std.specs.Prelude.{string_bytes}
use Rattle.pg_table.specs.OpenLines.{names_text}
use Rattle.pg_table.specs.declared.open_lines.TheConstants.{NAMES_IN_ROW}
use Rattle.pg_table.proofs.open_lines.put_line.Given as goal

-- with the names that are left, the text is that of all names
abbrev pub invariant-loop-point : goal.invariant-loop-point
invariant-loop-point l =
    string_bytes l.out ++ names_text l.game.field l.room (drop l.point-index l.line)
    ≡ string_bytes l.fn.out ++ names_text l.game.field NAMES_IN_ROW l.line
