use Rattle.std.proofs.Common.{◌≡◌, ◌++◌, take}
use Rattle.std.specs.Prelude.{string_bytes}
use Rattle.pg_files.proofs.Common.{flat_map, spelled}
use Rattle.pg_files.specs.Print.{numbered}
use Rattle.pg_files.specs.declared.key.Key.TheVariants as keys
use Rattle.pg_files.proofs.printing.put_lines.Given as goal

abbrev pub invariant-loop-line : goal.invariant-loop-line
invariant-loop-line l = string_bytes l.out ≡ string_bytes l.fn.out
    ++ flat_map (λ line. spelled (numbered keys.Line line)) (take l.line-index l.lines)
