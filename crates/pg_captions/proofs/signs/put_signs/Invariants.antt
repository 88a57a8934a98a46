use Rattle.std.proofs.Common.{◌≡◌, ◌++◌, ◌-◌}
use Rattle.std.specs.Prelude.{string_bytes}
use Rattle.pg_family_files.specs.Print.{signs_of}
use Rattle.pg_captions.proofs.signs.put_signs.Given as goal

abbrev pub invariant-loop-row : goal.invariant-loop-row
invariant-loop-row l = string_bytes l.out ++ signs_of (l.rows - l._row) l.rest
    ≡ string_bytes l.fn.out ++ signs_of l.rows l.vector
