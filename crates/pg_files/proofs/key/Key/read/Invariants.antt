use Rattle.std.proofs.Common.{◌≡◌, drop}
use Rattle.std.specs.Prelude.{find}
use Rattle.std.specs.Str.{bytes_eq}
use Rattle.pg_files.specs.Key.{key_name, key_of}
use Rattle.pg_files.proofs.key.Key.read.Given as goal

abbrev pub invariant-loop-key : goal.invariant-loop-key
invariant-loop-key l =
    find (λ key. bytes_eq (key_name key) l.word) (drop l.key-index l.key-items) ≡ key_of l.word
