use Rattle.std.proofs.Common.{◌≡◌, ◌&&◌, drop}
use Rattle.std.specs.Prelude.{find}
use Rattle.std.specs.Str.{bytes_eq}
use Rattle.pg_family_files.specs.Family.{key_name, key_of, has_key}
use Rattle.pg_family_files.proofs.family.Key.read.Given as goal

abbrev pub invariant-loop-key : goal.invariant-loop-key
invariant-loop-key l = find (λ key. has_key l.family key && bytes_eq (key_name key) l.word)
    (drop l.key-index l.key-items) ≡ key_of l.family l.word
