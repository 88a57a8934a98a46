use Rattle.std.proofs.Common.{◌≡◌, ◌++◌, take, map}
use Rattle.std.specs.Prelude.{string_bytes}
use Rattle.pg_text.specs.Text.{behind_spaces}
use Rattle.pg_cert.specs.Print.{pair_word}
use Rattle.pg_cert.proofs.printing.put_pairs.Given as goal

abbrev pub invariant-loop-pair : goal.invariant-loop-pair
invariant-loop-pair l = string_bytes l.out
    ≡ string_bytes l.fn.out ++ behind_spaces (map pair_word (take l.pair-index l.pairs))
