use Rattle.std.proofs.Common.{◌≡◌, ◌≤◌, length}
use Rattle.std.specs.Prelude.{option_map}
use Rattle.pg_cert_lines.proofs.Common.{empty, words_of}
use Rattle.pg_cert_lines.specs.NodeLine.{field_words}
use Rattle.pg_cert_lines.specs.Outline.{gathered_from}
use Rattle.pg_cert_lines.proofs.values.set_apart.Given as goal

abbrev pub invariant-loop-rest : goal.invariant-loop-rest
invariant-loop-rest l = record {
  read : gathered_from l.other l.found l.least (words_of (option_map (λ w. w.now) l.rest))
      ≡ gathered_from l.other empty 0 (field_words l.field);
  few : l.least ≤ 1024;
}

abbrev pub decreases-loop-rest : goal.decreases-loop-rest
decreases-loop-rest l = length (words_of (option_map (λ w. w.now) l.rest))
