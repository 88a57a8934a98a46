use Rattle.std.proofs.Common.{◌≡◌, ◌≤◌, length}
use Rattle.pg_family_files.proofs.Common.{All, each_of, following, before_slash, after_slash}
use Rattle.pg_family_files.specs.SpanCertLine.{number_in}
use Rattle.pg_family_files.proofs.cert_line.numbers_before_slash.Given as goal

abbrev pub invariant-loop-word : goal.invariant-loop-word
invariant-loop-word l = record {
  read : following l.found.items (each_of number_in (before_slash l.rest))
      ≡ each_of number_in (before_slash l.fn.words);
  small : All (λ n. n ≤ 999) l.found.items;
  behind : after_slash l.rest ≡ after_slash l.fn.words;
}

abbrev pub decreases-loop-word : goal.decreases-loop-word
decreases-loop-word l = length l.rest
