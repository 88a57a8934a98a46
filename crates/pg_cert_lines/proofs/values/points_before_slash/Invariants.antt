use Rattle.std.proofs.Common.{◌≡◌, ◌<◌, length}
use Rattle.pg_cert_lines.proofs.Common.{All, each_of, following}
use Rattle.pg_cert_lines.specs.NodeLine.{point_of, before_slash, after_slash}
use Rattle.pg_cert_lines.proofs.values.points_before_slash.Given as goal

abbrev pub invariant-loop-word : goal.invariant-loop-word
invariant-loop-word l = record {
  read : following l.found.items (each_of point_of (before_slash l.rest))
      ≡ each_of point_of (before_slash l.fn.words);
  small : All (λ p. p < 1024) l.found.items;
  behind : after_slash l.rest ≡ after_slash l.fn.words;
}

abbrev pub decreases-loop-word : goal.decreases-loop-word
decreases-loop-word l = length l.rest
