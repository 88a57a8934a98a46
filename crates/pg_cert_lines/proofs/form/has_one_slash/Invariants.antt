use Rattle.std.proofs.Common.{◌≡◌, length}
use Rattle.pg_cert_lines.specs.Form.{has_one_slash}
use Rattle.pg_cert_lines.proofs.form.has_one_slash.Given as goal

abbrev pub invariant-loop-word : goal.invariant-loop-word
invariant-loop-word l = has_one_slash l.rest ≡ has_one_slash l.fn.words

abbrev pub decreases-loop-word : goal.decreases-loop-word
decreases-loop-word l = length l.rest
