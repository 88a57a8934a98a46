use Rattle.std.proofs.Common.{◌≡◌}
use Rattle.pg_cert_lines.specs.Form.{are_odd}
use Rattle.pg_cert_lines.proofs.Odd.{xor}
use Rattle.pg_cert_lines.proofs.form.are_odd.Given as goal

abbrev pub invariant-loop-word : goal.invariant-loop-word
invariant-loop-word l = xor l.odd (are_odd l._word-iterator) ≡ are_odd l.fn.words
