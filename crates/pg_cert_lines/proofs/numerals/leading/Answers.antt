use Rattle.std.proofs.Common.{◌<◌, arith}
use Rattle.std.proofs.lemmas.Bool.Decides.{nat_tests}
use Rattle.pg_cert_lines.proofs.DigitRuns.{leads}
use Rattle.pg_cert_lines.proofs.numerals.leading.Goals as goal
use Rattle.pg_cert_lines.proofs.numerals.leading.Goals.{else-found-gt1-via-then-found-gt1+else-text-eq48}
use Rattle.pg_cert_lines.proofs.numerals.leading.Goals.{else-found-gt1-via-else-found-gt1}

pub returns : goal.returns
returns c =
    let some : 0 < c.digits_of-found.result.count = grind (arith, nat_tests) in
    elim c.else-found-gt1.branch [
      | else-found-gt1-via-then-found-gt1+else-text-eq48 w ↦
          leads c.args.text.now c.digits_of-found.result.count c.digits_of-found.result.value
          c.digits_of-found.ensures some (λ more. w.if-text-eq48.false)
      | else-found-gt1-via-else-found-gt1 w ↦ leads c.args.text.now c.digits_of-found.result.count
          c.digits_of-found.result.value c.digits_of-found.ensures some
          (λ more. absurd (omega (arith, more, w.if-found-gt1.false)))
    ]
