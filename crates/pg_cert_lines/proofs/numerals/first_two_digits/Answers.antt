use Rattle.std.proofs.Common.{◌<◌, length, arith}
use Rattle.pg_cert_lines.proofs.DigitRuns.{two_digits}
use Rattle.pg_cert_lines.proofs.numerals.first_two_digits.Goals as goal

pub returns : goal.returns
returns c =
    let more : 2 < length c.args.text.now = omega (arith, c.if-text-lt3.false) in
    two_digits c.args.text.now c.in_ok-tens.tens c.in_ok-ones.ones more c.in_ok-tens.ensures.digit
    c.in_ok-tens.ensures.value c.in_ok-ones.ensures.digit c.in_ok-ones.ensures.value
    c.if-text-eq48.false c.if-text-ne32.false
