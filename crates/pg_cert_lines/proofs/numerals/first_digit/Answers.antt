use Rattle.std.proofs.Common.{◌<◌, length, arith}
use Rattle.pg_cert_lines.proofs.DigitRuns.{one_digit}
use Rattle.pg_cert_lines.proofs.numerals.first_digit.Goals as goal

pub returns : goal.returns
returns c =
    let more : 1 < length c.args.text.now = omega (arith, c.if-text-lt2.false) in
    one_digit c.args.text.now c.in_ok-digit.digit (omega (arith, more))
    c.in_ok-digit.ensures.digit c.in_ok-digit.ensures.value more c.if-text-ne32.false
