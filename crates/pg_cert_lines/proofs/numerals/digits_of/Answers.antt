use Rattle.std.proofs.Common.{◌<◌, length, arith}
use Rattle.pg_cert_lines.proofs.DigitRuns.{grows}
use Rattle.pg_cert_lines.proofs.numerals.digits_of.Goals as goal

pub overflow_mul-value : goal.overflow_mul-value
overflow_mul-value c =
    let few : c.loop-count.count < 9 =
    omega (arith, c.loop-count-test.true, c.most_digits-most.ensures.few) in
    let place : c.loop-count.count < length c.args.text.now =
    omega (arith, c.loop-count-test.true, c.most_digits-most.ensures.within) in
    let grown = grows c.args.text.now c.loop-count.count c.loop-count.value c.in-Some.digit
    c.loop-count.invariant few place c.in-Some.ensures.digit c.in-Some.ensures.value in
    omega (arith, grown.0)

pub overflow_add-value : goal.overflow_add-value
overflow_add-value c =
    let few : c.loop-count.count < 9 =
    omega (arith, c.loop-count-test.true, c.most_digits-most.ensures.few) in
    let place : c.loop-count.count < length c.args.text.now =
    omega (arith, c.loop-count-test.true, c.most_digits-most.ensures.within) in
    let grown = grows c.args.text.now c.loop-count.count c.loop-count.value c.in-Some.digit
    c.loop-count.invariant few place c.in-Some.ensures.digit c.in-Some.ensures.value in
    omega (arith, grown.0)

pub loop-count-preserved : goal.loop-count-preserved
loop-count-preserved c =
    let few : c.loop-count.count < 9 =
    omega (arith, c.loop-count-test.true, c.most_digits-most.ensures.few) in
    let place : c.loop-count.count < length c.args.text.now =
    omega (arith, c.loop-count-test.true, c.most_digits-most.ensures.within) in
    let grown = grows c.args.text.now c.loop-count.count c.loop-count.value c.in-Some.digit
    c.loop-count.invariant few place c.in-Some.ensures.digit c.in-Some.ensures.value in
    grown.1
