use Rattle.std.proofs.Common.{arith}
use Rattle.pg_text.proofs.Digits.{value_steps}
use Rattle.pg_text.proofs.numbers.value.Goals as goal

pub overflow_mul-found : goal.overflow_mul-found
overflow_mul-found c = omega (
  arith,
  value_steps c.args.word.now c.loop-b.b-index c.loop-b-test.true c.requires.digits c.requires.few,
)

pub overflow_add-found : goal.overflow_add-found
overflow_add-found c = omega (
  arith,
  value_steps c.args.word.now c.loop-b.b-index c.loop-b-test.true c.requires.digits c.requires.few,
)
