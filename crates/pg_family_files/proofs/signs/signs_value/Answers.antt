use Rattle.std.proofs.Common.{◌+◌, ◌*◌, ◌∙◌, ap, arith}
use Rattle.pg_family_files.proofs.Bits.{step_value, step_small, small_128, bit_at}
use Rattle.pg_family_files.proofs.signs.signs_value.Goals as goal

pub overflow_mul-found : goal.overflow_mul-found
overflow_mul-found c =
    let small = small_128 _ c.loop-left.left c.loop-left.found c.requires.few c.loop-left-test.true
    c.loop-left.invariant.small in
    omega (arith, small)

pub overflow_add-found : goal.overflow_add-found
overflow_add-found c =
    let small = small_128 _ c.loop-left.left c.loop-left.found c.requires.few c.loop-left-test.true
    c.loop-left.invariant.small in
    let bit = bit_at c.args.word.now c.loop-left.left c.requires.signs c.loop-left-test.true
    c.loop-left.invariant.within in
    omega (arith, small, c.from.ensures, bit.2)

pub loop-left-preserved : goal.loop-left-preserved
loop-left-preserved c =
    let bit = bit_at c.args.word.now c.loop-left.left c.requires.signs c.loop-left-test.true
    c.loop-left.invariant.within in
    record {
      within = omega (arith, c.loop-left.invariant.within);
      value = ap (λ n. c.loop-left.found * 2 + n) c.from.ensures
          ∙ step_value c.args.word.now c.loop-left.left c.loop-left.found c.requires.signs
          c.loop-left-test.true c.loop-left.invariant.within c.loop-left.invariant.value;
      small = step_small _ c.loop-left.left c.loop-left.found c.from.result c.loop-left-test.true
          c.loop-left.invariant.within
          (omega (arith, c.from.ensures, bit.2)) c.loop-left.invariant.small;
    }
