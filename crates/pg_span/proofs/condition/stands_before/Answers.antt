use Rattle.std.proofs.Common.{sym, slice_index}
use Rattle.pg_span.proofs.Counting.{image-none, image-last, image-found}
use Rattle.pg_span.proofs.condition.stands_before.Goals as goal

pub loop-k-init : goal.loop-k-init
loop-k-init c =
    image-none (slice_index c.args.numbers.now) (slice_index c.args.numbers.now c.args.place)

pub returns-then-numbers-k : goal.returns-then-numbers-k
returns-then-numbers-k c = sym (image-found (slice_index c.args.numbers.now) c.args.place c.loop-k.k
    (slice_index c.args.numbers.now c.args.place) c.loop-k-test.true c.if-numbers-k.true)

pub loop-k-preserved : goal.loop-k-preserved
loop-k-preserved c = image-last (slice_index c.args.numbers.now) c.loop-k.k
    (slice_index c.args.numbers.now c.args.place) c.if-numbers-k.false c.loop-k.invariant
