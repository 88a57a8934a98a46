use Rattle.std.specs.Prelude.{slice_get}
use Rattle.pg_gen.proofs.Boards.{flat_next}
use Rattle.pg_book.specs.Sentences.{step_by}
use Rattle.pg_book.proofs.sentences.push_steps.Goals as goal

pub loop-i-preserved : goal.loop-i-preserved
loop-i-preserved c =
    flat_next (λ i. step_by c.args.layout.now c.args.side i (slice_get c.args.points.now i))
    c.loop-i.i c.args.pieces.now.items _ _
    (rw (← c.step_at.ensures) c.in_ok-push_step_by.ensures) c.loop-i.invariant
