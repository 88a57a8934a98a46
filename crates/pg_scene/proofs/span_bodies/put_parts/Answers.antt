use Rattle.std.proofs.Common.{arith, get_or, refl}
use Rattle.pg_scene.proofs.Growing.{numbered_next}
use Rattle.pg_scene.specs.SpanScenes.{part_item}
use Rattle.pg_scene.proofs.span_bodies.put_parts.Goals as goal

pub loop-i-preserved : goal.loop-i-preserved
loop-i-preserved c = numbered_next (part_item c.args.n) 0 c.args.parts.now c.loop-i.i c.loop-i.i 0
    (get_or c.args.parts.now c.loop-i.i 0) c.args.items.now.items _ _ (omega arith) refl
    (omega arith) c.in_ok-put_part.ensures c.loop-i.invariant
