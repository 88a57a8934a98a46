use Rattle.std.proofs.Common.{arith, get_or, refl}
use Rattle.pg_base.specs.declared.pair.Pair.{Pair}
use Rattle.pg_scene.proofs.Growing.{numbered_next}
use Rattle.pg_scene.specs.Items.{pair_item}
use Rattle.pg_scene.proofs.numbers.put_pairs.Goals as goal

pub loop-i-preserved : goal.loop-i-preserved
loop-i-preserved c =
    let none : Pair = record { a = 0; b = 0 } in
    numbered_next (pair_item c.args.n) 0 c.args.pairs.now c.loop-i.i c.loop-i.i none
    (get_or c.args.pairs.now c.loop-i.i none) c.args.items.now.items _ _ (omega arith) refl
    (omega arith) c.in_ok-put_pair.ensures c.loop-i.invariant
