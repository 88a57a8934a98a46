use Rattle.std.proofs.Common.{◌≡◌, ◌+◌, ◌-◌, ◌<◌, ℕ, length, refl, sym, subst, arith}
use Rattle.std.proofs.lemmas.Option.{slice_get_read}
use Rattle.pg_leaf.specs.Pruned.{AreMarked}
use Rattle.pg_leaf.proofs.KeptNodes.{marked-step}
use Rattle.pg_leaf.proofs.marks.mark_all.Goals as goal

pub loop-i-preserved : goal.loop-i-preserved
loop-i-preserved c =
    let nodes = c.args.nodes.now in
    let k : ℕ = (length nodes - 1) - c.loop-i.i in
    let low = c.loop-i-test.true in
    let within : k < length nodes = omega (arith, low) in
    let at =
    slice_get_read nodes (length nodes) k c.index-nodes-k.result refl within c.index-nodes-k.is in
    let next : length nodes - (c.loop-i.i + 1) ≡ k = omega (arith, low) in
    let here : length nodes - c.loop-i.i ≡ k + 1 = omega (arith, low) in
    subst (λ (m : ℕ). AreMarked nodes m c.mark_from.new.marks) (sym next)
    (marked-step nodes k c.index-nodes-k.result c.loop-i.marks c.mark_from.new.marks at
    (c.requires.earlier k c.index-nodes-k.result at)
    (subst (λ (m : ℕ). AreMarked nodes m c.loop-i.marks) here c.loop-i.invariant)
    c.mark_from.ensures.marked c.mark_from.ensures.left)
