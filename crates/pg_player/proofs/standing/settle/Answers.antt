use Rattle.std.proofs.Common.{◌≡◌, ◌∙◌, ◌+◌, ◌-◌, suc, Some, sym, arith}
use Rattle.pg_cert.specs.OwnMove.{settled_within}
use Rattle.pg_player.proofs.Settling.{settled-item, settled-steps, settled-here, settled-on}
use Rattle.pg_player.proofs.standing.settle.Goals as goal

pub bounds-nodes-at : goal.bounds-nodes-at
bounds-nodes-at c =
    let l = c.loop-step in
    (settled-item c.as_slice-nodes.result.now c.args.claim.now.nodes (c.args.number + 1 - l._step)
    l.at c.requires.0 c.requires.0 c.as_slice-nodes.ensures (l.invariant ∙ c.requires.1)).0

pub offset_bounds-nodes-at : goal.offset_bounds-nodes-at
offset_bounds-nodes-at c =
    let l = c.loop-step in
    let item =
    settled-item c.as_slice-nodes.result.now c.args.claim.now.nodes (c.args.number + 1 - l._step)
    l.at c.requires.0 c.requires.0 c.as_slice-nodes.ensures (l.invariant ∙ c.requires.1) in
    omega (arith, item.0, c.as_slice-nodes.type_inv)

pub returns-in_default : goal.returns-in_default
returns-in_default c =
    let l = c.loop-step in
    let nodes = c.args.claim.now.nodes in
    let steps = c.args.number + 1 - l._step in
    let found : settled_within steps nodes l.at ≡ Some c.requires.0 = l.invariant ∙ c.requires.1 in
    let item = settled-item c.as_slice-nodes.result.now nodes steps l.at c.requires.0
    c.index-nodes-at.result c.as_slice-nodes.ensures found in
    item.1
    ∙ sym (settled-here nodes steps l.at c.requires.0 _ found item.1 c.in_default.not-Weaker)
    ∙ l.invariant

pub loop-step-preserved : goal.loop-step-preserved
loop-step-preserved c =
    let l = c.loop-step in
    let nodes = c.args.claim.now.nodes in
    let steps = c.args.number + 1 - l._step in
    let found : settled_within steps nodes l.at ≡ Some c.requires.0 = l.invariant ∙ c.requires.1 in
    let item = settled-item c.as_slice-nodes.result.now nodes steps l.at c.requires.0
    c.index-nodes-at.result c.as_slice-nodes.ensures found in
    let some = settled-steps nodes steps l.at c.requires.0 found in
    let fewer : steps ≡ suc (c.args.number + 1 - (l._step + 1)) = omega (arith, some) in
    settled-on nodes steps
    (c.args.number + 1 - (l._step + 1)) l.at c.in-Weaker.child _ fewer item.1 c.in-Weaker.is
    ∙ l.invariant

pub unreachable-requires : goal.unreachable-requires
unreachable-requires c =
    let l = c.loop-step in
    let nodes = c.args.claim.now.nodes in
    let steps = c.args.number + 1 - l._step in
    let some = settled-steps nodes steps l.at c.requires.0 (l.invariant ∙ c.requires.1) in
    let root = settled-item c.as_slice-nodes.result.now nodes (suc c.args.number) c.args.number
    c.requires.0 c.requires.0 c.as_slice-nodes.ensures c.requires.1 in
    omega (arith, some, root.0, c.loop-step-test.false)
