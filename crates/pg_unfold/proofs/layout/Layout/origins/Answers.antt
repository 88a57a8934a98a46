use Rattle.std.proofs.Common.{◌≤◌, List, Bool, length, map, sym, ap, ◌∙◌, subst, arith}
use Rattle.pg_unfold.proofs.Common.{ImageNode}
use Rattle.pg_unfold.specs.Marks.{copies_of}
use Rattle.pg_unfold.proofs.layout.Layout.origins.Goals as goal

pub origins_of-requires-clause-few : goal.origins_of-requires-clause-few
origins_of-requires-clause-few c =
    subst (λ (ns : List ImageNode). length ns ≤ 100000) (sym c.as_slice-nodes.ensures)
    c.requires.few

pub origins_of-requires-clause-whole : goal.origins_of-requires-clause-whole
origins_of-requires-clause-whole c =
    let marks = ap length c.as_slice-marks.ensures.value in
    let nodes = ap length c.as_slice-nodes.ensures in
    let whole = c.requires.whole in
    omega (arith, marks, nodes, whole)

pub returns : goal.returns
returns c = c.from_vec.ensures
    ∙ c.in_ok-origins.ensures
    ∙ ap (λ (ms : List Bool). map (λ copy. copy.node) (copies_of c.as_slice-nodes.result.now ms))
    c.as_slice-marks.ensures.value
    ∙ ap (λ (ns : List ImageNode).
    map (λ copy. copy.node) (copies_of ns c.args.self.now.marks.items)) c.as_slice-nodes.ensures
