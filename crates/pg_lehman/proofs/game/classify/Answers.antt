use Rattle.std.proofs.Common.{arith, ℕ, Bool, true, ap, ◌∙◌}
use Rattle.pg_lehman.proofs.Common.{contains, Matroid, elements_of}
use Rattle.pg_game.proofs.Outcomes.{IsGraph-board}
use Rattle.pg_lehman.proofs.ClassLemmas.{elements-e, SetsHold-decided, class-sets}
use Rattle.pg_lehman.proofs.game.classify.Goals as goal

pub new-requires-clause-graph : goal.new-requires-clause-graph
new-requires-clause-graph c = IsGraph-board c.in-Graph.graph
    (c.args.g.now.fits.within.on_graph c.in-Graph.graph c.in-Graph.is)

pub new-requires-clause-few : goal.new-requires-clause-few
new-requires-clause-few c =
    omega (arith, (c.args.g.now.fits.within.on_graph c.in-Graph.graph c.in-Graph.is).few_vertices)

pub decide-requires : goal.decide-requires
decide-requires c =
    let h = c.in-Graph.graph in
    let all = ap (λ (q : Matroid). q.elements) c.in_ok-trees-in-Graph.ensures.matroid in
    ap (λ (k : ℕ → Bool). k c.edge_count.result) all
    ∙ (ap (elements_of h (contains c.args.g.now.x) (contains c.args.g.now.y) true)
    c.edge_count.ensures
    ∙ elements-e h (contains c.args.g.now.x) (contains c.args.g.now.y))

pub returns-clause-sets : goal.returns-clause-sets
returns-clause-sets c = SetsHold-decided c.args.g.now c.in-Graph.graph c.in-Graph.is _
    c.edge_count.result c.decide.result c.in_ok-trees-in-Graph.ensures.matroid c.edge_count.ensures
    c.decide.ensures.taken

pub returns-clause-class : goal.returns-clause-class
returns-clause-class c = class-sets c.args.g.now c.decide.result
    (SetsHold-decided c.args.g.now c.in-Graph.graph c.in-Graph.is _ c.edge_count.result
    c.decide.result c.in_ok-trees-in-Graph.ensures.matroid c.edge_count.ensures
    c.decide.ensures.taken)
