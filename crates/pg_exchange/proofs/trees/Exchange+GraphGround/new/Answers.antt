use Rattle.std.proofs.Common.{ℕ, Bool, ap, ◌∙◌, sym}
use Rattle.std.specs.FinSet.{contains}
use Rattle.pg_exchange.specs.Matroid.{Matroid}
use Rattle.pg_exchange.specs.Forest.{graph_matroid}
use Rattle.pg_exchange.specs.declared.graph_ground.GraphGround.{GraphGround}
use Rattle.pg_exchange.proofs.ForestLemmas.{IsApart-at}
use Rattle.pg_exchange.proofs.trees.Exchange+GraphGround.new.Goals as goal

pub returns-clause-apart : goal.returns-clause-apart
returns-clause-apart c =
    let r = c.open.result in
    let m : GraphGround → Matroid =
    λ s. graph_matroid s.graph (contains s.x) (contains s.elements) in
    let chosen : GraphGround → ℕ → Bool = λ s. contains s.base in
    IsApart-at (m c.in_ok-second.second) (m r.first) (chosen c.in_ok-second.second)
    (chosen r.second) (contains c.members.result) (chosen r.first)
    (ap m c.open.ensures.0 ∙ (c.in_ok-first.ensures ∙ sym c.in_ok-second.ensures.matroid))
    (ap chosen c.open.ensures.1)
    (ap chosen c.open.ensures.0 ∙ sym c.members.ensures) c.in_ok-second.ensures.apart
