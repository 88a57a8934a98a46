use Rattle.std.proofs.Common.{◌≡◌, ◌↔◌, arith, ◌∙◌, ap, subst, not, eqb, IsTrue}
use Rattle.std.proofs.Math.Bool.{beq}
use Rattle.pg_graph.specs.Graph.{first_end_of, second_end_of}
use Rattle.pg_graph.specs.Labels.{IsSplit}
use Rattle.pg_graph.specs.Roots.{root_of}
use Rattle.pg_graph.proofs.SplitLemmas.{split_test}
use Rattle.pg_graph.proofs.joins.is_split.Goals as goal

pub returns-clause-split : goal.returns-clause-split
returns-clause-split c =
    let parents = c.args.parents.now in
    let g = c.args.g.now in
    let k = c.args.k in
    let first : c.ends_of-a.result.0 ≡ first_end_of g k = ap (λ p. p.0) c.ends_of-a.ensures.ends in
    let second : c.ends_of-a.result.1 ≡ second_end_of g k =
    ap (λ p. p.1) c.ends_of-a.ensures.ends in
    let a : c.find.result ≡ root_of parents (first_end_of g k) =
    c.find.ensures.value ∙ ap (root_of parents) first in
    let b : c.find-2.result ≡ root_of parents (second_end_of g k) = c.find-2.ensures.value
    ∙ (c.find.ensures.same c.ends_of-a.result.1 (omega arith) ∙ ap (root_of parents) second) in
    subst
    (λ x. IsTrue (not (beq (eqb c.find.result c.args.inside) (eqb c.find-2.result c.args.inside)))
    ↔ IsSplit x (root_of parents (second_end_of g k)) c.args.inside) a
    (subst
    (λ y. IsTrue (not (beq (eqb c.find.result c.args.inside) (eqb c.find-2.result c.args.inside)))
    ↔ IsSplit c.find.result y c.args.inside) b
    (split_test c.find.result c.find-2.result c.args.inside))
