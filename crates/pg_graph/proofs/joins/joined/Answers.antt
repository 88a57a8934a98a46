use Rattle.std.proofs.Common.{◌≡◌, arith, sym, ◌∙◌}
use Rattle.std.proofs.lemmas.Bool.{eqb-true, eq-eqb}
use Rattle.pg_graph.specs.Roots.{root_of}
use Rattle.pg_graph.proofs.joins.joined.Goals as goal

pub returns : goal.returns
returns c =
    let parents = c.label.new.parents in
    let u : c.find.result ≡ root_of parents c.args.u = c.find.ensures.value in
    let v : c.find-2.result ≡ root_of parents c.args.v =
    c.find-2.ensures.value ∙ c.find.ensures.same c.args.v (omega arith) in
    let q = c.label.ensures.same c.args.u c.args.v (omega arith) (omega arith) in
    (λ h. q.0 (sym u ∙ (eqb-true _ _ h ∙ v)), λ p. eq-eqb _ _ (u ∙ (q.1 p ∙ sym v)))
