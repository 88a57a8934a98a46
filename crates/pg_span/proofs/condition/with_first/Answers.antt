use Rattle.std.proofs.Common.{◌≡◌, ◌<◌, ℕ, true, Option, inl, inr, sym, subst}
use Rattle.std.specs.Prelude.{IfSome}
use Rattle.pg_span.proofs.Common.{FinSet, contains, nat_cmp, insert-cases, edge_count}
use Rattle.pg_span.proofs.condition.with_first.Goals as goal

pub returns-in-Some-clause-range : goal.returns-in-Some-clause-range
returns-in-Some-clause-range c v has =
    let g = c.args.g.now in
    let low : c.in-Some.v < edge_count g.graph =
    subst (λ (o : Option ℕ). IfSome o (λ q. q < edge_count g.graph)) c.in-Some.is c.requires in
    elim (insert-cases g.x c.in-Some.v v
    (subst (λ (s : FinSet nat_cmp). contains s v ≡ true) c.put.ensures has)) [
      | inl same ↦ subst (λ (q : ℕ). q < edge_count g.graph) (sym same) low
      | inr old ↦ g.fits.x_range v old
    ]
