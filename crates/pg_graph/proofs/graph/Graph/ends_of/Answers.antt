use Rattle.std.proofs.Common.{ℕ, ◌<◌, arith, List, get_or, ap, ◌∙◌, subst, sym}
use Rattle.pg_graph.proofs.GraphLemmas.{ends-edge, ends-e, ends_in_range}
use Rattle.pg_graph.proofs.graph.Graph.ends_of.Goals as goal

pub returns-then-k-edge_count : goal.returns-then-k-edge_count
returns-then-k-edge_count c =
    let g = c.args.self.now in
    let is = ap (λ (ends : List (ℕ × ℕ)). get_or ends c.args.k (0, 0)) c.as_slice.ensures
    ∙ ends-edge g c.args.k (omega arith) in
    let range = ends_in_range g c.args.k c.requires.graph c.requires.edge in
    record {
      ends = is;
      first = subst (λ (p : ℕ × ℕ). p.0 < g.vertices) (sym is) range.0;
      second = subst (λ (p : ℕ × ℕ). p.1 < g.vertices) (sym is) range.1;
    }

pub returns-else-k-edge_count : goal.returns-else-k-edge_count
returns-else-k-edge_count c =
    let g = c.args.self.now in
    let is = ends-e g c.args.k (omega arith) in
    let range = ends_in_range g c.args.k c.requires.graph c.requires.edge in
    record {
      ends = is;
      first = subst (λ (p : ℕ × ℕ). p.0 < g.vertices) (sym is) range.0;
      second = subst (λ (p : ℕ × ℕ). p.1 < g.vertices) (sym is) range.1;
    }
