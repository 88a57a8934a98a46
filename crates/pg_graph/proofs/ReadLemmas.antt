-- The roots, read once for each vertex, label the vertices.
use Rattle.std.proofs.Common.{◌≡◌, ◌<◌, ℕ, Bool, List, length, slice_index, arith, sym, ◌∙◌}
use Rattle.pg_graph.specs.declared.graph.Graph.{Graph}
use Rattle.pg_graph.specs.Graph.{first_end_of, second_end_of}
use Rattle.pg_graph.specs.Joiner.{AreEdges}
use Rattle.pg_graph.proofs.GraphLemmas.{joins_in-sound, joins_in-complete}
use Rattle.pg_graph.specs.Labels.{IsLabelling, AreLabels}
use Rattle.pg_graph.specs.Roots.{root_of}

pub AreLabels-read : (g : Graph) (set : ℕ → Bool) (parents names : List ℕ)
    → AreEdges g set
    → length parents ≡ g.vertices
    → length names ≡ g.vertices
    → IsLabelling (first_end_of g) (second_end_of g) set parents
    → ((v : ℕ) → v < length parents
    → (slice_index names v ≡ root_of parents v) × (slice_index names v < length parents))
    → AreLabels g set names
AreLabels-read g set parents names edges all size labelled read = record {
  size = size;
  range = λ v l.
      let low : slice_index names v < length parents = (read v (omega arith)).1 in
      omega arith;
  same = λ u v lu lv.
      let first = (read u (omega arith)).0 in
      let second = (read v (omega arith)).0 in
      let q = labelled.same u v (omega arith) (omega arith) in (
        λ e. joins_in-complete g set u v edges (q.0 (sym first ∙ (e ∙ second))),
        λ p. first ∙ (q.1 (joins_in-sound g set u v p) ∙ sym second),
      );
}
