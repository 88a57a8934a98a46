-- What the code keeps of a plan.
use Rattle.std.specs.Prelude.{◌≡◌, ℕ, ◌≤◌, length, Option}
use Rattle.pg_span.specs.Prelude.{contains, Graph, edge_count, AreEdges, answered_edge}
use Rattle.pg_span.specs.declared.cert.SpanBody.{SpanBody}
use Rattle.pg_span.specs.declared.cert.SpanBody.TheVariants.{Trees, Parts}
use Rattle.pg_span.specs.declared.plan.TreePlan.{TreePlan}

-- the parts of the claim's body, or what is left of its trees
abbrev pub plan_of : SpanBody → TreePlan → SpanBody
plan_of (Trees first a1 a2) t = Trees t.first t.a1 t.a2
plan_of (Parts numbers) t = Parts numbers

-- two sets of edges, and a reply that is an edge
pub record AreTreesOf (h : Graph) (t : TreePlan) (last : Option ℕ) : Type 0 where
  pub one : AreEdges h (contains t.a1)
  pub two : AreEdges h (contains t.a2)
  pub bound : answered_edge h last ≤ edge_count h

-- trees whose sets are edges, or parts with a number for each vertex
abbrev pub IsMovable : Graph → SpanBody → Option ℕ → Type 0
IsMovable h (Trees first a1 a2) last = AreTreesOf h (record {
  first = first;
  a1 = a1;
  a2 = a2;
}) last
IsMovable h (Parts numbers) last = length numbers ≡ h.vertices
