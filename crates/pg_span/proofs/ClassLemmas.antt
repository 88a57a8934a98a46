-- What holds of a solved game tells its class.
use Rattle.std.proofs.Common.{◌≡◌, ℕ, ◌<◌, Some, None, List, refl, sym, subst}
use Rattle.std.proofs.Common.{arith, true}
use Rattle.std.specs.Prelude.{Option}
use Rattle.std.specs.Prelude.{slice_index}
use Rattle.pg_span.proofs.Common.{both_ways, FinSet, nat_cmp, Win, Score, XWins, Draw, YWins}
use Rattle.pg_span.proofs.Common.{Side, X, Y, edge_count, first_end_of, second_end_of}
use Rattle.pg_span.proofs.Common.{ends_in_range, Position, value_by, reaches, ForcesBy, IsPlace}
use Rattle.pg_span.proofs.Common.{ForcesBy-joining_trees, ForcesBy-parts}
use Rattle.pg_span.specs.declared.game.SpanGame.{SpanGame}
use Rattle.pg_span.specs.declared.cert.SpanBody.{SpanBody}
use Rattle.pg_span.specs.declared.cert.SpanBody.TheVariants.{Trees, Parts}
use Rattle.pg_span.specs.declared.cert.TheConstants.{PART_NUMBERS}
use Rattle.pg_span.specs.declared.solved.Solved.{Solved}
use Rattle.pg_span.specs.declared.solved.Solved.TheVariants as solved
use Rattle.pg_span.specs.Game.{span_rules_of, marks_at, span_class}
use Rattle.pg_span.specs.Solved.{SolvedHolds, named}
use Rattle.pg_span.specs.Solved.{solved_class}
use Rattle.pg_span.specs.Valid.{AreTreesOfGame, ArePartsOfGame, IsBodyAt}

pub x_wins : (s : Score) → reaches X Win s ≡ true → s ≡ XWins
x_wins XWins k = refl
x_wins Draw k = absurd (both_ways _ refl k)
x_wins YWins k = absurd (both_ways _ refl k)

pub y_wins : (s : Score) → reaches Y Win s ≡ true → s ≡ YWins
y_wins YWins k = refl
y_wins Draw k = absurd (both_ways _ refl k)
y_wins XWins k = absurd (both_ways _ refl k)

module _ (g : SpanGame) where
  pub place : (turn : Side) → IsPlace (edge_count g.graph) (marks_at g turn)
  place turn = record {
    x_range = g.fits.x_range;
    y_range = g.fits.y_range;
    disjoint = g.fits.disjoint;
    one_left = refl;
  }

  some : 0 < g.graph.vertices
  some = let l = g.fits.some_vertices in omega (arith, l)

  ends : (f : ℕ)
      → f < edge_count g.graph
      → (first_end_of g.graph f < g.graph.vertices) × (second_end_of g.graph f < g.graph.vertices)
  ends f l = ends_in_range g.graph f g.fits.graph (omega arith)

  -- the side of a body that holds forces its win
  pub forced-by : (side : Side) (p : Position) (body : SpanBody)
      → IsPlace (edge_count g.graph) p
      → IsBodyAt g p side body
      → ForcesBy (span_rules_of g) p side Win
  forced-by side p (Trees first a1 a2) at h =
      subst (λ (s : Side). ForcesBy (span_rules_of g) p s Win) (sym h.0)
      (ForcesBy-joining_trees (first_end_of g.graph) (second_end_of g.graph)
      (edge_count g.graph) g.graph.vertices some ends p first a1 a2 at h.1)
  forced-by side p (Parts numbers) at h =
      subst (λ (s : Side). ForcesBy (span_rules_of g) p s Win) (sym h.0)
      (ForcesBy-parts (first_end_of g.graph) (second_end_of g.graph)
      (edge_count g.graph) g.graph.vertices PART_NUMBERS (slice_index numbers) p at h.1.1)

  by_trees : (turn : Side) (first : Option ℕ) (a1 a2 : FinSet nat_cmp)
      → AreTreesOfGame g (marks_at g turn) first a1 a2
      → value_by (span_rules_of g) (marks_at g turn) ≡ XWins
  by_trees turn first a1 a2 t =
      x_wins _ (forced-by X (marks_at g turn) (Trees first a1 a2) (place turn) (refl, t))

  by_parts : (turn : Side) (numbers : List ℕ)
      → ArePartsOfGame g (marks_at g turn) numbers
      → value_by (span_rules_of g) (marks_at g turn) ≡ YWins
  by_parts turn numbers t =
      y_wins _ (forced-by Y (marks_at g turn) (Parts numbers) (place turn) (refl, t))

  pub span_class-solved : (s : Solved)
      → SolvedHolds g s
      → span_class g ≡ Some (named (solved_class s))
  unfolding span_class
  span_class-solved (solved.Maker a1 a2) t =
      rw (by_trees X None a1 a2 t.0, by_trees Y None a1 a2 t.1) refl
  span_class-solved (solved.Breaker parts) t = rw (by_parts X parts t.0, by_parts Y parts t.1) refl
  span_class-solved (solved.First v a1 a2 parts) t =
      rw (by_trees X (Some v) a1 a2 t.0, by_parts Y parts t.1) refl
