-- What two settled bases of vectors make the class.
use Rattle.std.proofs.Common.{◌≡◌, ℕ, refl, Some, length}
use Rattle.pg_gf2.proofs.Common.{contains, Side, X, Y, IsPlace, Matroid, Class, named, free_with_e}
use Rattle.pg_gf2.proofs.Common.{SpanSetsHold-decided, SpanSetsHold-class}
use Rattle.pg_lehman.specs.Taken.{IsTaken}
use Rattle.pg_gf2.specs.declared.game.VecGame.{VecGame}
use Rattle.pg_gf2.specs.Vectors.{vector_spans, vector_matroid}
use Rattle.pg_gf2.specs.GroundLaws.{IsSpan-vectors}
use Rattle.pg_gf2.specs.Classes.{with_target, at_turn, VectorSetsHold, vector_class}

module _ (g : VecGame) where
  pub place : (turn : Side) → IsPlace (length g.vectors) (at_turn g turn)
  place turn = record {
    x_range = g.fits.x_range;
    y_range = g.fits.y_range;
    disjoint = g.fits.disjoint;
    one_left = refl;
  }

  -- as the calls tell it
  pub VectorSetsHold-decided : (m : Matroid) (e : ℕ) (c : Class)
      → m ≡ vector_matroid (with_target g) (contains g.x)
      (free_with_e (contains g.x) (contains g.y) (length g.vectors))
      → e ≡ length g.vectors
      → IsTaken m e c
      → VectorSetsHold g c
  VectorSetsHold-decided m e c same last t =
      SpanSetsHold-decided (vector_spans (with_target g)) (IsSpan-vectors (with_target g))
      (length g.vectors) g.x g.y 1 1 g.fits.x_range g.fits.y_range g.fits.disjoint m e c same last t

  pub vector_class-sets : (c : Class) → VectorSetsHold g c → vector_class g ≡ Some (named c)
  unfolding vector_class
  vector_class-sets c s = SpanSetsHold-class (vector_spans (with_target g))
      (IsSpan-vectors (with_target g)) (length g.vectors) g.x g.y 1 1 c (place X) (place Y) s
