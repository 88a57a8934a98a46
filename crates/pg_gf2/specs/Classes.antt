-- The classes of games on vectors.
use Rattle.std.specs.Prelude.{ℕ, ◌++◌, ◌∷◌, [], List, length, Option}
use Rattle.pg_gf2.specs.Prelude.{FinSet, nat_cmp, Side, X, Y, Position, Rules, value_by, span_rules}
use Rattle.pg_gf2.specs.Prelude.{AreSpanTrees, AreSpanCuts, Class, SpanSetsHold}
use Rattle.pg_game.specs.Class.{Class as Named, class_by}
use Rattle.pg_gf2.specs.declared.game.VecGame.{VecGame}
use Rattle.pg_gf2.specs.Vectors.{vector_spans}

-- the vectors, and the target as the last one, which stands for e
abbrev pub with_target : VecGame → List ℕ
with_target g = g.vectors ++ (g.target ∷ [])

-- X wins where the target is the sum of some of X's vectors, and Y where it isn't that of some that
-- aren't Y's
abbrev pub vector_rules : VecGame → Rules
vector_rules g = span_rules (vector_spans (with_target g)) (length g.vectors)

-- the game's marks with a side to move
abbrev pub at_turn : VecGame → Side → Position
at_turn g turn = record { x = g.x; y = g.y; turn = turn; left = 1 }

abbrev pub TreesAt : VecGame → Side → FinSet nat_cmp → FinSet nat_cmp → Type 0
TreesAt g turn a1 a2 =
    AreSpanTrees (vector_spans (with_target g)) (length g.vectors) (at_turn g turn) a1 a2

abbrev pub CutsAt : VecGame → Side → FinSet nat_cmp → FinSet nat_cmp → Type 0
CutsAt g turn d1 d2 =
    AreSpanCuts (vector_spans (with_target g)) (length g.vectors) (at_turn g turn) d1 d2

-- the sets of a class at the game's marks
abbrev pub VectorSetsHold : VecGame → Class → Type 0
VectorSetsHold g c =
    SpanSetsHold (vector_spans (with_target g)) (length g.vectors) (at_turn g X) (at_turn g Y) c

-- the class by the values with X and with Y to move
unfoldable pub vector_class : VecGame → Option Named
vector_class g =
    class_by (value_by (vector_rules g) (at_turn g X)) (value_by (vector_rules g) (at_turn g Y))
