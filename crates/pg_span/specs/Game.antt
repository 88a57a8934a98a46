-- Connectivity games by their rules: values, and the class.
use Rattle.std.specs.Prelude.{Option}
use Rattle.pg_span.specs.Prelude.{Side, X, Y, edge_count, first_end_of, second_end_of, Rules}
use Rattle.pg_span.specs.Prelude.{value_by, Position, connectivity_rules}
use Rattle.pg_game.specs.Class.{Class, class_by}
use Rattle.pg_span.specs.declared.game.SpanGame.{SpanGame}

-- X wins where his edges join every two vertices, and Y where those that aren't hers don't
abbrev pub span_rules_of : SpanGame → Rules
span_rules_of g = connectivity_rules (first_end_of g.graph) (second_end_of g.graph)
    (edge_count g.graph) g.graph.vertices

-- the game's marks with a side to move
abbrev pub marks_at : SpanGame → Side → Position
marks_at g turn = record { x = g.x; y = g.y; turn = turn; left = 1 }

-- the class by the values with X and with Y to move: Short stands for Maker and Cut for Breaker
unfoldable pub span_class : SpanGame → Option Class
span_class g =
    class_by (value_by (span_rules_of g) (marks_at g X)) (value_by (span_rules_of g) (marks_at g Y))
