-- The free edges as a matroid.
use Rattle.std.specs.Prelude.{false}
use Rattle.pg_span.specs.Prelude.{contains, Matroid, graph_matroid, elements_of}
use Rattle.pg_span.specs.declared.game.SpanGame.{SpanGame}

-- the free edges over X's
abbrev pub free_matroid : SpanGame → Matroid
free_matroid g =
    graph_matroid g.graph (contains g.x) (elements_of g.graph (contains g.x) (contains g.y) false)
