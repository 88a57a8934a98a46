use Rattle.pg_gen.proofs.Boards.{flat_next}
use Rattle.pg_draw.specs.Shapes.{vertex_shapes}
use Rattle.pg_draw.proofs.drawing.push_each_vertex.Goals as goal

pub loop-vertex-preserved : goal.loop-vertex-preserved
loop-vertex-preserved c =
    flat_next (vertex_shapes c.args.numbers c.args.plan c.args.terminals.now) c.loop-vertex.vertex
    c.args.shapes.now.items _ _ c.in_ok-push_vertex.ensures c.loop-vertex.invariant
