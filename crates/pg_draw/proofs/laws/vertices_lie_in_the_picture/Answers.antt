use Rattle.pg_draw.proofs.Inside.{vertex_in_picture}
use Rattle.pg_draw.proofs.laws.vertices_lie_in_the_picture.Goals as goal

pub returns : goal.returns
returns c = vertex_in_picture
