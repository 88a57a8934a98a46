use Rattle.pg_draw.proofs.Inside.{point_in_picture}
use Rattle.pg_draw.proofs.laws.points_lie_in_the_picture.Goals as goal

pub returns : goal.returns
returns c = point_in_picture
