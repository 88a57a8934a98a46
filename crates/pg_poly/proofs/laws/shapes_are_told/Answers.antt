use Rattle.pg_poly.proofs.Decides.{shape_from, shape_to}
use Rattle.pg_poly.proofs.laws.shapes_are_told.Goals as goal

pub returns-clause-sound : goal.returns-clause-sound
returns-clause-sound c = shape_from

pub returns-clause-complete : goal.returns-clause-complete
returns-clause-complete c = shape_to
