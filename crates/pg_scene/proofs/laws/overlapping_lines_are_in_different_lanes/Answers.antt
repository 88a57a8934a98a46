use Rattle.std.specs.Prelude.{[], get_or}
use Rattle.pg_scene.proofs.Lanes.{lane_low, lanes_differ}
use Rattle.pg_scene.proofs.laws.overlapping_lines_are_in_different_lanes.Goals as goal

pub returns-clause-greater : goal.returns-clause-greater
returns-clause-greater c = lanes_differ

pub returns-clause-few : goal.returns-clause-few
returns-clause-few c = λ lines i. lane_low lines i (get_or lines i [])
