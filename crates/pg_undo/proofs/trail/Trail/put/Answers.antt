use Rattle.std.proofs.Common.{ap}
use Rattle.pg_undo.specs.Trail.{with_cell}
use Rattle.pg_undo.proofs.trail.Trail.put.Goals as goal

pub returns : goal.returns
unfolding with_cell
returns c = ap (λ t. with_cell t c.args.i c.args.v) c.self.view_is
