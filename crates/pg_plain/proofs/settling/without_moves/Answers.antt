use Rattle.pg_plain.proofs.SettleSteps.{x-none, y-none}
use Rattle.pg_plain.proofs.settling.without_moves.Goals as goal

pub returns-in-X : goal.returns-in-X
returns-in-X c = rw c.in-X.is x-none

pub returns-in-Y : goal.returns-in-Y
returns-in-Y c = rw c.in-Y.is y-none
