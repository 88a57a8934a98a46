use Rattle.pg_switch.proofs.AllJoined.{joins_all-iff}
use Rattle.pg_switch.proofs.laws.joins_all_by_walks.Goals as goal

pub returns : goal.returns
returns c a b m n set = joins_all-iff a b m n set
