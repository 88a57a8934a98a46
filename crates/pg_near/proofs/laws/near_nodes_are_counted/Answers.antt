use Rattle.pg_near.proofs.Places.{far-counted, near-counted}
use Rattle.pg_near.proofs.laws.near_nodes_are_counted.Goals as goal

pub returns-clause-near : goal.returns-clause-near
returns-clause-near c = near-counted

pub returns-clause-far : goal.returns-clause-far
returns-clause-far c = far-counted
