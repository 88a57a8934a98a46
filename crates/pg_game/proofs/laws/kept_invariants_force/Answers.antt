use Rattle.pg_game.proofs.Strategy.{Forces-from_keeps}
use Rattle.pg_game.proofs.laws.kept_invariants_force.Goals as goal

pub returns : goal.returns
returns c = λ g side goal test keeps. Forces-from_keeps g side goal keeps
