use Rattle.pg_gf2.proofs.Common.{X}
use Rattle.pg_gf2.specs.Classes.{at_turn}
use Rattle.pg_gf2.proofs.ClassLemmas.{place}
use Rattle.pg_gf2.proofs.LawLemmas.{sets_force}
use Rattle.pg_gf2.proofs.laws.vector_trees_force.Goals as goal

pub returns : goal.returns
returns c = λ g turn a1 a2 t. sets_force g X (at_turn g turn) a1 a2 (place g turn) t
