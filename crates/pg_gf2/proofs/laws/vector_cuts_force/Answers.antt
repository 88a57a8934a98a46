use Rattle.pg_gf2.proofs.Common.{Y}
use Rattle.pg_gf2.specs.Classes.{at_turn}
use Rattle.pg_gf2.proofs.ClassLemmas.{place}
use Rattle.pg_gf2.proofs.LawLemmas.{sets_force}
use Rattle.pg_gf2.proofs.laws.vector_cuts_force.Goals as goal

pub returns : goal.returns
returns c = λ g turn a1 a2 t. sets_force g Y (at_turn g turn) a1 a2 (place g turn) t
