use Rattle.pg_gf2.proofs.ClassLemmas.{vector_class-sets}
use Rattle.pg_gf2.proofs.laws.vector_sets_give_the_class.Goals as goal

pub returns : goal.returns
returns c = vector_class-sets
