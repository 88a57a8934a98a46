use Rattle.pg_scene.proofs.ReadBack.{pairs-all, pairs-first}
use Rattle.pg_scene.proofs.laws.pairs_are_drawn_once.Goals as goal

pub returns-clause-first : goal.returns-clause-first
returns-clause-first c = pairs-first

pub returns-clause-all : goal.returns-clause-all
returns-clause-all c = pairs-all
