use Rattle.pg_potential.proofs.FlatMarks.{kept-none}
use Rattle.pg_potential.proofs.marks.Marks.new.Goals as goal

pub returns-clause-none : goal.returns-clause-none
returns-clause-none c = kept-none _ c.new-2.ensures.items
