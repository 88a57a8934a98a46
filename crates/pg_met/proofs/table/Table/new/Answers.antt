use Rattle.pg_met.proofs.Meeting.{empty-tree}
use Rattle.pg_met.proofs.table.Table.new.Goals as goal

pub returns-clause-tree : goal.returns-clause-tree
returns-clause-tree c = λ g t. empty-tree g t (record {
  positions = c.new.result;
  moves = c.new-2.result;
  parents = c.new-3.result;
  answers = c.new-4.result;
  claims = c.new-5.result;
}) c.new.ensures c.new-2.ensures.items c.new-3.ensures.items c.new-4.ensures.items c.new-5.ensures
