use Rattle.pg_transpositions.proofs.Full.{not-full, put-few}
use Rattle.pg_transpositions.proofs.table.Table.put.Goals as goal

pub invariant_of-self : goal.invariant_of-self
invariant_of-self c = record {
  few = put-few c.insert.result c.args.self.now.numbers.entries c.insert.new.self.entries
      c.args.self.now.most c.insert.ensures.len c.insert.ensures.err
      (not-full c.is_full.result _ _ c.if-is_full.false c.is_full.ensures);
}
