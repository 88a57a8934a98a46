use Rattle.std.proofs.Common.{refl, sym}
use Rattle.pg_met.proofs.table.keep_leaf.Goals as goal

pub returns-in_ok-node-in-Some : goal.returns-in_ok-node-in-Some
returns-in_ok-node-in-Some c = λ g t is. record {
  node = c.new.result;
  decides = sym (rw c.in-Some.is at is.answer);
  number = c.in_ok-node-in-Some.ensures.number;
  position = c.new.ensures.position;
  shows = rw c.new.ensures.body (rw c.in-Some.is at is.body);
  added = c.in_ok-node-in-Some.ensures.added;
  other = c.in_ok-node-in-Some.ensures.other;
}

pub returns-in-None : goal.returns-in-None
returns-in-None c = λ g t is. (sym (rw c.in-None.is at is.answer), λ b. refl)
