use Rattle.std.proofs.Common.{refl}
use Rattle.pg_drawing.specs.Orders.{node_of}
use Rattle.pg_drawing.proofs.claims.flawed.Goals as goal

pub returns : goal.returns
returns c = record {
  name = node_of c.args.claim 0;
  why = c.number.result;
  first = (c.args.why, c.requires, c.number.ensures);
  drawn = rw c.in-Some.is at c.in_ok-words.ensures.drawn;
  status_is = refl;
}
