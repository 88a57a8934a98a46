use Rattle.std.proofs.Common.{arith}
use Rattle.pg_leaf.proofs.Common.{slice_get-get_or, at_set_same}
use Rattle.pg_leaf.proofs.Taking.{one-taken, stays-gone}
use Rattle.pg_leaf.proofs.order.Order.take.Goals as goal

pub returns-clause-takes : goal.returns-clause-takes
returns-clause-takes c =
    let left = c.args.self.now.left in
    let at = slice_get-get_or left c.args.v 0 (omega (arith, c.if-i-ge-MAX_POINTS.false)) in
    record {
      keeps = λ moves is. rw c.in_ok-push.ensures.items
          (one-taken moves c.args.self.now.members.items left c.args.v _ is at c.if-k.false);
      gone = λ w gone. stays-gone left c.args.v w _ at gone;
    }

pub returns-clause-gone : goal.returns-clause-gone
returns-clause-gone c = λ low. at_set_same c.args.self.now.left c.args.v 65535 (omega (arith, low))
