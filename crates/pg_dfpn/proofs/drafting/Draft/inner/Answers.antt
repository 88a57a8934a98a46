use Rattle.pg_dfpn.proofs.Within.{replies-plain}
use Rattle.pg_dfpn.proofs.drafting.Draft.inner.Goals as goal

pub returns-in-Some : goal.returns-in-Some
returns-in-Some c = replies-plain c.args.g.now c.args.p.now c.in-Some.replies.items
    c.from_vec.result (rw c.in-Some.is at c.in_ok-replies.ensures.points)
    (rw c.in-Some.is at c.in_ok-replies.ensures.numbers) c.from_vec.ensures
