use Rattle.std.proofs.Common.{arith}
use Rattle.pg_dfpn.proofs.Within.{fit-push}
use Rattle.pg_dfpn.proofs.drafting.Draft.add.Goals as goal

pub returns-clause-fit : goal.returns-clause-fit
returns-clause-fit c = fit-push c.args.board.now.game c.position-p.result c.in-Some.body
    c.args.self.now.nodes.items c.push.new.self.items c.position-p.ensures.fits
    (rw c.in-Some.is at c.in_ok-body.ensures.body)
    (omega (arith, c.if-number.false, c.len-number.ensures)) c.in_ok-push.ensures.items
    c.requires.fit
