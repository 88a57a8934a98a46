use Rattle.std.proofs.Common.{arith}
use Rattle.pg_record.proofs.Sessions.{session-open}
use Rattle.pg_record.proofs.session.Session.open.Goals as goal

pub invariant_of-result : goal.invariant_of-result
invariant_of-result c = session-open c.args.g.now c.in_ok-events.events.items
    c.in_ok-moves.moves.items c.in_ok-table.table _ _ c.in_ok-events.ensures.items
    c.in_ok-moves.ensures.items c.in_ok-table.ensures (omega (arith, c.in_ok-events.ensures.exact))
    (omega (arith, c.in_ok-moves.ensures.exact))
