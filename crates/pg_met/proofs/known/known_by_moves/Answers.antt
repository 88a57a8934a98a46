use Rattle.std.proofs.Common.{not, ap}
use Rattle.pg_met.proofs.KnownLemmas.{by_moves-from_move, by_moves-from_replies, by_moves-from_none}
use Rattle.pg_met.proofs.known.known_by_moves.Goals as goal

pub returns-in-Some-clause-known : goal.returns-in-Some-clause-known
returns-in-Some-clause-known c =
    by_moves-from_move c.args.turn c.wants-wants.result c.args.moves.now c.args.answers.now
    c.in-Some.point c.in-Some.child c.wants-wants.ensures c.in-Some.ensures.some

pub returns-in-Some-2-clause-known : goal.returns-in-Some-2-clause-known
returns-in-Some-2-clause-known c = by_moves-from_replies c.args.turn
    (not c.wants-wants.result) c.args.moves.now c.args.answers.now c.in-Some-2.replies.items
    (ap not c.wants-wants.ensures) (rw c.in-Some-2.is at c.in_ok-replies.ensures.some)

pub returns-in-None-clause-known : goal.returns-in-None-clause-known
returns-in-None-clause-known c = by_moves-from_none c.args.turn c.wants-wants.result
    c.args.moves.now c.args.answers.now c.wants-wants.ensures c.in_default.ensures.none
    (rw c.in-None.is at c.in_ok-replies.ensures.none)
