use Rattle.pg_leaf.proofs.Taking.{all-taken}
use Rattle.pg_leaf.proofs.order.order_of.Goals as goal

pub returns : goal.returns
returns c = all-taken c.args.moves.now _ _
    (c.in_ok-take_rest.ensures.takes.keeps c.args.moves.now
    (c.in_ok-take_lines.ensures.keeps c.args.moves.now c.in_ok-order.ensures))
    c.in_ok-take_rest.ensures.gone
