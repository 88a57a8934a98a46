use Rattle.pg_board.proofs.Walks.{live-below}
use Rattle.pg_leaf.proofs.LiveWalk.{next-listed}
use Rattle.pg_leaf.proofs.Taking.{takes-on}
use Rattle.pg_leaf.proofs.order.Order.take_lines.Goals as goal

pub take_line-requires : goal.take_line-requires
take_line-requires c = live-below c.args.b.now.game c.args.b.now.stand.position c.args.side
    c.in-Some.line (rw c.in-Some.is at c.loop-v.invariant.0)

pub loop-v-preserved : goal.loop-v-preserved
loop-v-preserved c = (
  next-listed _ _ c.next_live-next.result c.next_live-next.ensures,
  takes-on _ _ _ c.loop-v.invariant.1 c.in_ok-take_line.ensures,
)
