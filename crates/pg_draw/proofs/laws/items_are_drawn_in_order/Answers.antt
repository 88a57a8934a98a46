use Rattle.pg_draw.proofs.Order.{drawn_between}
use Rattle.pg_draw.proofs.laws.items_are_drawn_in_order.Goals as goal

pub returns : goal.returns
returns c = drawn_between
