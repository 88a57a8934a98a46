use Rattle.pg_page.proofs.Wholes.{whole-closes}
use Rattle.pg_page.proofs.laws.tags_close_in_order.Goals as goal

pub returns : goal.returns
returns c = λ p whole. whole-closes p whole
