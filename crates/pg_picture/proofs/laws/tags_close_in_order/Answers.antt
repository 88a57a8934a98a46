use Rattle.pg_picture.proofs.TagScans.{picture-closes}
use Rattle.pg_picture.proofs.laws.tags_close_in_order.Goals as goal

pub returns : goal.returns
returns c = λ p. picture-closes p
