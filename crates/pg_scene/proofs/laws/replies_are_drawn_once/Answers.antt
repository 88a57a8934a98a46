use Rattle.pg_scene.proofs.ReadBack.{replies-node}
use Rattle.pg_scene.proofs.laws.replies_are_drawn_once.Goals as goal

pub returns : goal.returns
returns c = replies-node
