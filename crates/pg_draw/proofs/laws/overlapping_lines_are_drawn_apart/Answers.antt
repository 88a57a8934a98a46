use Rattle.pg_draw.proofs.Apart.{drawn_apart}
use Rattle.pg_draw.proofs.laws.overlapping_lines_are_drawn_apart.Goals as goal

pub returns : goal.returns
returns c = drawn_apart
