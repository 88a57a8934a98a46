use Rattle.pg_image.proofs.LinesRead.{read_none}
use Rattle.pg_image.proofs.image_lines.ImageLines.new.Goals as goal

pub returns : goal.returns
returns c = read_none c.new.result c.new-2.result c.new.ensures.items c.new-2.ensures
