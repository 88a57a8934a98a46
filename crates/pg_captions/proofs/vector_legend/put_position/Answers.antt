use Rattle.std.proofs.Common.{append_assoc}
use Rattle.pg_captions.proofs.vector_legend.put_position.Goals as goal

pub returns : goal.returns
returns c = rw (
  c.in_ok-put_line.ensures,
  c.in_ok-put_count.ensures,
  c.in_ok-put_row_marks.ensures,
  c.in_ok-put_turn.ensures,
) (simp append_assoc)
