use Rattle.std.proofs.Common.{append_assoc}
use Rattle.pg_captions.proofs.span_legend.put_position.Goals as goal

pub returns : goal.returns
returns c = rw (
  c.in_ok-put_graph_line.ensures,
  c.in_ok-put_span_marks.ensures,
  c.in_ok-put_turn.ensures,
) (simp append_assoc)
