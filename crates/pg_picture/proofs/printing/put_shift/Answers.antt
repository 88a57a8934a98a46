use Rattle.std.proofs.Common.{append_assoc}
use Rattle.pg_picture.specs.Svg.{attribute_text}
use Rattle.pg_picture.proofs.printing.put_shift.Goals as goal

pub returns : goal.returns
unfolding attribute_text
returns c = rw (
  c.in_ok-push_str-2.ensures.bytes,
  c.in_ok-put_step.ensures,
  c.in_ok-push_str.ensures.bytes,
) (simp append_assoc)
