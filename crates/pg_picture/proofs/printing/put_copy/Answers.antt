use Rattle.std.proofs.Common.{append_assoc}
use Rattle.std.proofs.lemmas.List.{append-nil}
use Rattle.pg_picture.specs.Svg.{copy_text}
use Rattle.pg_picture.proofs.printing.put_copy.Goals as goal

pub returns : goal.returns
unfolding copy_text
returns c = rw (
  c.in_ok-push_str-3.ensures.bytes,
  c.in_ok-put_shapes.ensures,
  c.in_ok-push_str-2.ensures.bytes,
  c.in_ok-put_shift.ensures,
  c.in_ok-push_str.ensures.bytes,
) (simp (append_assoc, append-nil))
