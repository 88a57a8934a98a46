use Rattle.std.proofs.Common.{append_assoc}
use Rattle.std.proofs.lemmas.List.{append-nil}
use Rattle.pg_picture.specs.Svg.{attribute_text, ground_text}
use Rattle.pg_picture.proofs.printing.put_ground.Goals as goal

pub returns : goal.returns
unfolding attribute_text ground_text
returns c = rw (
  c.in_ok-push_str-2.ensures.bytes,
  c.in_ok-put_number-2.ensures,
  c.in_ok-put_number.ensures,
  c.in_ok-push_str.ensures.bytes,
) (simp (append_assoc, append-nil))
