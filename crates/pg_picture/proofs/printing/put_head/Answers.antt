use Rattle.std.proofs.Common.{append_assoc}
use Rattle.std.proofs.lemmas.List.{append-nil}
use Rattle.pg_picture.specs.Svg.{attribute_text, head}
use Rattle.pg_picture.proofs.printing.put_head.Goals as goal

pub returns : goal.returns
unfolding attribute_text head
returns c = rw (
  c.in_ok-put_size.ensures,
  c.in_ok-write.ensures.bytes,
  c.in_ok-push_str-2.ensures.bytes,
  c.in_ok-push_str.ensures.bytes,
) (simp (append_assoc, append-nil))
