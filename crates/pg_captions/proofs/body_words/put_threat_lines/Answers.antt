use Rattle.std.proofs.Common.{append_assoc}
use Rattle.pg_captions.proofs.body_words.put_threat_lines.Goals as goal

pub returns : goal.returns
returns c = rw (
  c.in_ok-put_line-2.ensures,
  c.in_ok-put_line.ensures,
) (simp append_assoc)
