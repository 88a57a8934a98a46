use Rattle.std.proofs.Common.{append_assoc}
use Rattle.pg_captions.proofs.body_words.put_sets_lines.Goals as goal

pub returns : goal.returns
returns c = rw (
  c.in_ok-put_if.ensures,
  c.in_ok-put_line.ensures,
  c.in_ok-put_seen.ensures,
) (simp append_assoc)
