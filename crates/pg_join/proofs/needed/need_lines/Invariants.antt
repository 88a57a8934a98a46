use Rattle.std.proofs.Common.{◌≡◌, string_bytes, take}
use Rattle.pg_join.specs.Needs.{need_lines}
use Rattle.pg_join.proofs.needed.need_lines.Given as goal

abbrev pub invariant-loop-need : goal.invariant-loop-need
invariant-loop-need l = string_bytes l.text ≡ need_lines (take l.need-index l.needs)
