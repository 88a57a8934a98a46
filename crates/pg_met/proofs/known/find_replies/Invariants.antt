use Rattle.std.proofs.Common.{take}
use Rattle.pg_met.specs.Known.{HaveReplies}
use Rattle.pg_met.proofs.known.find_replies.Given as goal

abbrev pub invariant-loop-m : goal.invariant-loop-m
invariant-loop-m l = HaveReplies l.answer (take l.m-index l.moves) l.answers l.replies.items
