use Rattle.std.proofs.Common.{◌≡◌, ◌++◌, drop, map}
use Rattle.pg_request.specs.Answer.{entry_part, frame}
use Rattle.pg_request.proofs.answering.log_frame.Given as goal

abbrev pub invariant-loop-entry : goal.invariant-loop-entry
invariant-loop-entry l = l.bytes.items ++ frame (map entry_part (drop l.entry-index l.log))
    ≡ frame (map entry_part l.log)
