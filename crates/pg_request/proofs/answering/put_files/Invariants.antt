use Rattle.std.proofs.Common.{◌≡◌, ◌++◌, drop, map, string_bytes}
use Rattle.pg_io.specs.Memory.{held_in}
use Rattle.pg_request.specs.Answer.{held_frame}
use Rattle.pg_request.proofs.answering.put_files.Given as goal

abbrev pub invariant-loop-name : goal.invariant-loop-name
invariant-loop-name l = l.answer.items
    ++ held_frame (held_in l.files) (map string_bytes (drop l.name-index l.names))
    ≡ l.fn.answer.items ++ held_frame (held_in l.files) (map string_bytes l.names)
