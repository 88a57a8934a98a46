use Rattle.std.proofs.Common.{◌≡◌, false, take}
use Rattle.pg_met.proofs.Common.{list_any, is_answer}
use Rattle.pg_met.specs.Known.{answer_at}
use Rattle.pg_met.proofs.known.find_move.Given as goal

abbrev pub invariant-loop-m : goal.invariant-loop-m
invariant-loop-m l =
    list_any (λ m. is_answer l.answer (answer_at l.answers m.1)) (take l.m-index l.moves) ≡ false
