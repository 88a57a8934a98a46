use Rattle.pg_pns.proofs.Common.{keys_of}
use Rattle.pg_pns.specs.Reading.{IsReadFromStart}
use Rattle.pg_pns.specs.Search.{GoesOn}
use Rattle.pg_pns.proofs.expansion.find_answer.Given as goal

abbrev pub invariant-loop-n : goal.invariant-loop-n
invariant-loop-n l = IsReadFromStart l.asked.game.now l.asked.question l.board l.cache
    × GoesOn l.asked.game.now l.asked.question l.n (keys_of l.expanded.entries) l.table
