use Rattle.std.proofs.Common.{◌≡◌, ◌++◌, take}
use Rattle.pg_potential.proofs.Common.{words_of}
use Rattle.pg_potential.proofs.marks.push_row.Given as goal

abbrev pub invariant-loop-i : goal.invariant-loop-i
invariant-loop-i l = l.words.items ≡ l.fn.words.items ++ take l.i (words_of l.set)
