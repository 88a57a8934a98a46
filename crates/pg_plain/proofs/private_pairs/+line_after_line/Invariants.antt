use Rattle.std.proofs.Common.{◌+◌, ◌*◌, length}
use Rattle.std.specs.FinSet.{contains}
use Rattle.pg_plain.specs.PairSearch.{is_pair, is_lesser}
use Rattle.pg_plain.proofs.PairSearches.{PassesNone}
use Rattle.pg_plain.proofs.private_pairs.+line_after_line.Given as goal

abbrev pub decreases-have_private_pairs : goal.decreases-have_private_pairs
decreases-have_private_pairs l = 4 * length l.lines.now

abbrev pub decreases-has_pair : goal.decreases-has_pair
decreases-has_pair l = 4 * length l.others.now + 3

abbrev pub decreases-has_greater : goal.decreases-has_greater
decreases-has_greater l = 4 * length l.others.now + 2

abbrev pub decreases-is_rest : goal.decreases-is_rest
decreases-is_rest l = 4 * length l.others.now + 1

abbrev pub invariant-has_pair-loop-a : goal.invariant-has_pair-loop-a
invariant-has_pair-loop-a l = PassesNone (is_lesser l.own l.others (contains l.free) l.line)
    (contains l.free) l.line l.a-index

abbrev pub invariant-has_greater-loop-b : goal.invariant-has_greater-loop-b
invariant-has_greater-loop-b l =
    PassesNone (is_pair l.own l.others (contains l.free) l.a) (contains l.free) l.line l.b-index
