use Rattle.std.proofs.Common.{◌≡◌, ◌+◌, ◌*◌}
use Rattle.pg_threat.specs.Lacking.{left_to}
use Rattle.pg_threat.specs.Search.{IsSearching}
use Rattle.pg_threat.proofs.search.+attacks_and_replies.Given as goal

abbrev pub decreases-answered : goal.decreases-answered
decreases-answered l = 2 * l.depth

abbrev pub decreases-first_of_depth : goal.decreases-first_of_depth
decreases-first_of_depth l = 2 * l.depth + 1

abbrev pub invariant-first_of_depth-loop-next : goal.invariant-first_of_depth-loop-next
invariant-first_of_depth-loop-next l =
    (l.b ≡ l.fn.b) × IsSearching l.b.game l.b.stand.position l.side l.depth l.attacks l.next

abbrev pub decreases-first_of_depth-loop-next : goal.decreases-first_of_depth-loop-next
decreases-first_of_depth-loop-next l = left_to 1024 l.next
