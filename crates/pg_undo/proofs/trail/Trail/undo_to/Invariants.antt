use Rattle.std.proofs.Common.{◌≡◌, ◌≤◌, length}
use Rattle.pg_undo.specs.Trail.{back_to}
use Rattle.pg_undo.proofs.trail.Trail.undo_to.Given as goal

abbrev pub invariant-loop-self : goal.invariant-loop-self
invariant-loop-self l = (l.self ≡ back_to (length l.self.entries) l.initial.self)
    × (l.level ≤ length l.self.entries)
    × (length l.self.entries ≤ length l.initial.self.entries)

abbrev pub decreases-loop-self : goal.decreases-loop-self
decreases-loop-self l = length l.self.entries
