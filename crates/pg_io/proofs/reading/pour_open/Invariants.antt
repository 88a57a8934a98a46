use Rattle.std.proofs.Common.{◌≡◌, ◌≤◌, ◌-◌, ◌+◌, ◌<◌, ℕ, Option, Some, None, length}
use Rattle.pg_io.specs.Files.{ReadsOnly}
use Rattle.pg_io.proofs.Pouring.{HasPoured, turns}
use Rattle.pg_io.proofs.reading.pour_open.Given as goal

abbrev pub invariant-loop-spare : goal.invariant-loop-spare
invariant-loop-spare g l = (0 < length l.buf)
    × g.S.Sink.ready l.sink
    × HasPoured g.S.Sink.took l.initial.sink l.sink (g.F.Files.told l.initial.files).left
    (g.F.Files.told l.files).left l.limit l.spare
    × ReadsOnly (g.F.Files.told l.initial.files) (g.F.Files.told l.files)
    × ((g.F.Files.told l.files).faults ≡ (g.F.Files.told l.initial.files).faults)

abbrev pub decreases-loop-spare : goal.decreases-loop-spare
decreases-loop-spare g l = turns l.spare
