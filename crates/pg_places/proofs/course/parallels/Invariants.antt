use Rattle.std.proofs.Common.{◌≡◌, ◌≤◌, take}
use Rattle.std.specs.List.{count_by}
use Rattle.pg_places.specs.Courses.{have_same_ends}
use Rattle.pg_places.proofs.course.parallels.Given as goal

abbrev pub invariant-loop-other : goal.invariant-loop-other
invariant-loop-other l = (l.count ≡ count_by (have_same_ends l.edge) (take l.other-index l.ends))
    × (l.count ≤ l.other-index)
