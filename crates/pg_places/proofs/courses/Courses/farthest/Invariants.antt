use Rattle.std.proofs.Common.{◌≡◌, take}
use Rattle.std.specs.Prelude.{fold}
use Rattle.pg_places.specs.Places.{IsWithin, at}
use Rattle.pg_places.specs.Courses.{farther}
use Rattle.pg_places.specs.declared.measures.TheConstants.{MAX_MIDDLE_REACH}
use Rattle.pg_places.proofs.courses.Courses.farthest.Given as goal

abbrev pub invariant-loop-course : goal.invariant-loop-course
invariant-loop-course l = (l.far ≡ fold farther (at 0 0) (take l.course-index l.course-items))
    × IsWithin MAX_MIDDLE_REACH l.far
