use Rattle.std.proofs.Common.{◌≡◌, ◌++◌, take, drop, []}
use Rattle.std.specs.List.{All}
use Rattle.pg_places.specs.Courses.{IsNear, courses_behind}
use Rattle.pg_places.proofs.courses.Courses.of_edges.Given as goal

abbrev pub invariant-loop-i : goal.invariant-loop-i
invariant-loop-i l =
    record {
      told : l.members.items ++ courses_behind l.plan (take l.i l.ends) (drop l.i l.ends)
          ≡ courses_behind l.plan [] l.ends;
      near : All IsNear l.members.items;
    }
