use Rattle.std.proofs.Common.{◌≡◌, map, take}
use Rattle.pg_family_files.specs.Print.{signs_of}
use Rattle.pg_scene.proofs.vector_shown.sign_rows.Given as goal

abbrev pub invariant-loop-vector : goal.invariant-loop-vector
invariant-loop-vector l =
    l.rows.items ≡ map (signs_of l.g.rows) (take l.vector-index l.g.vectors)
