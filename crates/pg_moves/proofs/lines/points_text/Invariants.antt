use Rattle.std.proofs.Common.{◌≡◌, string_bytes, take}
use Rattle.pg_moves.specs.Lines.{point_words}
use Rattle.pg_moves.specs.Prelude.{flat_map}
use Rattle.pg_moves.proofs.lines.points_text.Given as goal

abbrev pub invariant-loop-point : goal.invariant-loop-point
invariant-loop-point l = string_bytes l.text ≡ flat_map point_words (take l.point-index l.points)
