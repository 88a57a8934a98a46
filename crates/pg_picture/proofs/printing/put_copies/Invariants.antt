use Rattle.std.proofs.Common.{◌≡◌, ◌++◌, string_bytes, take}
use Rattle.std.specs.List.{flat_map}
use Rattle.pg_picture.specs.Svg.{copy_text}
use Rattle.pg_picture.proofs.printing.put_copies.Given as goal

abbrev pub invariant-loop-place : goal.invariant-loop-place
invariant-loop-place l = string_bytes l.out
    ≡ string_bytes l.fn.out ++ flat_map (copy_text l.shapes) (take l.place-index l.places)
