use Rattle.std.proofs.Common.{◌≡◌, ◌+◌, map}
use Rattle.pg_draw.proofs.Common.{range_with_len}
use Rattle.pg_draw.specs.Sheets.{copy_place}
use Rattle.pg_draw.proofs.sheet.copy_places.Given as goal

abbrev pub invariant-loop-i : goal.invariant-loop-i
invariant-loop-i l =
    l.places.items ≡ map (λ i. copy_place l.width l.height (i + 1)) (range_with_len 0 l.i)
