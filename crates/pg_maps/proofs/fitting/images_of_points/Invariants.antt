use Rattle.std.proofs.Common.{◌≡◌, map}
use Rattle.std.specs.List.{range_with_len}
use Rattle.pg_maps.specs.GridMaps.{image_of}
use Rattle.pg_maps.proofs.fitting.images_of_points.Given as goal

abbrev pub invariant-loop-v : goal.invariant-loop-v
invariant-loop-v l = l.table.items ≡ map (image_of l.m l.grid) (range_with_len 0 l.v)
