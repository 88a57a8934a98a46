use Rattle.std.proofs.Common.{◌≡◌, map, take}
use Rattle.pg_maps.specs.Images.{image_on}
use Rattle.pg_unfold.proofs.board_map.image_points.Given as goal

abbrev pub invariant-loop-v : goal.invariant-loop-v
invariant-loop-v l = l.images.items ≡ map (image_on l.board l.m) (take l.v-index l.points)
