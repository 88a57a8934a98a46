use Rattle.std.proofs.Common.{◌≡◌, map, take}
use Rattle.pg_maps.specs.Images.{image_on, image_pair}
use Rattle.pg_unfold.proofs.board_map.image_pairs.Given as goal

abbrev pub invariant-loop-pair : goal.invariant-loop-pair
invariant-loop-pair l =
    l.images.items ≡ map (image_pair (image_on l.board l.m)) (take l.pair-index l.pairs)
