use Rattle.std.proofs.Common.{ℕ, List, [], ◌∷◌, ◌++◌, sym, ap₂, ◌∙◌, arith}
use Rattle.std.proofs.lemmas.List.FromFn.{map-range_with_len_more}
use Rattle.pg_maps.specs.GridMaps.{image_of}
use Rattle.pg_maps.proofs.fitting.images_of_points.Goals as goal

pub loop-v-preserved : goal.loop-v-preserved
loop-v-preserved c = c.in_ok-push.ensures.items
    ∙ ap₂ (λ (xs : List ℕ) (v : ℕ). xs ++ v ∷ []) c.loop-v.invariant c.image_of.ensures.image
    ∙ sym
    (map-range_with_len_more (image_of c.args.m c.args.grid) 0 c.loop-v.v c.loop-v.v (omega arith))
