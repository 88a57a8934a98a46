use Rattle.std.proofs.Common.{◌<◌, ◌++◌, ◌∷◌, [], ℕ, List, sym, ap, ap₂, ◌∙◌, subst, arith}
use Rattle.pg_fold.proofs.Common.{All-push, map-range_with_len_more, All, image_of, reverse_of}
use Rattle.pg_fold.proofs.Common.{GridMap}
use Rattle.pg_fold.proofs.tables.MapTable.new.Goals as goal

pub loop-v-preserved : goal.loop-v-preserved
loop-v-preserved c = record {
  sources = c.in_ok-push.ensures.items
      ∙ ap₂ (λ (xs : List ℕ) (v : ℕ). xs ++ v ∷ []) c.loop-v.invariant.sources
      (c.image_of.ensures.image
      ∙ ap (λ (h : GridMap). image_of h c.args.grid c.loop-v.v) c.reverse-back.ensures)
      ∙ sym (map-range_with_len_more (image_of (reverse_of c.args.map) c.args.grid) 0 c.loop-v.v
      c.loop-v.v (omega arith));
  small = subst (All (λ u. u < 1024)) (sym c.in_ok-push.ensures.items)
      (All-push (λ u. u < 1024) c.loop-v.sources.items c.image_of.result c.loop-v.invariant.small
      (c.image_of.ensures.small (omega (arith, c.loop-v-test.true, c.requires.few))));
}
