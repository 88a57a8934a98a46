use Rattle.std.proofs.Common.{◌≡◌, ◌<◌, ℕ, List, length, get_or, sym, ap, subst, ◌∙◌, arith}
use Rattle.std.proofs.lemmas.List.{length-set}
use Rattle.pg_game.proofs.WeightWalks.{add-fits, add-more}
use Rattle.pg_game.proofs.weights.add_weight.Goals as goal

pub overflow_add-points : goal.overflow_add-points
overflow_add-points c =
    let items = c.as_slice-v-items.ensures in
    let i = c.loop-v.v-index in
    let lt = subst (λ (xs : List ℕ). i < length xs) items c.loop-v-test.true in
    let is : c.from.result ≡ get_or c.args.line.now i 0 =
    c.from.ensures ∙ ap (λ (xs : List ℕ). get_or xs i 0) items in
    omega (
      arith,
      add-fits c.args.points.now c.loop-v.points c.args.line.now i c.from.result c.args.weight
          c.requires.ascending lt is (subst (λ (n : ℕ). n < 256) (sym is) (c.requires.range i 0 lt))
          c.loop-v.invariant.added c.requires.fits,
    )

pub loop-v-preserved : goal.loop-v-preserved
loop-v-preserved c =
    let items = c.as_slice-v-items.ensures in
    let i = c.loop-v.v-index in
    let lt = subst (λ (xs : List ℕ). i < length xs) items c.loop-v-test.true in
    let is : c.from.result ≡ get_or c.args.line.now i 0 =
    c.from.ensures ∙ ap (λ (xs : List ℕ). get_or xs i 0) items in
    record {
      count = length-set c.loop-v.points c.from.result _ ∙ c.loop-v.invariant.count;
      added = add-more c.args.points.now c.loop-v.points c.args.line.now i c.from.result
          c.args.weight c.loop-v.invariant.count c.requires.ascending lt is
          (subst (λ (n : ℕ). n < 256) (sym is) (c.requires.range i 0 lt)) c.loop-v.invariant.added;
    }
