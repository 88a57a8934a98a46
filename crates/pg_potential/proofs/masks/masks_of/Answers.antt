use Rattle.std.proofs.Common.{◌≡◌, ◌+◌, ◌∙◌, List, ℕ, ap, subst, sym, take}
use Rattle.std.proofs.lemmas.List.Elements.{All-push}
use Rattle.pg_potential.proofs.Common.{All, greatest_length}
use Rattle.pg_potential.specs.Masks.{AreMasks, clear_weight}
use Rattle.pg_potential.specs.declared.masks.Mask.{Mask}
use Rattle.pg_potential.proofs.LineMasks.{masks-more, masks-all}
use Rattle.pg_potential.proofs.MaskWeights.{weighing}
use Rattle.pg_potential.proofs.masks.masks_of.Goals as goal

pub mask_of-requires-clause-weighing : goal.mask_of-requires-clause-weighing
mask_of-requires-clause-weighing c = weighing c.args.g.now c.from-base.result
    c.greatest_length-longest.result c.from-base.ensures
    (c.greatest_length-longest.ensures ∙ ap greatest_length c.lines-lines.ensures.lines)

pub loop-line-preserved : goal.loop-line-preserved
loop-line-preserved c =
    let lines = c.lines-lines.result.now in
    let i = c.loop-line.line-index in
    let base = 1 + c.from-base.result in
    let longest = c.greatest_length-longest.result in
    let m = c.in_ok-mask_of.field-0 in
    record {
      lines = subst (λ (ms : List Mask). AreMasks (take (i + 1) lines) ms)
          (sym c.in_ok-push.ensures.items)
          (masks-more lines c.loop-line.masks.items i c.line-item.result m
          c.loop-line.invariant.lines c.loop-line-test.true c.line-item.is
          c.in_ok-mask_of.ensures.points c.in_ok-mask_of.ensures.line);
      clear = subst (λ (ms : List Mask).
          All (λ (n : Mask). n.clear ≡ clear_weight base longest n.line.items) ms)
          (sym c.in_ok-push.ensures.items)
          (All-push (λ (n : Mask). n.clear ≡ clear_weight base longest n.line.items)
          c.loop-line.masks.items m c.loop-line.invariant.clear (c.in_ok-mask_of.ensures.clear
          ∙ ap (clear_weight base longest) (sym c.in_ok-mask_of.ensures.line)));
    }

pub returns : goal.returns
returns c =
    let g = c.args.g.now in
    let longest = c.greatest_length-longest.ensures
    ∙ ap greatest_length c.lines-lines.ensures.lines in
    record {
      lines = subst (λ ls. AreMasks ls c.loop-line.masks.items) c.lines-lines.ensures.lines
          (masks-all c.lines-lines.result.now c.loop-line.masks.items c.loop-line.line-index
          c.loop-line.invariant.lines c.loop-line-test.false);
      clear = subst (λ (k : ℕ).
          All (λ (n : Mask). n.clear ≡ clear_weight (1 + g.bias) k n.line.items)
          c.loop-line.masks.items) longest
          (subst (λ (b : ℕ).
          All (λ (n : Mask). n.clear ≡ clear_weight (1 + b) c.greatest_length-longest.result
          n.line.items) c.loop-line.masks.items) c.from-base.ensures c.loop-line.invariant.clear);
    }
