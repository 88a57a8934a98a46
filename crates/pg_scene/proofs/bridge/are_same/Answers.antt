use Rattle.std.proofs.Common.{◌≡◌, ◌∙◌, ap, ap₂, sym}
use lib.Pointwise.{pointwise}
use Rattle.pg_scene.proofs.Matching.{agree-itself, is_pair, one-pair, pair-itself, same-lists}
use Rattle.pg_scene.proofs.bridge.are_same.Goals as goal

pub returns : goal.returns
returns c =
    let told : c.eq.result ≡ pointwise is_pair c.args.ends.now c.args.others.now = c.eq.ensures
    ∙ ap₂ (λ xs ys. pointwise is_pair xs ys) c.as_slice.ensures c.as_slice-2.ensures in (
      (λ h. same-lists is_pair one-pair c.args.ends.now c.args.others.now (sym told ∙ h)),
      (λ e. told
          ∙ ap (pointwise is_pair c.args.ends.now) (sym e)
          ∙ agree-itself is_pair pair-itself c.args.ends.now),
    )
