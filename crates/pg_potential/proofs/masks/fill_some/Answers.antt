use Rattle.std.proofs.Common.{◌≡◌, ◌<◌, ◌∙◌, List, ℕ, [], length, get_or, false, sym, subst}
use Rattle.std.proofs.Common.{inl, inr, arith}
use Rattle.pg_potential.proofs.Common.{AreWithin, Contains-get_or, FinSet, nat_cmp, is_filled}
use Rattle.pg_potential.proofs.Common.{false≢true, cases_Bool, get_or_default, list_any-one}
use Rattle.pg_potential.proofs.LineMasks.{masks-many, mask-at, filled-from_set, set-from_filled}
use Rattle.pg_potential.proofs.LineMasks.{list_any-at_none}
use Rattle.pg_potential.proofs.LineMasks.{each-more}
use Rattle.pg_potential.proofs.masks.fill_some.Goals as goal

pub returns-then-is_subset : goal.returns-then-is_subset
returns-then-is_subset c = λ lines are.
    let i = c.loop-mask.mask-index in
    let s = c.args.points.now in
    let many = masks-many lines c.args.masks.now are in
    let set = mask-at lines c.args.masks.now i c.mask-item.result [] are c.loop-mask-test.true
    c.mask-item.is in
    let filled = filled-from_set s (get_or lines i [])
    (subst (λ (t : FinSet nat_cmp). AreWithin t s) set (c.is_subset.ensures.0 c.if-is_subset.true))
    in
    sym (list_any-one (is_filled s) lines (get_or lines i [])
    (Contains-get_or lines i [] (omega (arith, c.loop-mask-test.true, many))) filled)

pub loop-mask-preserved : goal.loop-mask-preserved
loop-mask-preserved c = λ lines are.
    let i = c.loop-mask.mask-index in
    let s = c.args.points.now in
    let many = masks-many lines c.args.masks.now are in
    let lt : i < length lines = omega (arith, c.loop-mask-test.true, many) in
    let line = get_or lines i [] in
    let set = mask-at lines c.args.masks.now i c.mask-item.result [] are c.loop-mask-test.true
    c.mask-item.is in
    let here : is_filled s line ≡ false = elim (cases_Bool (is_filled s line)) [
      | inl on ↦ absurd (false≢true (sym c.if-is_subset.false
          ∙ c.is_subset.ensures.1 (subst (λ (t : FinSet nat_cmp). AreWithin t s) (sym set)
          (set-from_filled s line on))))
      | inr off ↦ off
    ] in
    each-more (λ (l : List ℕ). is_filled s l ≡ false) lines i line lt
    (get_or_default lines i [] line lt) here (c.loop-mask.invariant lines are)

pub returns : goal.returns
returns c = λ lines are.
    let many = masks-many lines c.args.masks.now are in
    sym (list_any-at_none (is_filled c.args.points.now) lines c.loop-mask.mask-index
    (omega (arith, c.loop-mask-test.false, many)) (c.loop-mask.invariant lines are))
