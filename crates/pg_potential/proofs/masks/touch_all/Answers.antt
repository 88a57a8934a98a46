use Rattle.std.proofs.Common.{◌≡◌, ◌<◌, ◌∙◌, List, ℕ, [], length, get_or, true, sym, subst}
use Rattle.std.proofs.Common.{inl, inr, arith}
use Rattle.pg_potential.proofs.Common.{ShareNone, Contains-get_or, FinSet, nat_cmp, is_touched}
use Rattle.pg_potential.proofs.Common.{false≢true, cases_Bool, get_or_default, list_all, true-at}
use Rattle.pg_potential.proofs.LineMasks.{masks-many, mask-at, untouched-from_set}
use Rattle.pg_potential.proofs.LineMasks.{set-from_untouched}
use Rattle.pg_potential.proofs.LineMasks.{list_all-at_each}
use Rattle.pg_potential.proofs.LineMasks.{each-more}
use Rattle.pg_potential.proofs.masks.touch_all.Goals as goal

pub returns-then-shares_none : goal.returns-then-shares_none
returns-then-shares_none c = λ lines are.
    let i = c.loop-mask.mask-index in
    let s = c.args.points.now in
    let many = masks-many lines c.args.masks.now are in
    let set = mask-at lines c.args.masks.now i c.mask-item.result [] are c.loop-mask-test.true
    c.mask-item.is in
    let untouched = untouched-from_set s (get_or lines i [])
    (subst (λ (t : FinSet nat_cmp). ShareNone t s) set
    (c.shares_none.ensures.0 c.if-shares_none.true)) in
    elim (cases_Bool (list_all (is_touched s) lines)) [
      | inl all ↦ absurd (false≢true (sym untouched
          ∙ true-at (is_touched s) lines (get_or lines i []) all
          (Contains-get_or lines i [] (omega (arith, c.loop-mask-test.true, many)))))
      | inr off ↦ sym off
    ]

pub loop-mask-preserved : goal.loop-mask-preserved
loop-mask-preserved c = λ lines are.
    let i = c.loop-mask.mask-index in
    let s = c.args.points.now in
    let many = masks-many lines c.args.masks.now are in
    let lt : i < length lines = omega (arith, c.loop-mask-test.true, many) in
    let line = get_or lines i [] in
    let set = mask-at lines c.args.masks.now i c.mask-item.result [] are c.loop-mask-test.true
    c.mask-item.is in
    let here : is_touched s line ≡ true = elim (cases_Bool (is_touched s line)) [
      | inl on ↦ on
      | inr off ↦ absurd (false≢true (sym c.if-shares_none.false
          ∙ c.shares_none.ensures.1 (subst (λ (t : FinSet nat_cmp). ShareNone t s) (sym set)
          (set-from_untouched s line off))))
    ] in
    each-more (λ (l : List ℕ). is_touched s l ≡ true) lines i line lt
    (get_or_default lines i [] line lt) here (c.loop-mask.invariant lines are)

pub returns : goal.returns
returns c = λ lines are.
    let many = masks-many lines c.args.masks.now are in
    sym (list_all-at_each (is_touched c.args.points.now) lines c.loop-mask.mask-index
    (omega (arith, c.loop-mask-test.false, many)) (c.loop-mask.invariant lines are))
