use Rattle.std.proofs.Common.{◌≡◌, ◌+◌, ◌<◌, ◌≤◌, ◌∙◌, ℕ, List, length, get_or, refl}
use Rattle.std.proofs.Common.{sym, ap, subst}
use Rattle.pg_pairing.proofs.Common.{false≢true, contains, contains-empty, insert, nat_cmp}
use Rattle.pg_pairing.proofs.PartnerSteps.{passed-none, passed-more, touched-at, holds-at}
use Rattle.pg_pairing.proofs.PartnerSteps.{unsafe-end}
use Rattle.pg_pairing.proofs.partners.is_safe.Goals as goal

pub loop-v-init : goal.loop-v-init
loop-v-init c = passed-none c.args.own.now c.args.line.now c.args.partners.now c.empty-seen.result
    (λ q. ap (λ s. contains s q) c.empty-seen.ensures ∙ contains-empty nat_cmp q)

pub returns-then-has : goal.returns-then-has
returns-then-has c = λ pairs are.
    let items = c.as_slice-v-items.ensures in
    let i = c.loop-v.v-index in
    let lt = subst (λ (xs : List ℕ). i < length xs) items c.loop-v-test.true in
    let at = ap (λ (xs : List ℕ). contains c.args.own.now (get_or xs i 0)) items in
    let touched =
    touched-at c.args.own.now c.args.line.now i lt (sym at ∙ sym c.has.ensures ∙ c.if-has.true) in
    (λ on untouched. absurd (false≢true (sym untouched ∙ touched)), λ safe. refl)

pub returns-then-has-2 : goal.returns-then-has-2
returns-then-has-2 c = λ pairs are.
    let items = c.as_slice-v-items.ensures in
    let i = c.loop-v.v-index in
    let lt = subst (λ (xs : List ℕ). i < length xs) items c.loop-v-test.true in
    let is : c.from.result ≡ get_or c.args.line.now i 0 =
    c.from.ensures ∙ ap (λ (xs : List ℕ). get_or xs i 0) items in
    let at = ap (λ (k : ℕ). contains c.loop-v.seen (get_or c.args.partners.now k 0)) is in
    let held = holds-at c.args.own.now c.args.line.now c.args.partners.now i c.loop-v.seen pairs lt
    c.requires.range
    (sym at ∙ sym c.has-in-loop-v.ensures ∙ c.if-has-2.true) c.loop-v.invariant are in
    (λ on untouched. held, λ safe. refl)

pub loop-v-preserved : goal.loop-v-preserved
loop-v-preserved c =
    let items = c.as_slice-v-items.ensures in
    let i = c.loop-v.v-index in
    let lt = subst (λ (xs : List ℕ). i < length xs) items c.loop-v-test.true in
    let is : c.from.result ≡ get_or c.args.line.now i 0 =
    c.from.ensures ∙ ap (λ (xs : List ℕ). get_or xs i 0) items in
    let own_at = ap (λ (xs : List ℕ). contains c.args.own.now (get_or xs i 0)) items in
    let seen_at = ap (λ (k : ℕ). contains c.loop-v.seen (get_or c.args.partners.now k 0)) is in
    passed-more c.args.own.now c.args.line.now c.args.partners.now i c.loop-v.seen c.put.new.self lt
    (sym own_at ∙ sym c.has.ensures ∙ c.if-has.false)
    (sym seen_at ∙ sym c.has-in-loop-v.ensures ∙ c.if-has-2.false)
    (c.put.ensures ∙ ap (λ (xs : List ℕ). insert c.loop-v.seen (get_or xs i 0 + 1)) items)
    c.loop-v.invariant

pub returns : goal.returns
returns c = λ pairs are.
    let end = subst (λ (xs : List ℕ). length xs ≤ c.loop-v.v-index) c.as_slice-v-items.ensures
    c.loop-v-test.false in (
      λ f. absurd (false≢true f),
      λ safe. absurd
          (unsafe-end c.args.own.now c.args.line.now c.args.partners.now c.loop-v.v-index
          c.loop-v.seen pairs end c.loop-v.invariant are safe),
    )
