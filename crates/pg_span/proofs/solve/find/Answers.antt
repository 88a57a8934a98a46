use Rattle.std.proofs.Common.{◌≡◌, ◌<◌, ℕ, Bool, true, false, List, length, inl, inr, sym, ap, ◌∙◌}
use Rattle.std.proofs.Common.{subst, arith}
use Rattle.std.specs.Prelude.{slice_index}
use Rattle.pg_span.proofs.Common.{contains, All, both_ways, cases_eq, either, both, outside, X, Y}
use Rattle.pg_span.proofs.Common.{either_cases, both_parts, minus_parts, minus_from, AreLabels}
use Rattle.pg_exchange.proofs.Tests.{of_either, of_outside, without_point}
use Rattle.pg_span.specs.Game.{marks_at}
use Rattle.pg_span.specs.Valid.{ArePartsOfGame}
use Rattle.pg_span.proofs.SolveLemmas.{small, labels_below, parts_apart, parts_shared, trees_none}
use Rattle.pg_span.proofs.SolveLemmas.{trees_one, shared_one, shared_two, some_member, no_member}
use Rattle.pg_span.proofs.SolveLemmas.{outside_twice}
use Rattle.pg_span.proofs.solve.find.Goals as goal

pub labels-requires-clause-set : goal.labels-requires-clause-set
labels-requires-clause-set c z h =
    let g = c.args.g.now in
    let b = c.in_ok-bases.bases in
    let s = c.in_ok-bases.ensures.settled in
    elim (either_cases (contains g.x) (contains b.near) z (subst (λ (q : ℕ → Bool).
    q z ≡ true) (of_either g.x b.near c.union.result c.union.ensures.union) h)) [
      | inl i ↦ let l = g.fits.x_range z i in omega arith
      | inr i ↦ let l = small g b.one b.two b.near s z (s.reached.elements_only z i) in omega arith
    ]

pub labels-requires-2-clause-set : goal.labels-requires-2-clause-set
labels-requires-2-clause-set c z h =
    let g = c.args.g.now in
    let b = c.in_ok-bases.bases in
    let s = c.in_ok-bases.ensures.settled in
    elim (either_cases (contains g.x) (contains b.elements) z (subst (λ (q : ℕ → Bool).
    q z ≡ true) (of_either g.x b.elements c.union-2.result c.union-2.ensures.union) h)) [
      | inl i ↦ let l = g.fits.x_range z i in omega arith
      | inr i ↦
          let l = small g b.one b.two b.near s z
          (subst (λ (q : ℕ → Bool). q z ≡ true) c.in_ok-bases.ensures.elements i) in
          omega arith
    ]

pub returns-then-not-is_one-clause-holds : goal.returns-then-not-is_one-clause-holds
returns-then-not-is_one-clause-holds c =
    let g = c.args.g.now in
    let b = c.in_ok-bases.bases in
    let s = c.in_ok-bases.ensures.settled in
    let named = subst (λ (q : ℕ → Bool). AreLabels g.graph q c.in_ok-parts.parts.items)
    (of_either g.x b.near c.union.result c.union.ensures.union) c.in_ok-parts.ensures in
    let wholly = subst (λ (q : ℕ → Bool). AreLabels g.graph q c.in_ok-whole.whole.items)
    (of_either g.x b.elements c.union-2.result c.union-2.ensures.union
    ∙ ap (λ (q : ℕ → Bool). either (contains g.x) q) c.in_ok-bases.ensures.elements)
    c.in_ok-whole.ensures in
    let others : ((v : ℕ) → v < length c.in_ok-whole.whole.items
    → slice_index c.in_ok-whole.whole.items v ≡ slice_index c.in_ok-whole.whole.items 0)
    → ⊥ = λ all. both_ways _ c.if-not-is_one.true (c.is_one.ensures.1 (subst (λ (q : List ℕ).
    (v : ℕ) → v < length q → slice_index q v ≡ slice_index q 0) (sym c.deref.ensures.value) all)) in
    subst (λ (q : List ℕ). ArePartsOfGame g (marks_at g X) q × ArePartsOfGame g (marks_at g Y) q)
    (sym c.from_vec-parts.ensures) (
      parts_apart g b.one b.two b.near s c.in_ok-parts.parts.items c.in_ok-whole.whole.items named
          wholly X others,
      parts_apart g b.one b.two b.near s c.in_ok-parts.parts.items c.in_ok-whole.whole.items named
          wholly Y others,
    )

pub returns-in_default-clause-holds : goal.returns-in_default-clause-holds
returns-in_default-clause-holds c =
    let g = c.args.g.now in
    let b = c.in_ok-bases.bases in
    let s = c.in_ok-bases.ensures.settled in
    let named = subst (λ (q : ℕ → Bool). AreLabels g.graph q c.in_ok-parts.parts.items)
    (of_either g.x b.near c.union.result c.union.ensures.union) c.in_ok-parts.ensures in
    let wholly = subst (λ (q : ℕ → Bool). AreLabels g.graph q c.in_ok-whole.whole.items)
    (of_either g.x b.elements c.union-2.result c.union-2.ensures.union
    ∙ ap (λ (q : ℕ → Bool). either (contains g.x) q) c.in_ok-bases.ensures.elements)
    c.in_ok-whole.ensures in
    let same = subst (λ (q : List ℕ). (v : ℕ) → v < length q → slice_index q v ≡ slice_index q 0)
    c.deref.ensures.value (c.is_one.ensures.0 c.if-not-is_one.false) in
    let is : contains c.without-common.result ≡ both (contains b.one) (contains b.two) =
    of_outside b.one c.without.result c.without-common.result c.without-common.ensures.difference
    ∙ (ap (outside (contains b.one))
    (of_outside b.one b.two c.without.result c.without.ensures.difference)
    ∙ outside_twice (contains b.one) (contains b.two)) in
    let none : (f : ℕ) → both (contains b.one) (contains b.two) f ≡ false =
    λ f. subst (λ (q : ℕ → Bool). q f ≡ false) is (c.in_default.ensures.none f (omega arith)) in (
      trees_none g b.one b.two b.near s c.in_ok-parts.parts.items c.in_ok-whole.whole.items named
          wholly same X none,
      trees_none g b.one b.two b.near s c.in_ok-parts.parts.items c.in_ok-whole.whole.items named
          wholly same Y none,
    )

pub returns-then-is_some-clause-holds : goal.returns-then-is_some-clause-holds
returns-then-is_some-clause-holds c =
    let g = c.args.g.now in
    let b = c.in_ok-bases.bases in
    let s = c.in_ok-bases.ensures.settled in
    let named = subst (λ (q : ℕ → Bool). AreLabels g.graph q c.in_ok-parts.parts.items)
    (of_either g.x b.near c.union.result c.union.ensures.union) c.in_ok-parts.ensures in
    let wholly = subst (λ (q : ℕ → Bool). AreLabels g.graph q c.in_ok-whole.whole.items)
    (of_either g.x b.elements c.union-2.result c.union-2.ensures.union
    ∙ ap (λ (q : ℕ → Bool). either (contains g.x) q) c.in_ok-bases.ensures.elements)
    c.in_ok-whole.ensures in
    let is : contains c.without-common.result ≡ both (contains b.one) (contains b.two) =
    of_outside b.one c.without.result c.without-common.result c.without-common.ensures.difference
    ∙ (ap (outside (contains b.one))
    (of_outside b.one b.two c.without.result c.without.ensures.difference)
    ∙ outside_twice (contains b.one) (contains b.two)) in
    let v = c.in-Some.first in
    let bv : both (contains b.one) (contains b.two) v ≡ true =
    subst (λ (q : ℕ → Bool). q v ≡ true) is c.in-Some.ensures.found.member in
    let w = some_member c.take.new.self c.first_from-2.result
    (sym c.is_some.ensures ∙ c.if-is_some.true) c.first_from-2.ensures.found in
    let wm = minus_parts (contains c.without-common.result) v w.0
    (subst (λ (q : ℕ → Bool). q w.0 ≡ true)
    (without_point c.without-common.result c.take.new.self v c.take.ensures) w.1) in
    let bw : both (contains b.one) (contains b.two) w.0 ≡ true =
    subst (λ (q : ℕ → Bool). q w.0 ≡ true) is wm.0 in
    let lv = small g b.one b.two b.near s v
    (s.first_base.within v (both_parts (contains b.one) (contains b.two) v bv).0) in
    let lw = small g b.one b.two b.near s w.0
    (s.first_base.within w.0 (both_parts (contains b.one) (contains b.two) w.0 bw).0) in
    let two = shared_two g b.one b.two b.near s v w.0 bv bw wm.1 lv lw in
    subst (λ (q : List ℕ). ArePartsOfGame g (marks_at g X) q × ArePartsOfGame g (marks_at g Y) q)
    (sym c.from_vec-parts-2.ensures) (
      parts_shared g b.one b.two b.near s c.in_ok-parts.parts.items c.in_ok-whole.whole.items named
          wholly X (omega (arith, two)),
      parts_shared g b.one b.two b.near s c.in_ok-parts.parts.items c.in_ok-whole.whole.items named
          wholly Y (omega (arith, two)),
    )

pub returns-clause-holds : goal.returns-clause-holds
returns-clause-holds c =
    let g = c.args.g.now in
    let b = c.in_ok-bases.bases in
    let s = c.in_ok-bases.ensures.settled in
    let named = subst (λ (q : ℕ → Bool). AreLabels g.graph q c.in_ok-parts.parts.items)
    (of_either g.x b.near c.union.result c.union.ensures.union) c.in_ok-parts.ensures in
    let wholly = subst (λ (q : ℕ → Bool). AreLabels g.graph q c.in_ok-whole.whole.items)
    (of_either g.x b.elements c.union-2.result c.union-2.ensures.union
    ∙ ap (λ (q : ℕ → Bool). either (contains g.x) q) c.in_ok-bases.ensures.elements)
    c.in_ok-whole.ensures in
    let same = subst (λ (q : List ℕ). (v : ℕ) → v < length q → slice_index q v ≡ slice_index q 0)
    c.deref.ensures.value (c.is_one.ensures.0 c.if-not-is_one.false) in
    let is : contains c.without-common.result ≡ both (contains b.one) (contains b.two) =
    of_outside b.one c.without.result c.without-common.result c.without-common.ensures.difference
    ∙ (ap (outside (contains b.one))
    (of_outside b.one b.two c.without.result c.without.ensures.difference)
    ∙ outside_twice (contains b.one) (contains b.two)) in
    let v = c.in-Some.first in
    let bv : both (contains b.one) (contains b.two) v ≡ true =
    subst (λ (q : ℕ → Bool). q v ≡ true) is c.in-Some.ensures.found.member in
    let own = both_parts (contains b.one) (contains b.two) v bv in
    let lv = small g b.one b.two b.near s v (s.first_base.within v own.0) in
    let one = shared_one g b.one b.two b.near s v bv lv in
    let others = no_member c.take.new.self c.first_from-2.result
    (sym c.is_some.ensures ∙ c.if-is_some.false) c.first_from-2.ensures.none in
    let only : (f : ℕ) → both (contains b.one) (contains b.two) f ≡ true → v ≡ f = λ f h.
    elim (cases_eq v f) [
      | inl e ↦ e
      | inr d ↦ absurd (both_ways _ (subst (λ (q : ℕ → Bool). q f ≡ false)
          (without_point c.without-common.result c.take.new.self v c.take.ensures) (others f))
          (minus_from (contains c.without-common.result) v f
          (subst (λ (q : ℕ → Bool). q f ≡ true) (sym is) h) d))
    ] in (
      trees_one g b.one b.two b.near s c.in_ok-parts.parts.items c.in_ok-whole.whole.items named
          wholly same c.take-2.new.self c.take-3.new.self v own.0 only
          (without_point b.one c.take-2.new.self v c.take-2.ensures)
          (without_point b.two c.take-3.new.self v c.take-3.ensures),
      subst (λ (q : List ℕ). ArePartsOfGame g (marks_at g Y) q) (sym c.from_vec-parts-2.ensures)
          (parts_shared g b.one b.two b.near s c.in_ok-parts.parts.items c.in_ok-whole.whole.items
          named wholly Y (omega (arith, one))),
    )

pub returns-then-not-is_one-clause-small : goal.returns-then-not-is_one-clause-small
returns-then-not-is_one-clause-small c = subst
    (λ (q : List ℕ). All (λ n. n < c.args.g.now.graph.vertices) q) (sym c.from_vec-parts.ensures)
    (labels_below c.args.g.now.graph
    (contains c.union.result) c.in_ok-parts.parts.items c.in_ok-parts.ensures)

pub returns-then-is_some-clause-small : goal.returns-then-is_some-clause-small
returns-then-is_some-clause-small c = subst
    (λ (q : List ℕ). All (λ n. n < c.args.g.now.graph.vertices) q) (sym c.from_vec-parts-2.ensures)
    (labels_below c.args.g.now.graph
    (contains c.union.result) c.in_ok-parts.parts.items c.in_ok-parts.ensures)

pub returns-clause-small : goal.returns-clause-small
returns-clause-small c = subst (λ (q : List ℕ). All (λ n. n < c.args.g.now.graph.vertices) q)
    (sym c.from_vec-parts-2.ensures)
    (labels_below c.args.g.now.graph
    (contains c.union.result) c.in_ok-parts.parts.items c.in_ok-parts.ensures)
