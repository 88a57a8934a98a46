use Rattle.std.proofs.Common.{◌≡◌, ◌<◌, ◌≤◌, ◌⊎◌, ℕ, Bool, true, false, arith, sym, subst, inl, inr}
use Rattle.std.proofs.Common.{refl, suc}
use Rattle.pg_exchange.proofs.Common.{contains, plus, outside, count, plus_cases, plus_new}
use Rattle.pg_exchange.proofs.Common.{both_ways, both_parts, both_from, outside_parts, outside_from}
use Rattle.pg_exchange.proofs.Common.{true_from_ne_false, edge_count, first_end_of, second_end_of}
use Rattle.pg_exchange.proofs.Common.{ends_in_range}
use Rattle.pg_exchange.specs.Path.{first_label, second_label, above_of, via_of}
use Rattle.pg_exchange.proofs.Tests.{emptied, with_point, of_outside, none_left}
use Rattle.pg_exchange.proofs.TreeLemmas.{count_most}
use Rattle.pg_exchange.proofs.PathLemmas.{IsSpread-begin, find_leaving}
use Rattle.pg_exchange.proofs.StarLemmas.{has_end-cases, has_end-first, has_end-second}
use Rattle.pg_exchange.proofs.StarLemmas.{IsRound-next}
use Rattle.pg_exchange.proofs.StarLemmas.{more_settled}
use Rattle.pg_exchange.proofs.path.find.Goals as goal

only_from : (empty started : ℕ → Bool) (from : ℕ)
    → ((z : ℕ) → empty z ≡ false)
    → started ≡ plus empty from
    → (z : ℕ) → started z ≡ true
    → z ≡ from
only_from empty started from none is z h =
    elim (plus_cases empty from z (subst (λ (s : ℕ → Bool). s z ≡ true) is h)) [
      | inl k ↦ absurd (both_ways _ (none z) k)
      | inr e ↦ sym e
    ]

-- nothing was reached before what was reached last
none_before : (reached : ℕ → Bool) (z : ℕ) → outside reached reached z ≡ true → ⊥
none_before reached z h =
    let p : (reached z ≡ true) × (reached z ≡ false) = outside_parts reached reached z h in
    both_ways _ p.1 p.0

pub loop-label-init : goal.loop-label-init
loop-label-init c =
    let is = with_point c.empty-reached.result c.put.new.self c.args.from c.put.ensures in
    let only = only_from (contains c.empty-reached.result) (contains c.put.new.self) c.args.from
    (emptied c.empty-reached.result c.empty-reached.ensures) is in
    record {
      size = c.requires.steps;
      spread = IsSpread-begin (first_label c.args.g.now c.args.names.now)
          (second_label c.args.g.now c.args.names.now) (contains c.args.base.now) c.args.from
          (contains c.put.new.self) (above_of c.args.steps.now) (via_of c.args.steps.now) only
          (subst (λ (s : ℕ → Bool). s c.args.from ≡ true) (sym is)
          (plus_new (contains c.empty-reached.result) c.args.from c.args.from refl));
      small = λ z h. subst (λ (v : ℕ). v < c.args.g.now.vertices) (sym (only z h)) c.requires.from;
      round = record {
        last = λ z h. h;
        fewer = λ z h. h;
        done = λ k on out. absurd (both_ways _ out on);
        settled = λ k on some. absurd (elim some [
          | inl h ↦ none_before (contains c.put.new.self) _ h
          | inr h ↦ none_before (contains c.put.new.self) _ h
        ]);
      };
    }

pub gather-requires : goal.gather-requires
gather-requires c z h =
    let i = c.loop-label.invariant in
    let low : z < c.args.g.now.vertices = i.small z (i.round.last z h) in
    omega (arith, low, c.requires.starred.at_labels.size)

pub sweep-requires-clause-left : goal.sweep-requires-clause-left
sweep-requires-clause-left c z h =
    c.requires.base z (c.loop-label.invariant.round.fewer z (both_parts (contains c.gather.result)
    (contains c.loop-label.left) z
    (subst (λ (s : ℕ → Bool). s z ≡ true) c.shared-near.ensures h)).1)

pub loop-label-smaller : goal.loop-label-smaller
loop-label-smaller c =
    let g = c.args.g.now in
    let i = c.loop-label.invariant in
    let old = contains c.loop-label.reached in
    let new = contains c.sweep.new.reached in
    let p = c.in-Some._label in
    let on : contains c.loop-label.fresh p ≡ true = c.in-Some.ensures.found.member in
    let is = of_outside c.sweep.new.reached c.loop-label.reached c.without-fresh.result
    c.without-fresh.ensures.difference in
    let more = more_settled (first_label g c.args.names.now) (second_label g c.args.names.now)
    (contains c.args.base.now) (contains c.loop-label.left) old (contains c.loop-label.fresh)
    (contains c.shared-near.result) (contains c.sweep.new.left) new (contains c.without-left.result)
    (contains c.without-fresh.result) p g.vertices on i.round.last c.sweep.ensures.onward.more is
    (i.small p (i.round.last p on)) in
    let most : count (outside new (contains c.without-fresh.result)) g.vertices ≤ g.vertices =
    count_most (outside new (contains c.without-fresh.result)) g.vertices in
    omega (arith, more, most)

pub loop-label-preserved : goal.loop-label-preserved
unfolding first_label second_label
loop-label-preserved c =
    let g = c.args.g.now in
    let names = c.args.names.now in
    let la = first_label g names in
    let lb = second_label g names in
    let base = contains c.args.base.now in
    let i = c.loop-label.invariant in
    let e = c.sweep.ensures in
    let left = contains c.loop-label.left in
    let fresh = contains c.loop-label.fresh in
    let near = contains c.shared-near.result in
    let gathered = contains c.gather.result in
    let labelled = c.requires.starred.labelled in
    let stars = c.requires.starred.at_labels in
    let in_left : (k : ℕ) → near k ≡ true → left k ≡ true =
    λ k h. (both_parts gathered left k (subst (λ (s : ℕ → Bool). s k ≡ true) c.shared-near.ensures
    h)).1 in
    let whole : (k : ℕ) → left k ≡ true
    → (fresh (la k) ≡ true) ⊎ (fresh (lb k) ≡ true)
    → near k ≡ true = λ k l some.
    let edge : k < suc (edge_count g) = c.requires.base k (i.round.fewer k l) in
    let ends = ends_in_range g k labelled.graph (omega arith) in
    subst (λ (s : ℕ → Bool). s k ≡ true) (sym c.shared-near.ensures) (both_from gathered left k
    (elim some [
      | inl f ↦ c.gather.ensures.all (la k) k f
          ((stars.star (la k) k (labelled.range (first_end_of g k) ends.0)).1 (
            edge,
            has_end-first g names (la k) k refl,
          ))
      | inr f ↦ c.gather.ensures.all (lb k) k f
          ((stars.star (lb k) k (labelled.range (second_end_of g k) ends.1)).1 (
            edge,
            has_end-second g names (lb k) k refl,
          ))
    ]) l) in
    let only : (k : ℕ) → near k ≡ true → (fresh (la k) ≡ true) ⊎ (fresh (lb k) ≡ true) = λ k h.
    let w = c.gather.ensures.only k (both_parts gathered left k
    (subst (λ (s : ℕ → Bool). s k ≡ true) c.shared-near.ensures h)).0 in
    elim (has_end-cases g names w.0 k
    ((stars.star w.0 k (i.small w.0 (i.round.last w.0 w.1))).0 w.2).1) [
      | inl q ↦ inl (subst (λ (y : ℕ). fresh y ≡ true) (sym q) w.1)
      | inr q ↦ inr (subst (λ (y : ℕ). fresh y ≡ true) (sym q) w.1)
    ] in
    record {
      size = omega (arith, i.size);
      spread = e.onward.spread base c.args.from (λ z h. i.round.fewer z (in_left z h)) i.spread;
      small = e.onward.small;
      round = IsRound-next la lb base left (contains c.loop-label.reached) fresh near
          (contains c.sweep.new.left) (contains c.sweep.new.reached)
          (contains c.without-left.result) (contains c.without-fresh.result) whole only
          (of_outside c.loop-label.left c.shared-near.result c.without-left.result
          c.without-left.ensures.difference)
          (of_outside c.sweep.new.reached c.loop-label.reached c.without-fresh.result
          c.without-fresh.ensures.difference) e.onward.more e.swept i.round;
    }

pub returns : goal.returns
returns c to joined =
    let g = c.args.g.now in
    let la = first_label g c.args.names.now in
    let lb = second_label g c.args.names.now in
    let i = c.loop-label.invariant in
    let reached = contains c.loop-label.reached in
    let fresh = contains c.loop-label.fresh in
    let none = none_left c.loop-label.fresh c.in_default.ensures.none in
    record {
      reached = reached;
      small = i.small;
      spread = i.spread;
      ends = true_from_ne_false _ (λ out.
          let w = find_leaving la lb (contains c.args.base.now) reached c.args.from to joined
          i.spread.begins out in
          let k : ℕ = w.0 in
          elim w.2 [
            | inl h ↦ both_ways _ h.1 (i.round.settled k w.1
                (inl (outside_from reached fresh (la k) h.0 (none (la k))))).1
            | inr h ↦ both_ways _ h.0 (i.round.settled k w.1
                (inr (outside_from reached fresh (lb k) h.1 (none (lb k))))).0
          ]);
    }
