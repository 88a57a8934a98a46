use Rattle.std.proofs.Common.{◌≡◌, ℕ, Bool, true, ap, ◌∙◌, sym, subst, inl, inr}
use Rattle.pg_exchange.proofs.Common.{both_ways, false_from_ne_true, contains, either, minus}
use Rattle.pg_exchange.proofs.Common.{either_cases, either_left, minus_parts}
use Rattle.pg_exchange.proofs.Tests.{without_point, none_left}
use Rattle.pg_exchange.proofs.SearchSteps.{either-minus}
use Rattle.pg_exchange.proofs.search.take_next.Goals as goal

pub returns-in-Some-clause-found : goal.returns-in-Some-clause-found
returns-in-Some-clause-found c = subst (λ (s : ℕ → Bool). s c.in-Some.f ≡ true) c.go_on.ensures.same
    (either_left _ _ c.in-Some.f c.in-Some.ensures.found.member)

pub returns-in-Some-clause-taken : goal.returns-in-Some-clause-taken
returns-in-Some-clause-taken c =
    let f = c.in-Some.f in
    let one = without_point c.go_on.new.level c.take.new.self f c.take.ensures in
    let two = without_point c.go_on.new.later c.take-in-Some.new.self f c.take-in-Some.ensures in
    ap (λ (s : ℕ → Bool). either s (contains c.take-in-Some.new.self)) one
    ∙ (ap (λ (s : ℕ → Bool). either (minus (contains c.go_on.new.level) f) s) two
    ∙ (either-minus (contains c.go_on.new.level) (contains c.go_on.new.later) f
    ∙ ap (λ (s : ℕ → Bool). minus s f) c.go_on.ensures.same))

pub returns-in_default-clause-none : goal.returns-in_default-clause-none
returns-in_default-clause-none c f =
    let first = none_left c.go_on.new.level c.in_default.ensures.none in
    false_from_ne_true _ (λ h.
    elim (either_cases _ _ f (subst (λ (s : ℕ → Bool). s f ≡ true) (sym c.go_on.ensures.same) h)) [
      | inl k ↦ both_ways _ (first f) k
      | inr k ↦ both_ways _ (c.go_on.ensures.empty first f) k
    ])

pub returns-in-Some-clause-levels : goal.returns-in-Some-clause-levels
returns-in-Some-clause-levels c =
    let f = c.in-Some.f in
    let one = without_point c.go_on.new.level c.take.new.self f c.take.ensures in
    let two = without_point c.go_on.new.later c.take-in-Some.new.self f c.take-in-Some.ensures in
    record {
      now = contains c.go_on.new.level;
      next = contains c.go_on.new.later;
      rolled = c.go_on.ensures.rolled;
      on = c.in-Some.ensures.found.member;
      less = λ z h.
          (minus_parts (contains c.go_on.new.level) f z
          (subst (λ (s : ℕ → Bool). s z ≡ true) one h)).0;
      less_later = λ z h.
          (minus_parts (contains c.go_on.new.later) f z
          (subst (λ (s : ℕ → Bool). s z ≡ true) two h)).0;
    }
