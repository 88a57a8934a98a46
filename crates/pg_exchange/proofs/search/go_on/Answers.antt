use Rattle.std.proofs.Common.{◌≡◌, ◌<◌, ℕ, false, arith, ◌∙◌, sym, refl, inl, inr}
use Rattle.pg_exchange.proofs.Common.{both_ways, false_from_ne_true, contains}
use Rattle.pg_exchange.proofs.Tests.{emptied}
use Rattle.pg_exchange.proofs.SearchSteps.{either-none, either-comm}
use Rattle.pg_exchange.proofs.search.go_on.Goals as goal

pub returns-then-is_below-clause-same : goal.returns-then-is_below-clause-same
returns-then-is_below-clause-same c =
    let level = contains c.args.level.now in
    let later = contains c.args.later.now in
    let none : (z : ℕ) → level z ≡ false = λ z. false_from_ne_true _
    (λ h. let low : z < 0 = c.is_below.ensures.0 c.if-is_below.true z h in omega arith) in
    sym (either-none later (contains c.empty.result) (emptied c.empty.result c.empty.ensures))
    ∙ (either-none later level none ∙ either-comm later level)

pub returns-then-is_below-clause-empty : goal.returns-then-is_below-clause-empty
returns-then-is_below-clause-empty c none = emptied c.empty.result c.empty.ensures

pub returns-else-is_below-clause-empty : goal.returns-else-is_below-clause-empty
returns-else-is_below-clause-empty c none = absurd (both_ways _ c.if-is_below.false
    (c.is_below.ensures.1 (λ z h. absurd (both_ways _ (none z) h))))

pub returns-then-is_below-clause-rolled : goal.returns-then-is_below-clause-rolled
returns-then-is_below-clause-rolled c = inr (
  λ z. false_from_ne_true _
      (λ h. let low : z < 0 = c.is_below.ensures.0 c.if-is_below.true z h in omega arith),
  refl,
  emptied c.empty.result c.empty.ensures,
)

pub returns-else-is_below-clause-rolled : goal.returns-else-is_below-clause-rolled
returns-else-is_below-clause-rolled c = inl (refl, refl)
