use Rattle.std.proofs.Common.{◌≡◌, ℕ, Bool, true, arith, sym, subst, ap, ◌∙◌}
use Rattle.pg_exchange.proofs.Common.{contains, both_parts, both_ways, false_from_ne_true}
use Rattle.pg_exchange.proofs.Tests.{none_left}
use Rattle.pg_exchange.proofs.search.first_shared.Goals as goal

pub returns-then-shares_none-clause-none : goal.returns-then-shares_none-clause-none
returns-then-shares_none-clause-none c z = false_from_ne_true _ (λ h.
    let p = both_parts (contains c.args.a.now) (contains c.args.b.now) z h in
    both_ways _ (c.shares_none.ensures.0 c.if-shares_none.true z p.0) p.1)

pub returns-in-Some-clause-found : goal.returns-in-Some-clause-found
returns-in-Some-clause-found c = subst (λ (s : ℕ → Bool). s c.in-Some.y ≡ true) c.shared.ensures
    c.in-Some.ensures.found.member

pub returns-in-Some-clause-least : goal.returns-in-Some-clause-least
returns-in-Some-clause-least c z h = c.in-Some.ensures.found.least z (omega arith)
    (subst (λ (s : ℕ → Bool). s z ≡ true) (sym c.shared.ensures) h)

pub returns-in_default-clause-none : goal.returns-in_default-clause-none
returns-in_default-clause-none c z = ap (λ (s : ℕ → Bool). s z) (sym c.shared.ensures)
    ∙ none_left c.shared.result c.in_default.ensures.none z
