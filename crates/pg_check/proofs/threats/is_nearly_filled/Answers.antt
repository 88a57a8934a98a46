use Rattle.std.proofs.Common.{◌≡◌, ◌∙◌, ℕ, true, false, subst}
use Rattle.pg_check.proofs.Common.{FinSet, contains, nat_cmp, is_on}
use Rattle.pg_check.specs.Lacked.{filled_but}
use Rattle.pg_check.proofs.ThreatTests.{nearly-one, nearly-none}
use Rattle.pg_check.proofs.threats.is_nearly_filled.Goals as goal

pub is_free-requires : goal.is_free-requires
is_free-requires c = c.in-Some.ensures.few

pub returns-in-Some : goal.returns-in-Some
returns-in-Some c =
    let line = c.args.line.now in
    let u = c.in-Some.u in
    let one = subst (λ (s : FinSet nat_cmp). (is_on u line ≡ true) × (contains s u ≡ false)
    × (filled_but s u line ≡ true)) c.points_of.ensures c.in-Some.ensures.one in
    c.is_free.ensures ∙ nearly-one c.args.p.now c.args.side line u one.0 one.1 one.2

pub returns-in-None : goal.returns-in-None
returns-in-None c =
    let line = c.args.line.now in
    let none = subst (λ (s : FinSet nat_cmp). (u : ℕ) → is_on u line ≡ true → contains s u ≡ false
    → filled_but s u line ≡ true → ⊥) c.points_of.ensures c.in-None.ensures.none in
    nearly-none c.args.p.now c.args.side line none
