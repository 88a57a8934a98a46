use Rattle.std.proofs.Common.{◌≡◌, sym, ltb, rules, List, ℕ, subst}
use Rattle.pg_base.proofs.Common.{IsAllAdjacentAnswer, MatchBool-at_true, MatchBool-at_false}
use Rattle.pg_base.proofs.Common.{answers_always}
use Rattle.pg_base.proofs.LineLemmas.{StandsTwice-from_neighbours}
use Rattle.pg_base.proofs.LineLemmas.{IsStrictlyIncreasing-from_adjacent, not_twice}
use Rattle.pg_base.proofs.line.Line.new.Goals as goal

pub invariant_of-result : goal.invariant_of-result
invariant_of-result c =
    let cases =
    c.is_sorted_by.ensures.cases ltb (answers_always _ _ _ (λ f a r f' k. search rules)) in
    IsStrictlyIncreasing-from_adjacent c.sort_unstable.new.self.items
    (MatchBool-at_true _ _ c.if-is_sorted_by.true
    (subst (λ (l : List ℕ). IsAllAdjacentAnswer (λ x y b. b ≡ ltb x y) l c.is_sorted_by.result)
    c.deref.ensures.value cases))

pub returns-then-is_sorted_by-clause-ascending : goal.returns-then-is_sorted_by-clause-ascending
returns-then-is_sorted_by-clause-ascending c =
    let cases =
    c.is_sorted_by.ensures.cases ltb (answers_always _ _ _ (λ f a r f' k. search rules)) in
    IsStrictlyIncreasing-from_adjacent c.sort_unstable.new.self.items
    (MatchBool-at_true _ _ c.if-is_sorted_by.true
    (subst (λ (l : List ℕ). IsAllAdjacentAnswer (λ x y b. b ≡ ltb x y) l c.is_sorted_by.result)
    c.deref.ensures.value cases))

pub returns-else-is_sorted_by-clause-repeated : goal.returns-else-is_sorted_by-clause-repeated
returns-else-is_sorted_by-clause-repeated c = λ _.
    let cases =
    c.is_sorted_by.ensures.cases ltb (answers_always _ _ _ (λ f a r f' k. search rules)) in
    let found = MatchBool-at_false _ _ c.if-is_sorted_by.false
    (subst (λ (l : List ℕ). IsAllAdjacentAnswer (λ x y b. b ≡ ltb x y) l c.is_sorted_by.result)
    c.deref.ensures.value cases) in
    StandsTwice-from_neighbours c.sort_unstable.new.self.items c.args.points.now
    (search rules) c.sort_unstable.ensures.sorted found.0 found.1 (sym (found.2 0))

pub returns-then-is_sorted_by-clause-distinct : goal.returns-then-is_sorted_by-clause-distinct
returns-then-is_sorted_by-clause-distinct c = not_twice c.sort_unstable.new.self.items
    c.args.points.now (search rules) (invariant_of-result c)
