use Rattle.std.proofs.Common.{◌≡◌, ◌∙◌, ◌≤◌, ◌<◌, ◌*◌, ℕ, zero, suc, length, sym, ap, subst, arith}
use Rattle.pg_pns.proofs.Common.{div-mul-le_self, mul-le-mul_right, cond-true, cond-false, lt-ltb}
use Rattle.pg_pns.proofs.Common.{le-ltb, Game, Position, free_points, start}
use Rattle.std.proofs.lemmas.Nat.{le-div}
use Rattle.std.specs.FinSet.{FinSet, len}
use Rattle.std.specs.Ordering.{nat_cmp}
use Rattle.pg_pns.specs.Budget.{budget_for, most_for}
use Rattle.pg_pns.specs.declared.limits.TheConstants.{MAX_EXPANDED_MOVES}
use Rattle.pg_pns.proofs.calls.budget_of.Goals as goal

-- the count of the set is that of the free points
counted : (g : Game) (p : Position) (free : FinSet nat_cmp) (n : ℕ)
    → p ≡ start g
    → len free ≡ length (free_points g p)
    → n ≡ len free
    → n ≡ length (free_points g (start g))
counted g p free n e is count = count ∙ is ∙ ap (λ (q : Position). length (free_points g q)) e

product : (n f : ℕ) → n ≤ most_for f → n * f ≤ MAX_EXPANDED_MOVES
product n zero le = omega arith
product n (suc f) le =
    let most = mul-le-mul_right (suc f) le in
    let whole = div-mul-le_self MAX_EXPANDED_MOVES (suc f) in
    omega (arith, most, whole)

some-most : (f : ℕ) → f ≤ 1024 → 1 ≤ most_for f
some-most zero few = omega arith
some-most (suc f) few = le-div 1 MAX_EXPANDED_MOVES (suc f) (omega arith) (omega arith)

asked : (f n most : ℕ) → most ≡ most_for f → n < most → n ≡ budget_for f n
asked f n most e lt = sym (cond-true _ _ _ (lt-ltb n (most_for f) (subst (λ (m : ℕ). n < m) e lt)))

capped : (f n most : ℕ) → most ≡ most_for f → most ≤ n → most ≡ budget_for f n
capped f n most e le =
    e ∙ sym (cond-false _ _ _ (le-ltb n (most_for f) (subst (λ (m : ℕ). m ≤ n) e le)))

most-is : (g : Game) (p : Position) (free : FinSet nat_cmp) (n most : ℕ)
    → p ≡ start g
    → len free ≡ length (free_points g p)
    → n ≡ len free
    → most ≡ most_for n
    → most ≡ most_for (length (free_points g (start g)))
most-is g p free n most e is count known = known ∙ ap most_for (counted g p free n e is count)

pub returns-then-positions-most-clause-exact : goal.returns-then-positions-most-clause-exact
returns-then-positions-most-clause-exact c = asked _ c.args.positions c.most_for-most.result
    (most-is c.args.g.now c.start.result c.free_points.result c.len.result c.most_for-most.result
    c.start.ensures c.free_points.ensures.count c.len.ensures.exact c.most_for-most.ensures)
    (omega arith)

pub returns-else-positions-most-clause-exact : goal.returns-else-positions-most-clause-exact
returns-else-positions-most-clause-exact c = capped _ c.args.positions c.most_for-most.result
    (most-is c.args.g.now c.start.result c.free_points.result c.len.result c.most_for-most.result
    c.start.ensures c.free_points.ensures.count c.len.ensures.exact c.most_for-most.ensures)
    (omega arith)

pub returns-then-positions-most-clause-few : goal.returns-then-positions-most-clause-few
returns-then-positions-most-clause-few c =
    let most =
    most-is c.args.g.now c.start.result c.free_points.result c.len.result c.most_for-most.result
    c.start.ensures c.free_points.ensures.count c.len.ensures.exact c.most_for-most.ensures in
    product c.args.positions _ (omega (arith, most))

pub returns-else-positions-most-clause-few : goal.returns-else-positions-most-clause-few
returns-else-positions-most-clause-few c =
    let most =
    most-is c.args.g.now c.start.result c.free_points.result c.len.result c.most_for-most.result
    c.start.ensures c.free_points.ensures.count c.len.ensures.exact c.most_for-most.ensures in
    product c.most_for-most.result _ (omega (arith, most))

pub returns-else-positions-most-clause-some : goal.returns-else-positions-most-clause-some
returns-else-positions-most-clause-some c = λ _.
    let some = some-most c.len.result c.len.ensures.few in
    omega (arith, some, c.most_for-most.ensures)
