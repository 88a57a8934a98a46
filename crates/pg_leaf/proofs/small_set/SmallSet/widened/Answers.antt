use Rattle.std.proofs.Common.{◌≡◌, ◌*◌, ℕ, sym, subst, arith}
use Rattle.std.specs.FinSet.{FinSet}
use Rattle.std.specs.Ordering.{nat_cmp}
use Rattle.pg_leaf.proofs.SmallSetLaws.{AreThose, those-none, those-all}
use Rattle.pg_leaf.proofs.small_set.SmallSet.widened.Goals as goal

pub loop-row-init : goal.loop-row-init
loop-row-init c = subst (λ (s : FinSet nat_cmp). AreThose c.args.self.now 0 s)
    (sym c.empty-points.ensures) (those-none c.args.self.now)

pub returns : goal.returns
returns c =
    let last : 64 * c.loop-row.row ≡ 256 = omega arith in
    those-all c.args.self.now c.self.inside.words c.loop-row.points (sym c.self.view_is)
    (subst (λ (n : ℕ). AreThose c.args.self.now n c.loop-row.points) last c.loop-row.invariant)
