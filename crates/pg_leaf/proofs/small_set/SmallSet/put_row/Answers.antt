use Rattle.std.proofs.Common.{◌≡◌, ◌+◌, ◌*◌, ℕ, sym, subst, arith}
use Rattle.pg_leaf.proofs.SmallSetLaws.{AreThose, row-passed}
use Rattle.pg_leaf.proofs.small_set.SmallSet.put_row.Goals as goal

pub returns-then-self-row-eq0 : goal.returns-then-self-row-eq0
returns-then-self-row-eq0 c = row-passed c.args.self.now c.self.inside.words c.args.row
    c.args.points.now (sym c.self.view_is) c.if-self-row-eq0.true c.requires.below

pub returns : goal.returns
returns c =
    let last : c.loop-v.v ≡ 64 * (c.args.row + 1) = omega arith in
    subst (λ (n : ℕ). AreThose c.args.self.now n c.loop-v.points) last c.loop-v.invariant
