use Rattle.std.proofs.Common.{◌∙◌, ◌+◌, sym, subst}
use Rattle.std.specs.FinSet.{FinSet}
use Rattle.std.specs.Ordering.{nat_cmp}
use Rattle.pg_leaf.proofs.SmallSetLaws.{AreThose, those-passed, those-taken}
use Rattle.pg_leaf.proofs.small_set.SmallSet.put_point.Goals as goal

pub returns-then-has : goal.returns-then-has
returns-then-has c =
    subst (λ (s : FinSet nat_cmp). AreThose c.args.self.now (c.args.v + 1) s) (sym c.put.ensures)
    (those-taken c.args.self.now c.args.v c.args.points.now (sym c.has.ensures ∙ c.if-has.true)
    c.requires.below)

pub returns-else-has : goal.returns-else-has
returns-else-has c = those-passed c.args.self.now c.args.v c.args.points.now
    (sym c.has.ensures ∙ c.if-has.false) c.requires.below
