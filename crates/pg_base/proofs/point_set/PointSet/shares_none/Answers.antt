use Rattle.std.proofs.Common.{sym, subst, arith, refl}
use Rattle.pg_base.proofs.Common.{false≢true, FinSet, nat_cmp}
use Rattle.pg_base.specs.Words.{members_below}
use Rattle.pg_base.specs.Points.{ShareNone}
use Rattle.pg_base.proofs.RowLemmas.{ShareNone-from_rows, row-from_ShareNone}
use Rattle.pg_base.proofs.point_set.PointSet.shares_none.Goals as goal
use Rattle.pg_base.specs.declared.limits.TheConstants.{MAX_MEMBERS}

pub returns-then-mine-row-ne0 : goal.returns-then-mine-row-ne0
returns-then-mine-row-ne0 c = (
  λ no. absurd (false≢true no),
  λ each.
      let inside =
      subst (λ (s : FinSet nat_cmp). ShareNone s (members_below c.other.inside.words MAX_MEMBERS))
      (sym c.self.view_is)
      (subst (λ (t : FinSet nat_cmp). ShareNone c.args.self.now t) (sym c.other.view_is) each) in
      absurd
      (c.if-mine-row-ne0.true (row-from_ShareNone c.self.inside.words c.other.inside.words
      c.self.invariant c.other.invariant inside c.loop-row.row c.loop-row-test.true)),
)

pub returns : goal.returns
returns c = (
  λ _.
      let inside = ShareNone-from_rows c.self.inside.words c.other.inside.words c.self.invariant
      c.other.invariant (λ i row. c.loop-row.invariant i (omega arith)) in
      subst (λ (t : FinSet nat_cmp). ShareNone c.args.self.now t) c.other.view_is
      (subst (λ (s : FinSet nat_cmp). ShareNone s (members_below c.other.inside.words MAX_MEMBERS))
      c.self.view_is inside),
  λ _. refl,
)
