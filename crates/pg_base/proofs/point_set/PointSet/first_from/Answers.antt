use Rattle.std.proofs.Common.{◌∙◌, sym, ap, arith, inl, inr, subst}
use Rattle.pg_base.proofs.Common.{FinSet, contains, nat_cmp, cases_lt}
use Rattle.pg_base.specs.Points.{AreBelow}
use Rattle.pg_base.proofs.RowLemmas.{AreBelow-words}
use Rattle.pg_base.specs.WordLemmas.{members-beyond}
use Rattle.pg_base.proofs.point_set.PointSet.first_from.Goals as goal
use Rattle.pg_base.specs.declared.limits.TheConstants.{MAX_MEMBERS}

pub returns-clause-none : goal.returns-clause-none
returns-clause-none c q above = elim (cases_lt q MAX_MEMBERS) [
  | inl within ↦ c.loop-row.invariant q above (omega arith)
  | inr beyond ↦
      ap (λ s. contains s q) (sym c.self.view_is) ∙ members-beyond c.self.inside.words q beyond
]

pub returns-then-is_some-clause-limit : goal.returns-then-is_some-clause-limit
returns-then-is_some-clause-limit c = subst (λ (s : FinSet nat_cmp). AreBelow s MAX_MEMBERS)
    c.self.view_is (AreBelow-words c.self.inside.words)

pub returns-clause-limit : goal.returns-clause-limit
returns-clause-limit c = subst (λ (s : FinSet nat_cmp). AreBelow s MAX_MEMBERS) c.self.view_is
    (AreBelow-words c.self.inside.words)
