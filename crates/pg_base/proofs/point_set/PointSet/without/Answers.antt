use Rattle.std.proofs.Common.{◌<◌, ◌^◌, ℕ, not, ◌&&◌, ◌∙◌, sym, ap, subst, arith, refl, inl, inr}
use Rattle.std.proofs.Common.{get_or, length, w64, lit<, length-set, get_or-set_same}
use Rattle.std.proofs.Common.{get_or-set_other}
use Rattle.pg_base.proofs.Common.{bit_not, and_le_l, get_or_past, cases_eq, cases_lt, FinSet}
use Rattle.pg_base.proofs.Common.{contains, contains-difference, nat_cmp_total, nat_cmp}
use Rattle.pg_base.specs.Words.{members_below}
use Rattle.pg_base.specs.WordLemmas.{same_points}
use Rattle.pg_base.proofs.RowLemmas.{contains-cleared_rows, cleared}
use Rattle.pg_base.proofs.point_set.PointSet.without.Goals as goal
use Rattle.pg_base.specs.declared.limits.TheConstants.{MAX_MEMBERS}

pub loop-row-init : goal.loop-row-init
loop-row-init c = record {
  long = c.self.told;
  done = λ i none. absurd (omega arith);
  left = λ i _. refl;
}

pub loop-row-preserved : goal.loop-row-preserved
loop-row-preserved c =
    let there : c.loop-row.row < length c.loop-row.words =
    omega (arith, c.loop-row.invariant.long, c.loop-row-test.true) in
    record {
      long = length-set c.loop-row.words c.loop-row.row _ ∙ c.loop-row.invariant.long;
      done = λ i before. elim (cases_eq i c.loop-row.row) [
        | inl e ↦ rw e (get_or-set_same c.loop-row.words c.loop-row.row _ 0 there
            ∙ ap (λ w. cleared w (get_or c.other.inside.words c.loop-row.row 0))
            (c.loop-row.invariant.left c.loop-row.row (omega arith)))
        | inr ne ↦ get_or-set_other c.loop-row.words c.loop-row.row i _ 0 ne
            ∙ c.loop-row.invariant.done i (omega arith)
      ];
      left = λ i after. get_or-set_other c.loop-row.words c.loop-row.row i _ 0 (λ e. omega arith)
          ∙ c.loop-row.invariant.left i (omega arith);
    }

pub invariant_of-result : goal.invariant_of-result
invariant_of-result c = record {
  count = c.loop-row.invariant.long;
  fit = λ i. elim (cases_lt i 16) [
    | inl row ↦
        subst (λ (w : ℕ). w < 2 ^ 64) (sym (c.loop-row.invariant.done i (omega arith))) (omega (
          arith,
          and_le_l (get_or c.self.inside.words i 0) (bit_not w64 (get_or c.other.inside.words i 0)),
          c.self.invariant.fit i,
        ))
    | inr beyond ↦ subst (λ (w : ℕ). w < 2 ^ 64)
        (sym (get_or_past c.loop-row.words i 0 (omega (arith, c.loop-row.invariant.long))))
        (lit< tt)
  ];
}

pub returns-clause-members : goal.returns-clause-members
returns-clause-members c v =
    contains-cleared_rows c.self.inside.words c.other.inside.words c.loop-row.words c.self.invariant
    c.other.invariant (λ i row. c.loop-row.invariant.done i (omega arith)) v
    ∙ ap (λ (s : FinSet nat_cmp).
    (contains s v && not (contains (members_below c.other.inside.words MAX_MEMBERS) v)))
    c.self.view_is
    ∙ ap (λ (t : FinSet nat_cmp). (contains c.args.self.now v && not (contains t v)))
    c.other.view_is

pub returns-clause-difference : goal.returns-clause-difference
returns-clause-difference c = same_points _ _ (λ v. returns-clause-members c v
    ∙ sym (contains-difference nat_cmp_total c.args.self.now c.args.other.now v))
