use Rattle.std.proofs.Common.{◌≡◌, ℕ, true, false, List, length, arith, inl, inr, refl, sym, ap}
use Rattle.std.proofs.Common.{◌∙◌, subst}
use Rattle.pg_gf2.proofs.Common.{both_ways, cases_eq, contains}
use Rattle.pg_gf2.specs.declared.row.Row.{Row}
use Rattle.pg_gf2.specs.Vectors.{vector_at, vector_spans}
use Rattle.pg_gf2.specs.Rows.{AreRows, IsTold, reduced}
use Rattle.pg_gf2.proofs.SpanTests.{left_zero, left_some}
use Rattle.pg_gf2.proofs.sums.spans_all.Goals as goal
use Rattle.pg_gf2.proofs.sums.spans_all.Goals.{then-has+else-left-ne0, else-has}

pub loop-k-preserved : goal.loop-k-preserved
unfolding vector_at
loop-k-preserved c f low on =
    let vectors = c.args.vectors.now in
    let v = vector_at vectors in
    let set = contains c.args.set.now in
    let k = c.loop-k.k in
    elim (cases_eq k f) [
      | inr d ↦ c.loop-k.invariant f (omega arith) on
      | inl e ↦ elim c.if-has.branch [
        | then-has+else-left-ne0 w ↦
            let told : IsTold v (length vectors) set (λ _. false) (v k) w.reduced-left.result.0
            (contains w.reduced-left.result.1) =
            w.reduced-left.ensures.members v (length vectors) set (λ _. false)
            (subst (λ (q : List Row). AreRows v (length vectors) set (λ _. false) q)
            (sym w.deref.ensures.value) c.in_ok-rows.ensures.told) in
            subst (λ (z : ℕ). vector_spans vectors set z ≡ true) e
            (left_zero vectors set k w.reduced-left.result.0
            (contains w.reduced-left.result.1) told w.if-left-ne0.false)
        | else-has w ↦ absurd (both_ways _ (sym c.has.ensures ∙ w.if-has.false)
            (subst (λ (z : ℕ). contains c.args.wanted.now z ≡ true) (sym e) on))
      ]
    ]

pub returns-then-left-ne0 : goal.returns-then-left-ne0
unfolding vector_at
returns-then-left-ne0 c =
    let vectors = c.args.vectors.now in
    let v = vector_at vectors in
    let set = contains c.args.set.now in
    let k = c.loop-k.k in
    let same =
    c.reduced-left.ensures.value ∙ ap (λ (q : List Row). reduced q (v k)) c.deref.ensures.value in (
      λ t. absurd (both_ways _ refl t),
      λ each. absurd
          (both_ways _
          (left_some vectors set k c.reduced-left.result.0 c.in_ok-rows.rows.items
          c.in_ok-rows.ensures same c.if-left-ne0.true)
          (each k (sym c.has.ensures ∙ c.if-has.true))),
    )
