use Rattle.std.proofs.Common.{◌≡◌, ◌&&◌, not, ℕ, true, false, List, length, arith, inl, inr, sym}
use Rattle.std.proofs.Common.{ap, ◌∙◌, subst}
use Rattle.pg_gf2.proofs.Common.{both_ways, cases_eq, and_parts, and_from, false_from_ne_true}
use Rattle.pg_gf2.proofs.Common.{not-true, not_from_false, contains, first_below, none_below}
use Rattle.pg_gf2.specs.declared.row.Row.{Row}
use Rattle.pg_gf2.specs.Vectors.{vector_at, vector_spans}
use Rattle.pg_gf2.specs.Rows.{reduced}
use Rattle.pg_gf2.proofs.RowLemmas.{told_whole}
use Rattle.pg_gf2.proofs.SpanTests.{left_zero, left_some}
use Rattle.pg_gf2.proofs.room.lowest_unspanned.Goals as goal
use Rattle.pg_gf2.proofs.room.lowest_unspanned.Goals.{then-has+else-left-ne0, else-has}

pub loop-k-preserved : goal.loop-k-preserved
unfolding vector_at
loop-k-preserved c f low on =
    let vectors = c.args.vectors.now in
    let v = vector_at vectors in
    let set = contains c.args.set.now in
    let k = c.loop-k.k in
    elim (cases_eq k f) [
      | inr d ↦ c.loop-k.invariant f (omega arith) on
      | inl e ↦ elim c.if-has.branch [
        | then-has+else-left-ne0 w ↦
            let same : w.rest-left.result ≡ reduced c.fill.new.rows.items (v k) =
            w.rest-left.ensures ∙ ap (λ (q : List Row). reduced q (v k)) w.deref.ensures.value in
            let told = told_whole v (length vectors) set (λ _. false) c.fill.new.rows.items
            (v k) w.rest-left.result c.fill.ensures.eliminated.told same in
            subst (λ (z : ℕ). vector_spans vectors set z ≡ true) e
            (left_zero vectors set k w.rest-left.result told.0 told.1 w.if-left-ne0.false)
        | else-has w ↦ absurd (both_ways _ (sym c.has.ensures ∙ w.if-has.false)
            (subst (λ (z : ℕ). contains c.args.candidates.now z ≡ true) (sym e) on))
      ]
    ]

pub returns-then-left-ne0-clause-lowest : goal.returns-then-left-ne0-clause-lowest
unfolding vector_at
returns-then-left-ne0-clause-lowest c =
    let vectors = c.args.vectors.now in
    let v = vector_at vectors in
    let set = contains c.args.set.now in
    let k = c.loop-k.k in
    let same : c.rest-left.result ≡ reduced c.fill.new.rows.items (v k) =
    c.rest-left.ensures ∙ ap (λ (q : List Row). reduced q (v k)) c.deref.ensures.value in
    let off = left_some vectors set k c.rest-left.result c.fill.new.rows.items
    c.fill.ensures.eliminated same c.if-left-ne0.true in
    sym
    (first_below (λ q. contains c.args.candidates.now q && not (vector_spans vectors set q)) k
    c.args.n (omega (arith, c.loop-k-test.true))
    (and_from _ _ (sym c.has.ensures ∙ c.if-has.true) (not_from_false _ off))
    (λ w under. false_from_ne_true _ (λ on.
    let q = and_parts (contains c.args.candidates.now w) (not (vector_spans vectors set w)) on in
    both_ways _ (not-true _ q.1) (c.loop-k.invariant w under q.0))))

pub returns-clause-lowest : goal.returns-clause-lowest
returns-clause-lowest c =
    let vectors = c.args.vectors.now in
    let set = contains c.args.set.now in
    sym
    (none_below (λ q. contains c.args.candidates.now q && not (vector_spans vectors set q)) c.args.n
    (λ w under. false_from_ne_true _ (λ on.
    let q = and_parts (contains c.args.candidates.now w) (not (vector_spans vectors set w)) on in
    both_ways _ (not-true _ q.1)
    (c.loop-k.invariant w (omega (arith, under, c.loop-k-test.false)) q.0))))
