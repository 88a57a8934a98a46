use Rattle.std.proofs.Common.{false, List, length, inl, inr, sym, ap, ◌∙◌, ◌≡◌}
use Rattle.pg_gf2.proofs.Common.{cases_eq, eq-eqb, ne_eqb, contains}
use Rattle.pg_gf2.specs.declared.row.Row.{Row}
use Rattle.pg_gf2.specs.Vectors.{vector_at}
use Rattle.pg_gf2.specs.Rows.{reduced}
use Rattle.pg_gf2.proofs.RowLemmas.{told_whole}
use Rattle.pg_gf2.proofs.SpanTests.{left_zero, left_some}
use Rattle.pg_gf2.proofs.room.spans.Goals as goal

pub returns-clause-spans : goal.returns-clause-spans
unfolding vector_at
returns-clause-spans c =
    let vectors = c.args.vectors.now in
    let v = vector_at vectors in
    let set = contains c.args.set.now in
    let f = c.args.f in
    let same : c.rest-left.result ≡ reduced c.fill.new.rows.items (v f) =
    c.rest-left.ensures ∙ ap (λ (q : List Row). reduced q (v f)) c.deref.ensures.value in
    let told = told_whole v (length vectors) set (λ _. false) c.fill.new.rows.items
    (v f) c.rest-left.result c.fill.ensures.eliminated.told same in
    elim (cases_eq c.rest-left.result 0) [
      | inl e ↦ eq-eqb _ _ e ∙ sym (left_zero vectors set f c.rest-left.result told.0 told.1 e)
      | inr d ↦ ne_eqb _ _ d
          ∙ sym (left_some vectors set f c.rest-left.result c.fill.new.rows.items
          c.fill.ensures.eliminated same d)
    ]
