use Rattle.std.proofs.Common.{◌≡◌, ◌∙◌, ◌*◌, ℕ, arith, inl, inr, subst, sym, true}
use Rattle.std.proofs.lemmas.Bool.{cases_lt}
use Rattle.pg_characters.specs.Bridges.{fits_paper, fits_place}
use Rattle.pg_characters.specs.Spots.{span_of}
use Rattle.pg_characters.proofs.Ranges.{all_pass, one_fails}
use Rattle.pg_characters.proofs.bridges.fits_paper.Goals as goal

pub returns-then-not-fits_place : goal.returns-then-not-fits_place
unfolding fits_paper
returns-then-not-fits_place c =
    let rows = c.args.rows in
    let inside = c.loop-place-test.true in
    sym (one_fails (fits_place c.args.graph.now rows) 0 (span_of rows * span_of rows)
    c.loop-place.place (omega arith) (omega (arith, inside))
    (sym c.fits_place.ensures ∙ c.if-not-fits_place.true))

pub loop-place-preserved : goal.loop-place-preserved
loop-place-preserved c = λ k some low. elim (cases_lt k c.loop-place.place) [
  | inl before ↦ c.loop-place.invariant k some before
  | inr here ↦
      let same : c.loop-place.place ≡ k = omega (arith, here, low) in
      subst (λ (n : ℕ). fits_place c.args.graph.now c.args.rows n ≡ true) same
      (sym c.fits_place.ensures ∙ c.if-not-fits_place.false)
]

pub returns : goal.returns
unfolding fits_paper
returns c =
    let rows = c.args.rows in
    let past = c.loop-place-test.false in
    sym (all_pass (fits_place c.args.graph.now rows) 0 (span_of rows * span_of rows)
    (λ k some low. c.loop-place.invariant k some (omega (arith, low, past))))
