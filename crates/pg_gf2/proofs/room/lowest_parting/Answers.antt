use Rattle.std.proofs.Common.{◌≡◌, ◌&&◌, not, ℕ, Bool, false, arith, sym, ap, ◌∙◌}
use Rattle.pg_gf2.proofs.Common.{both_ways, and_parts, and_from, false_from_ne_true, not-true}
use Rattle.pg_gf2.proofs.Common.{not_from_false, contains, minus, first_below, none_below}
use Rattle.pg_gf2.specs.Vectors.{vector_spans}
use Rattle.pg_gf2.proofs.room.lowest_parting.Goals as goal

pub returns-then-not-spans-clause-lowest : goal.returns-then-not-spans-clause-lowest
returns-then-not-spans-clause-lowest c =
    let vectors = c.args.vectors.now in
    let set = contains c.args.set.now in
    let d = c.loop-d.d in
    let off : vector_spans vectors (minus set d) c.args.x ≡ false = sym (c.spans.ensures.spans
    ∙ ap (λ (s : ℕ → Bool). vector_spans vectors s c.args.x) c.without.ensures)
    ∙ c.if-not-spans.true in
    sym
    (first_below
    (λ q. contains c.args.candidates.now q && not (vector_spans vectors (minus set q) c.args.x)) d
    c.args.n (omega (arith, c.loop-d-test.true))
    (and_from _ _ (sym c.has.ensures ∙ c.if-has.true) (not_from_false _ off))
    (λ w under. false_from_ne_true _ (λ on.
    let q = and_parts (contains c.args.candidates.now w)
    (not (vector_spans vectors (minus set w) c.args.x)) on in
    both_ways _ (not-true _ q.1) (c.loop-d.invariant.1 w under q.0))))

pub returns-clause-lowest : goal.returns-clause-lowest
returns-clause-lowest c =
    let vectors = c.args.vectors.now in
    let set = contains c.args.set.now in
    sym (none_below (λ q.
    contains c.args.candidates.now q && not (vector_spans vectors (minus set q) c.args.x)) c.args.n
    (λ w under. false_from_ne_true _ (λ on.
    let q = and_parts (contains c.args.candidates.now w)
    (not (vector_spans vectors (minus set w) c.args.x)) on in
    both_ways _ (not-true _ q.1)
    (c.loop-d.invariant.1 w (omega (arith, under, c.loop-d-test.false)) q.0))))
