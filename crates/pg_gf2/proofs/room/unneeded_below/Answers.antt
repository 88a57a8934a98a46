use Rattle.std.proofs.Common.{◌≡◌, ℕ, Bool, true, sym, ◌∙◌, subst, arith}
use Rattle.pg_gf2.proofs.Common.{contains, minus, spans_mono, of_outside}
use Rattle.pg_gf2.specs.GroundLaws.{IsSpan-vectors}
use Rattle.pg_gf2.specs.Vectors.{vector_spans}
use Rattle.pg_gf2.proofs.room.unneeded_below.Goals as goal

pub with_above-tried-requires-clause-base : goal.with_above-tried-requires-clause-base
with_above-tried-requires-clause-base c z h = subst (λ (s : ℕ → Bool). s z ≡ true)
    (of_outside c.args.set.now c.args.candidates.now c.without.result c.without.ensures.difference)
    (c.fill-base.ensures.within z h)

pub loop-low-preserved-then-spans : goal.loop-low-preserved-then-spans
loop-low-preserved-then-spans c =
    let vectors = c.args.vectors.now in
    record {
      order = omega (arith, c.loop-low-test.true);
      limit = c.loop-low.invariant.limit;
      room = c.spans.ensures.room;
      unneeded = λ d low on. spans_mono (vector_spans vectors) (IsSpan-vectors vectors)
          (contains c.with_above-tried.result) (minus (contains c.args.set.now) d) c.args.x
          (c.with_above-tried.ensures d low on) (sym c.spans.ensures.spans ∙ c.if-spans.true);
    }
