use Rattle.std.proofs.Common.{◌∙◌, List, sym, subst, refl}
use Rattle.std.proofs.lemmas.List.{take_all}
use Rattle.pg_pairing.proofs.Common.{false≢true, contains, AreOpenPairs, Pair}
use Rattle.pg_pairing.proofs.PairLoops.{AreOpenPairs-none, AreOpenPairs-more, AreTaken-none}
use Rattle.pg_pairing.proofs.PairLoops.{AreTaken, CanTake-at, paired-is, taken-more}
use Rattle.pg_pairing.proofs.condition.paired_points.Goals as goal

pub loop-s-init : goal.loop-s-init
loop-s-init c = record {
  open_pairs = AreOpenPairs-none c.args.g.now c.args.p.now;
  taken = AreTaken-none c.args.p.now c.union-marked.result c.union-marked.ensures.members;
  points = refl;
}

pub returns-then-not-take_pair-clause-open : goal.returns-then-not-take_pair-clause-open
returns-then-not-take_pair-clause-open c = (
  λ on. absurd (false≢true on),
  λ pairs. sym c.if-not-take_pair.true
      ∙ c.take_pair.ensures.fits.1
      (CanTake-at c.args.g.now c.args.p.now c.args.pairs.now c.loop-s.s-index (record {
        a = 0;
        b = 0;
      }) c.points-points.result c.loop-s.taken c.loop-s-test.true pairs
      c.points-points.ensures.count c.loop-s.invariant.taken),
)

pub loop-s-preserved : goal.loop-s-preserved
loop-s-preserved c = record {
  open_pairs = AreOpenPairs-more c.args.g.now c.args.p.now c.args.pairs.now c.loop-s.s-index
      (record { a = 0; b = 0 }) c.points-points.result c.loop-s.taken c.loop-s-test.true
      c.loop-s.invariant.open_pairs c.points-points.ensures.count c.loop-s.invariant.taken
      (c.take_pair.ensures.fits.0 c.if-not-take_pair.false);
  taken = taken-more c.args.p.now c.args.pairs.now c.loop-s.s-index (record {
    a = 0;
    b = 0;
  }) c.loop-s.taken c.take_pair.new.taken c.loop-s-test.true c.loop-s.invariant.taken
      (c.take_pair.ensures.taken c.if-not-take_pair.false);
  points = refl;
}

pub returns-clause-points : goal.returns-clause-points
returns-clause-points c = λ q.
    let g = c.args.g.now in
    let p = c.args.p.now in
    let pairs = c.args.pairs.now in
    let whole = take_all c.loop-s.s-index pairs c.loop-s-test.false in
    c.without.ensures.members q
    ∙ paired-is g p pairs c.loop-s.taken q (contains c.union-marked.result q)
    (subst (λ (xs : List Pair). AreOpenPairs g p xs) whole c.loop-s.invariant.open_pairs)
    (subst (λ (xs : List Pair). AreTaken p xs c.loop-s.taken) whole c.loop-s.invariant.taken)
    (c.union-marked.ensures.members q)
