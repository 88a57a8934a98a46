use Rattle.std.proofs.Common.{List, length, refl, sym, subst, arith}
use Rattle.pg_unfold.proofs.Common.{take_all, All-more, slice_get_read, GridMap}
use Rattle.pg_unfold.specs.Flaws.{AreUsable, IsSoundClaim, AreSound}
use Rattle.pg_unfold.proofs.soundness.try_nodes.Goals as goal

pub claim_flaw-requires-clause-maps : goal.claim_flaw-requires-clause-maps
claim_flaw-requires-clause-maps c = subst (λ (maps : List GridMap). AreUsable c.args.g.now maps)
    (sym c.deref.ensures.value) c.in-Ok.ensures

pub returns-in-Some : goal.returns-in-Some
returns-in-Some c = record {
  claims_before = c.loop-i.invariant;
  faulty = c.index-claims-i.result;
  claim_at = slice_get_read c.args.claims.now (length c.args.claims.now) c.loop-i.i
      c.index-claims-i.result refl c.loop-i-test.true c.index-claims-i.is;
  flaw = c.in-Some.at.flaw;
  first = c.in-Some.ensures.first;
  number = c.number.ensures;
}

pub loop-i-preserved : goal.loop-i-preserved
loop-i-preserved c =
    let sound : IsSoundClaim c.args.g.now c.index-claims-i.result =
    c.in_default-claim_flaw.ensures.sound in
    All-more (IsSoundClaim c.args.g.now) c.args.claims.now c.loop-i.i c.index-claims-i.result
    c.loop-i-test.true c.loop-i.invariant
    (subst (IsSoundClaim c.args.g.now) c.index-claims-i.is sound)

pub returns : goal.returns
returns c = subst (AreSound c.args.g.now)
    (take_all c.loop-i.i c.args.claims.now (omega arith)) c.loop-i.invariant
