use Rattle.std.proofs.Common.{◌≡◌, List, length, Some, slice_get, refl, ap, subst, arith}
use Rattle.pg_unfold.proofs.Common.{slice_get_read, ImageNode}
use Rattle.pg_unfold.specs.Flaws.{IsLeastFlaw, IsSound}
use Rattle.pg_unfold.proofs.SoundNodes.{sound-more, sound-all}
use Rattle.pg_unfold.proofs.soundness.claim_flaw.Goals as goal

pub returns-in-Some-clause-first : goal.returns-in-Some-clause-first
returns-in-Some-clause-first c =
    let at = slice_get_read c.as_slice-nodes.result.now (length c.as_slice-nodes.result.now)
    c.loop-k.k c.index-nodes-k.result refl c.loop-k-test.true c.index-nodes-k.is in
    record {
      before = c.loop-k.invariant;
      node = c.index-nodes-k.result;
      at = subst (λ (nodes : List ImageNode).
          slice_get nodes c.loop-k.k ≡ Some c.index-nodes-k.result) c.as_slice-nodes.ensures at;
      least = subst (λ (nodes : List ImageNode). IsLeastFlaw c.args.g.now nodes c.loop-k.k
          c.index-nodes-k.result c.in-Some.flaw) c.as_slice-nodes.ensures c.in-Some.ensures.least;
    }

pub loop-k-preserved : goal.loop-k-preserved
loop-k-preserved c =
    let at = slice_get_read c.as_slice-nodes.result.now (length c.as_slice-nodes.result.now)
    c.loop-k.k c.index-nodes-k.result refl c.loop-k-test.true c.index-nodes-k.is in
    sound-more c.args.g.now c.args.claim.now c.loop-k.k c.index-nodes-k.result c.loop-k.invariant
    (subst (λ (nodes : List ImageNode). slice_get nodes c.loop-k.k ≡ Some c.index-nodes-k.result)
    c.as_slice-nodes.ensures at)
    (subst
    (λ (nodes : List ImageNode). IsSound c.args.g.now nodes c.loop-k.k c.index-nodes-k.result)
    c.as_slice-nodes.ensures c.in_default.ensures.sound)

pub returns-clause-sound : goal.returns-clause-sound
returns-clause-sound c =
    let count = ap length c.as_slice-nodes.ensures in
    sound-all c.args.g.now c.args.claim.now c.loop-k.k
    (omega (arith, count, c.loop-k-test.false)) c.loop-k.invariant
