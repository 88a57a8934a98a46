use Rattle.std.proofs.Common.{◌≡◌, ◌∷◌, [], length, map, sym, ap, subst, arith}
use Rattle.std.proofs.lemmas.Result.{IfOk-weaker}
use Rattle.pg_cert.specs.Parts.{claim_parts}
use Rattle.pg_cert.specs.declared.part.Part.TheVariants as parts
use Rattle.pg_check.proofs.TakenParts.{HasTaken, first-next, others-next, taken-both}
use Rattle.pg_check.proofs.TakenParts.{claim_parts-from}
use Rattle.pg_check.proofs.feeding.feed_claim.Goals as goal

pub overflow_cast-nodes : goal.overflow_cast-nodes
overflow_cast-nodes c =
    let same : length c.as_slice-nodes.result.now ≡ length c.args.claim.now.nodes =
    ap length c.as_slice-nodes.ensures in
    omega (arith, same, c.requires.limits.few)

pub claim-requires : goal.claim-requires
claim-requires c =
    let nodes = c.as_slice-nodes.result.now in
    let claim = c.args.claim.now in
    record {
      next = first-next c.args.checking.now (claim_parts claim)
          (parts.Claim claim.turn claim.side claim.goal (length nodes) ∷ []) (map parts.Node nodes)
          (claim_parts-from claim nodes c.as_slice-nodes.ensures) c.requires.next;
    }

pub feed_nodes-requires : goal.feed_nodes-requires
feed_nodes-requires c =
    let nodes = c.as_slice-nodes.result.now in
    let claim = c.args.claim.now in
    others-next c.args.checking.now c.claim.new.self (claim_parts claim)
    (parts.Claim claim.turn claim.side claim.goal (length nodes) ∷ []) (map parts.Node nodes)
    (claim_parts-from claim nodes c.as_slice-nodes.ensures) c.claim.ensures.stands c.requires.next

pub returns-clause-stands : goal.returns-clause-stands
returns-clause-stands c =
    let nodes = c.as_slice-nodes.result.now in
    let claim = c.args.claim.now in
    IfOk-weaker _ _ _
    (λ _ taken. subst (HasTaken c.args.checking.now c.feed_nodes.new.checking)
    (sym (claim_parts-from claim nodes c.as_slice-nodes.ensures))
    (taken-both c.args.checking.now c.claim.new.self c.feed_nodes.new.checking
    (parts.Claim claim.turn claim.side claim.goal (length nodes) ∷ [])
    (map parts.Node nodes) c.claim.ensures.stands taken)) c.feed_nodes.ensures.stands
