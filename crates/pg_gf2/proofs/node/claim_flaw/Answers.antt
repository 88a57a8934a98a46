use Rattle.std.proofs.Common.{◌≡◌, Option, Some, length, List, slice_get, arith, ap, sym, ◌∙◌, refl}
use Rattle.std.proofs.Common.{subst}
use Rattle.pg_gf2.proofs.Common.{slice_get_read, IfOk-weaker, Node}
use Rattle.pg_gf2.specs.declared.flaw.VecFlaw.{VecFlaw}
use Rattle.pg_gf2.specs.Check.{IsNodeVerdict}
use Rattle.pg_gf2.proofs.ClaimLemmas.{claim_verdict}
use Rattle.pg_gf2.proofs.node.claim_flaw.Goals as goal

pub returns : goal.returns
returns c =
    let short = c.is_short.ensures.0 c.if-not-is_short.false in
    let claim = c.args.claim.now in
    let node = c.index-nodes-0.result in
    let one : length claim.nodes ≡ 1 = ap length (sym c.as_slice-nodes.ensures) ∙ short.1 in
    let at : slice_get claim.nodes 0 ≡ Some node =
    subst (λ (nodes : List Node). slice_get nodes 0 ≡ Some node) c.as_slice-nodes.ensures
    (slice_get_read c.as_slice-nodes.result.now (length c.as_slice-nodes.result.now) 0 node refl
    (omega (arith, short.1)) c.index-nodes-0.is) in
    IfOk-weaker _ _ _ (λ (v : Option VecFlaw) (i : IsNodeVerdict c.args.g.now claim node v).
    claim_verdict c.args.g.now c.args.version claim node short.0 one at v i) c.node_flaw.ensures
