-- What the test of its only node tells of a claim.
use Rattle.std.proofs.Common.{◌≡◌, inr, sym, ap, ◌∙◌, subst, Option, Some, None, length, slice_get}
use Rattle.std.proofs.Common.{unwrap_or}
use Rattle.pg_gf2.proofs.Common.{Node, Claim, Version, One}
use Rattle.pg_gf2.specs.declared.flaw.VecFlaw.{VecFlaw}
use Rattle.pg_gf2.specs.declared.game.VecGame.{VecGame}
use Rattle.pg_gf2.specs.Check.{NodePasses, IsNodeVerdict, IsClaimVerdict}

pub claim_verdict : (g : VecGame) (version : Version) (claim : Claim) (node : Node)
    → version ≡ One
    → length claim.nodes ≡ 1
    → slice_get claim.nodes 0 ≡ Some node
    → (v : Option VecFlaw) → IsNodeVerdict g claim node v
    → IsClaimVerdict g version claim v
claim_verdict g version claim node first one at None all = record {
  version_one = first;
  one_node = one;
  sound = λ other there. subst (λ (n : Node). (flaw : VecFlaw) → NodePasses g claim n flaw)
      (ap (λ (o : Option Node). unwrap_or o node) (sym at ∙ there)) all;
}
claim_verdict g version claim node first one at (Some flaw) i = inr (first, one, node, at, i)
