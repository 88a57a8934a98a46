-- Trees of play, put together.
use Rattle.std.proofs.Common.{◌≡◌, ℕ, ◌≤◌, List, length, Option, Some, None, Result, Ok, Err}
use Rattle.std.proofs.Common.{arith, get_or, sym, subst}
use Rattle.std.proofs.lemmas.List.Elements.{AllZip-get_or, length_all_zip}
use Rattle.std.specs.List.{All, AllZip}
use Rattle.std.specs.Prelude.{IfOk, IfSome}
use Rattle.pg_cert.specs.Limits.{IsOfVersion}
use Rattle.pg_play_tree.specs.Prelude.{Cert, Claim, Game, IsClaim, IsGameOf}
use Rattle.pg_play_tree.specs.Prelude.{IsWithinLimits, One, node_count, position_of}
use Rattle.pg_play_tree.specs.Tree.{IsClaimTree, IsPlayed}
use Rattle.pg_play_tree.proofs.Bodies.{played_plain}

-- a claim that is played in the turned game is a tree
pub claim_turned : {E : Type 0} (g h k : Game) (cert known : Cert) (claim : Claim)
    (r : Result (Option Claim) E)
    → IsGameOf h g.kind g.field g.x g.y claim.turn g.bias
    → k ≡ h
    → known ≡ cert
    → IfOk r (λ found. IfSome found (IsPlayed k known claim))
    → IfOk r (λ found. IfSome found (IsClaimTree g cert claim))
claim_turned g h k cert known claim (Ok (Some tree)) turned same same_cert played = (
  h,
  turned,
  subst (λ (l : Game). IsPlayed l cert claim tree) same
      (subst (λ (c : Cert). IsPlayed k c claim tree) same_cert played),
)
claim_turned g h k cert known claim (Ok None) turned same same_cert played = tt
claim_turned g h k cert known claim (Err memory) turned same same_cert played = tt

-- the nodes of a tree are those of version 1
tree_plain : (g : Game) (cert : Cert) (claim tree : Claim)
    → IsClaimTree g cert claim tree
    → IsOfVersion One tree
tree_plain g cert claim tree (turned, is, played) j d low =
    let n = get_or tree.nodes j d in
    played_plain turned cert claim.side (position_of n) n.body (played.nodes j d low)

-- trees within the limits are a certificate within the limits
pub trees_within : (g : Game) (cert : Cert) (trees made : List Claim) (limit : ℕ)
    → IsWithinLimits cert
    → made ≡ trees
    → AllZip (IsClaimTree g cert) cert.claims trees
    → All IsClaim trees
    → node_count trees ≤ limit
    → limit ≤ 200000
    → IsWithinLimits (record { version = One; claims = made })
trees_within g cert trees made limit limits is zip each few low =
    let same : length cert.claims ≡ length trees =
    length_all_zip (IsClaimTree g cert) cert.claims trees zip in
    subst (λ (cs : List Claim). IsWithinLimits (record { version = One; claims = cs })) (sym is)
    (record {
      some = omega (arith, same, limits.some);
      few = omega (arith, same, limits.few);
      claims = each;
      nodes = omega (arith, few, low);
      bodies = λ k d under.
          tree_plain g cert (get_or cert.claims k d) (get_or trees k d)
          (AllZip-get_or (IsClaimTree g cert) cert.claims trees k d d zip
          (omega (arith, same, under)));
    })
