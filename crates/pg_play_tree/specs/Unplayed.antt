-- WHERE A CERTIFICATE ISN'T PLAYED OUT.
use Rattle.std.specs.Prelude.{◌≡◌, ◌≢◌, ◌⊎◌, ℕ, ◌-◌, ◌<◌, false, List, length, min, take}
use Rattle.std.specs.List.{AllZip, slice_index_or}
use Rattle.pg_play_tree.specs.Prelude.{Cert, Claim, Game, IsGameOf, IsValid, MAX_CLAIM_NODES}
use Rattle.pg_play_tree.specs.Prelude.{Switching, node_count}
use Rattle.pg_play_tree.specs.Lines.{MeetsMore}
use Rattle.pg_play_tree.specs.Tree.{IsClaimTree, IsPlayTree, has_sets}

-- in the game in which the claim's turn is the turn, lines of play of its side's player come to
-- more than so many different positions, or to more than a claim may have nodes; or in that game
-- the certificate isn't valid
abbrev pub IsLarge : Game → Cert → Claim → ℕ → Type 0
IsLarge g cert claim most = (turned : Game)
    × IsGameOf turned g.kind g.field g.x g.y claim.turn g.bias
    × (MeetsMore turned cert claim.side (min most MAX_CLAIM_NODES) ⊎ (IsValid turned cert → ⊥))

-- the trees of play of the first claims, and the positions to which lines of play of the next one
-- come, are more than so many together
pub record IsTooLarge (g : Game) (cert : Cert) (most : ℕ) : Type 0 where
  pub before : ℕ
  pub within : before < length cert.claims
  pub trees : List Claim
  pub played : AllZip (IsClaimTree g cert) (take before cert.claims) trees
  pub claim : Claim
  pub at : claim ≡ slice_index_or cert.claims before claim
  pub large : IsLarge g cert claim (most - node_count trees)

-- a tree of play of the certificate isn't valid
abbrev pub HasFaultyTree : Game → Cert → Type 0
HasFaultyTree g cert = (tree : Cert) × IsPlayTree g cert tree × (IsValid g tree → ⊥)

-- the game is of another kind, or no node rests on two trees or two cuts, or the tree would have
-- more than so many nodes, or is faulty
abbrev pub IsUnplayed : Game → Cert → ℕ → Type 0
IsUnplayed g cert most = (g.kind ≢ Switching)
    ⊎ ((has_sets cert ≡ false)
    ⊎ (IsTooLarge g cert most ⊎ HasFaultyTree g cert))
