-- WHAT A TREE OF PLAY IS.
use Rattle.std.specs.Prelude.{◌≡◌, Bool, map, true, false}
use Rattle.std.specs.List.{All as Each, AllZip, list_any}
use Rattle.pg_play_tree.specs.Prelude.{All, Body, Cert, Claim, Cuts, Game, IsGameOf, Move, Node}
use Rattle.pg_play_tree.specs.Prelude.{One, Over, Position, Side, Trees, position_of}
use Rattle.pg_play_tree.specs.Lines.{AreMet, IsOwnMove}

-- the game is over, the other side replies, or the side makes its player's own move
abbrev pub IsPlayedBody : Game → Cert → Side → Position → Body → Type 0
IsPlayedBody g cert side p Over = Unit {0}
IsPlayedBody g cert side p (All replies) = Unit {0}
IsPlayedBody g cert side p (Move point child) = IsOwnMove g cert side p point
IsPlayedBody g cert side p _ = ⊥

abbrev pub IsPlayedNode : Game → Cert → Side → Node → Type 0
IsPlayedNode g cert side n = IsPlayedBody g cert side (position_of n) n.body

-- a claim with the same turn, side and goal whose nodes are those of the side's player in the game:
-- no two have the same position, and a line of play comes to each
pub record IsPlayed (g : Game) (cert : Cert) (claim tree : Claim) : Type 0 where
  pub turn : tree.turn ≡ claim.turn
  pub side : tree.side ≡ claim.side
  pub goal : tree.goal ≡ claim.goal
  pub nodes : Each (IsPlayedNode g cert claim.side) tree.nodes
  pub met : AreMet g cert claim.side (map position_of tree.nodes)

-- the same in the game in which the claim's turn is the turn
abbrev pub IsClaimTree : Game → Cert → Claim → Claim → Type 0
IsClaimTree g cert claim tree = (turned : Game)
    × IsGameOf turned g.kind g.field g.x g.y claim.turn g.bias
    × IsPlayed turned cert claim tree

-- the tree of play of a certificate: its claims in order, each played move by move
pub record IsPlayTree (g : Game) (cert tree : Cert) : Type 0 where
  pub version : tree.version ≡ One
  pub claims : AllZip (IsClaimTree g cert) cert.claims tree.claims

-- ---- certificates that have one

-- whether a node with the body rests on two trees or two cuts
abbrev pub is_by_sets : Body → Bool
is_by_sets (Trees with_e first second) = true
is_by_sets (Cuts with_e first second) = true
is_by_sets _ = false

-- whether some node of the claim does
abbrev pub some_by_sets : Claim → Bool
some_by_sets claim = list_any (λ (n : Node). is_by_sets n.body) claim.nodes

-- whether some node of the certificate does
abbrev pub has_sets : Cert → Bool
has_sets cert = list_any some_by_sets cert.claims
