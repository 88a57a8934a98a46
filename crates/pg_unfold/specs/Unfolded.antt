-- What a claim with turned and reflected nodes stands for: a claim of plain nodes, one for each
-- copy of a plain node that is met.
use Rattle.std.specs.Prelude.{◌≡◌, ℕ, ◌+◌, ◌<◌, List, [], ◌∷◌, length, map, Option, Some, slice_get}
use Rattle.pg_unfold.specs.Prelude.{AllPairs, AllZip, IsPermutation, Grid, position_of, Claim, Two}
use Rattle.pg_unfold.specs.Prelude.{Body, Over, Move, Pairs, Potential, Trees, Cuts, Threat, Weaker}
use Rattle.pg_unfold.specs.Prelude.{Node, Reply, Game, Position, ImageCert, ImageClaim, ImageNode}
use Rattle.pg_unfold.specs.Prelude.{Plain, board_of, image_on, image_pair, image_position}
use Rattle.pg_unfold.specs.Prelude.{image_set}
use Rattle.pg_cert.specs.declared.node.Body.TheVariants.{All}
use Rattle.pg_unfold.specs.Copies.{Copy, AreCopies, IsPlaced}
use Rattle.pg_unfold.specs.declared.unfolded.Unfolded.{Unfolded}

-- ---- images of bodies, where a map of the points is given, and which place a child's number
-- becomes

-- the reply's image
pub record IsReplyImage (f : ℕ → ℕ) (Becomes : ℕ → ℕ → Type 0) (r image : Reply) : Type 0 where
  pub point : image.point ≡ f r.point
  pub child : Becomes r.child image.child

-- the replies' images, in ascending order of their points
pub record AreReplyImages (f : ℕ → ℕ) (Becomes : ℕ → ℕ → Type 0)
    (replies images : List Reply) : Type 0 where
  pub mapped : List Reply
  pub each : AllZip (IsReplyImage f Becomes) replies mapped
  pub same : IsPermutation mapped images
  pub ascending : AllPairs (λ a b. a.point < b.point) images

-- the body's image: points, pairs and sets mapped, and children by their places
abbrev pub IsBodyImage : (ℕ → ℕ) → (ℕ → ℕ → Type 0) → Body → Body → Type 0
IsBodyImage f Becomes Over image = image ≡ Over
IsBodyImage f Becomes (Move point child) image =
    (place : ℕ) × Becomes child place × (image ≡ Move (f point) place)
IsBodyImage f Becomes (All replies) image =
    (images : List Reply) × AreReplyImages f Becomes replies images × (image ≡ All images)
IsBodyImage f Becomes (Pairs pairs) image = image ≡ Pairs (map (image_pair f) pairs)
IsBodyImage f Becomes Potential image = image ≡ Potential
IsBodyImage f Becomes (Trees with_e first second) image =
    image ≡ Trees with_e (image_set f first) (image_set f second)
IsBodyImage f Becomes (Cuts with_e first second) image =
    image ≡ Cuts with_e (image_set f first) (image_set f second)
IsBodyImage f Becomes (Threat points) image = image ≡ Threat (map f points)
IsBodyImage f Becomes (Weaker child) image =
    (place : ℕ) × Becomes child place × (image ≡ Weaker place)

-- ---- nodes and claims

-- a child, seen under the same map, becomes the place in the list at which it settles
abbrev pub BecomesUnder : List ImageNode → List Copy → Copy → ℕ → ℕ → Type 0
BecomesUnder nodes copies c child place =
    IsPlaced nodes copies (record { node = child; map = c.map }) place

-- the node of the unfolded claim that is the copy
pub record IsCopied (board : Option Grid) (nodes : List ImageNode) (copies : List Copy) (c : Copy)
    (image : Node) : Type 0 where
  pub source : Node
  pub at : slice_get nodes c.node ≡ Some (Plain source)
  pub position : position_of image ≡ image_position (image_on board c.map) (position_of source)
  pub body : IsBodyImage (image_on board c.map) (BecomesUnder nodes copies c) source.body image.body

-- the unfolded claim, with the number of the node from which each of its nodes came
pub record IsUnfolded (g : Game) (c : ImageClaim) (claim : Claim) (origins : List ℕ) : Type 0 where
  pub turn : claim.turn ≡ c.turn
  pub side : claim.side ≡ c.side
  pub goal : claim.goal ≡ c.goal
  pub copies : List Copy
  pub are : AreCopies c.nodes copies
  pub nodes : AllZip (IsCopied (board_of g.field) c.nodes copies) copies claim.nodes
  pub came : origins ≡ map (λ copy. copy.node) copies

-- each of the claims is unfolded, with the numbers of the nodes from which its nodes came
abbrev pub AreUnfolded : Game → List ImageClaim → List Claim → List (List ℕ) → Type 0
AreUnfolded g [] [] [] = Unit {0}
AreUnfolded g (c ∷ cs) (claim ∷ claims) (origins ∷ sources) =
    IsUnfolded g c claim origins × AreUnfolded g cs claims sources
AreUnfolded g _ _ _ = ⊥

-- the unfolded certificate and its sources
pub record IsUnfoldedCert (g : Game) (c : ImageCert) (u : Unfolded) : Type 0 where
  pub version : u.cert.version ≡ Two
  pub claims : AreUnfolded g c.claims u.cert.claims u.sources

-- ---- what laws say

-- the unfolded claim has a node that came from the copy's, whose position is the image of that
-- one's under the copy's map
pub record HasImage (g : Game) (claim : Claim) (origins : List ℕ) (copy : Copy)
    (node : Node) : Type 0 where
  pub place : ℕ
  pub image : Node
  pub at : slice_get claim.nodes place ≡ Some image
  pub from : slice_get origins place ≡ Some copy.node
  pub position : position_of image
      ≡ image_position (image_on (board_of g.field) copy.map) (position_of node)

-- the last node of the unfolded claim has the position
pub record HasRootAt (claim : Claim) (p : Position) : Type 0 where
  pub last : ℕ
  pub is_last : last + 1 ≡ length claim.nodes
  pub image : Node
  pub at : slice_get claim.nodes last ≡ Some image
  pub position : position_of image ≡ p
