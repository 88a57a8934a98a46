-- Certificates with images within the ranges, orders and limits of the format.
use Rattle.std.specs.Prelude.{◌≡◌, ℕ, ◌<◌, ◌≤◌, true, false, List, length, sum_by}
use Rattle.pg_image.specs.Prelude.{FinSet, contains, All, nat_cmp, Side, ArePoints, IsTurn, IsNode}
use Rattle.pg_cert.specs.declared.limits.TheConstants.{MAX_CLAIMS, MAX_CLAIM_NODES, MAX_NODES}
use Rattle.pg_image.specs.declared.node.ImageNode.{ImageNode}
use Rattle.pg_image.specs.declared.node.ImageNode.TheVariants.{Plain, Image}
use Rattle.pg_image.specs.declared.cert.ImageClaim.{ImageClaim}
use Rattle.pg_image.specs.declared.cert.ImageCert.{ImageCert}

-- marks and a turn that a line of a file can say: the points are in range and no point is both
-- sides'
pub record IsMarked (x y : FinSet nat_cmp) (turn : Side) (left : ℕ) : Type 0 where
  pub x_points : ArePoints x
  pub y_points : ArePoints y
  pub apart : (v : ℕ) → contains x v ≡ true → contains y v ≡ false
  pub turn_said : IsTurn turn left

-- a node of a file: the child of an image is the number of a node
abbrev pub IsImageNode : ImageNode → Type 0
IsImageNode (Plain node) = IsNode node
IsImageNode (Image x y turn left map child) = IsMarked x y turn left × (child < MAX_CLAIM_NODES)

-- a claim of a file: 1 to 100,000 nodes
pub record IsImageClaim (claim : ImageClaim) : Type 0 where
  pub some : 0 < length claim.nodes
  pub few : length claim.nodes ≤ MAX_CLAIM_NODES
  pub nodes : All IsImageNode claim.nodes

-- how many nodes claims have together
abbrev pub image_node_count : List ImageClaim → ℕ
image_node_count claims = sum_by (λ claim. length claim.nodes) claims

-- a certificate within the limits: 1 to 8 claims and at most 200,000 nodes together
pub record IsImageWithinLimits (c : ImageCert) : Type 0 where
  pub some : 0 < length c.claims
  pub few : length c.claims ≤ MAX_CLAIMS
  pub claims : All IsImageClaim c.claims
  pub nodes : image_node_count c.claims ≤ MAX_NODES
