-- Certificates within the ranges, orders and limits of the format.
use Rattle.std.specs.Prelude.{◌≡◌, ℕ, Bool, ◌%◌, ◌<◌, ◌≤◌, true, false, List, length, map, sum_by}
use Rattle.pg_cert.specs.Prelude.{FinSet, contains, All, nat_cmp, Pair, MAX_MEMBERS, Side, X, Y}
use Rattle.pg_cert.specs.Prelude.{ascend_from}
use Rattle.pg_game.specs.declared.bounds.TheConstants.{MAX_BIAS}
use Rattle.pg_cert.specs.declared.limits.TheConstants.{MAX_CLAIMS, MAX_CLAIM_NODES, MAX_NODES}
use Rattle.pg_cert.specs.declared.reply.Reply.{Reply}
use Rattle.pg_cert.specs.declared.node.Body.{Body}
use Rattle.pg_cert.specs.declared.node.Body.TheVariants as bodies
use Rattle.pg_cert.specs.declared.node.Node.{Node}
use Rattle.pg_cert.specs.declared.cert.Claim.{Claim}
use Rattle.pg_cert.specs.declared.cert.Cert.{Cert}
use Rattle.pg_cert.specs.declared.cert.Version.{Version}
use Rattle.pg_cert.specs.declared.cert.Version.TheVariants.{One}

-- each member is a point
abbrev pub ArePoints : FinSet nat_cmp → Type 0
ArePoints s = (v : ℕ) → contains s v ≡ true → v < MAX_MEMBERS

-- a point and a child
abbrev pub IsReply : Reply → Type 0
IsReply r = (r.point < MAX_MEMBERS) × (r.child < MAX_CLAIM_NODES)

-- two points
abbrev pub IsPair : Pair → Type 0
IsPair p = (p.a < MAX_MEMBERS) × (p.b < MAX_MEMBERS)

-- the numbers of a body: points ascend in `all`, and a threat line has an odd number of them
abbrev pub IsBody : Body → Type 0
IsBody bodies.Over = Unit {0}
IsBody (bodies.Move v j) = (v < MAX_MEMBERS) × (j < MAX_CLAIM_NODES)
IsBody (bodies.All rs) = All IsReply rs × (ascend_from 0 (map (λ r. r.point) rs) ≡ true)
IsBody (bodies.Pairs ps) = All IsPair ps
IsBody bodies.Potential = Unit {0}
IsBody (bodies.Trees e first second) = ArePoints first × ArePoints second
IsBody (bodies.Cuts e first second) = ArePoints first × ArePoints second
IsBody (bodies.Threat ps) = All (λ p. p < MAX_MEMBERS) ps × (length ps % 2 ≡ 1)
IsBody (bodies.Weaker j) = j < MAX_CLAIM_NODES

-- a turn that a file can say: X claims one point, and Y still claims one to seven
abbrev pub IsTurn : Side → ℕ → Type 0
IsTurn X left = left ≡ 1
IsTurn Y left = (0 < left) × (left ≤ MAX_BIAS)

-- a node of a file: its points are in range and no point is both sides'
pub record IsNode (node : Node) : Type 0 where
  pub x : ArePoints node.x
  pub y : ArePoints node.y
  pub apart : (v : ℕ) → contains node.x v ≡ true → contains node.y v ≡ false
  pub turn : IsTurn node.turn node.left
  pub body : IsBody node.body

-- a claim of a file: 1 to 100,000 nodes
pub record IsClaim (claim : Claim) : Type 0 where
  pub some : 0 < length claim.nodes
  pub few : length claim.nodes ≤ MAX_CLAIM_NODES
  pub nodes : All IsNode claim.nodes

-- whether the version has the body: `weaker` stands in version 2 alone
abbrev pub has_body : Version → Body → Bool
has_body One (bodies.Weaker j) = false
has_body version body = true

-- the version has the bodies of the claim's nodes
abbrev pub IsOfVersion : Version → Claim → Type 0
IsOfVersion version claim = All (λ node. has_body version node.body ≡ true) claim.nodes

-- how many nodes claims have together
abbrev pub node_count : List Claim → ℕ
node_count claims = sum_by (λ claim. length claim.nodes) claims

-- a certificate within the limits: 1 to 8 claims, at most 200,000 nodes together, and the bodies of
-- its version
pub record IsWithinLimits (c : Cert) : Type 0 where
  pub some : 0 < length c.claims
  pub few : length c.claims ≤ MAX_CLAIMS
  pub claims : All IsClaim c.claims
  pub nodes : node_count c.claims ≤ MAX_NODES
  pub bodies : All (IsOfVersion c.version) c.claims
