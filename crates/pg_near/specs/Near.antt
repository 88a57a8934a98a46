-- Which nodes of a claim are near the game's start, and claims in which these come last.
use Rattle.std.specs.Prelude.{ℕ, ◌+◌, Bool, true, false, not, cond, List, [], ◌∷◌, ◌++◌, filter}
use Rattle.std.specs.Prelude.{length, map, nat_le, slice_get, unwrap_or}
use Rattle.std.specs.FinSet.{FinSet, len}
use Rattle.std.specs.Ordering.{nat_cmp}
use Rattle.pg_cert.specs.declared.cert.Cert.{Cert}
use Rattle.pg_cert.specs.declared.cert.Claim.{Claim}
use Rattle.pg_cert.specs.declared.node.Body.{Body}
use Rattle.pg_cert.specs.declared.node.Body.TheVariants as bodies
use Rattle.pg_cert.specs.declared.node.Node.{Node}
use Rattle.pg_cert.specs.declared.reply.Reply.{Reply}
use Rattle.pg_game.specs.declared.game.Game.{Game}

-- ---- near nodes

-- how many points the two sides have
abbrev pub claimed : FinSet nat_cmp → FinSet nat_cmp → ℕ
claimed x y = len x + len y

-- whether at most so many more points are claimed in a node's position than at the game's start
abbrev pub is_near : Game → ℕ → Node → Bool
is_near g depth node = nat_le (claimed node.x node.y) (claimed g.x g.y + depth)

-- ---- the order of nodes

-- the nodes that aren't near, and then those that are
abbrev pub in_order : (Node → Bool) → List Node → List Node
in_order near nodes = filter (λ node. not (near node)) nodes ++ filter near nodes

-- whether a node is wanted: a near one, or one that isn't
abbrev pub passes : Bool → Bool → Bool
passes true near = near
passes false near = not near

-- ---- new numbers

-- the number of the next node, where the next that is near and the next that isn't get these
abbrev pub next_place : Bool → ℕ → ℕ → ℕ
next_place true next_far next_near = next_near
next_place false next_far next_near = next_far

-- the numbers that nodes have in that order, from the next ones on
abbrev pub places_from : (Node → Bool) → ℕ → ℕ → List Node → List ℕ
places_from near next_far next_near [] = []
places_from near next_far next_near (node ∷ others) =
    next_place (near node) next_far next_near
    ∷ places_from near (next_far + cond (not (near node)) 1 0)
    (next_near + cond (near node) 1 0) others

-- the numbers that nodes have in that order
abbrev pub places_of : (Node → Bool) → List Node → List ℕ
places_of near nodes = places_from near 0 (length (filter (λ node. not (near node)) nodes)) nodes

-- the new number of a node; a number that is no node's stays
abbrev pub place_at : List ℕ → ℕ → ℕ
place_at places k = unwrap_or (slice_get places k) k

-- ---- nodes that name their children by their new numbers

abbrev pub moved_reply : List ℕ → Reply → Reply
moved_reply places r = record { point = r.point; child = place_at places r.child }

abbrev pub moved_body : List ℕ → Body → Body
moved_body places (bodies.Move v child) = bodies.Move v (place_at places child)
moved_body places (bodies.All replies) = bodies.All (map (moved_reply places) replies)
moved_body places (bodies.Weaker child) = bodies.Weaker (place_at places child)
moved_body places body = body

abbrev pub moved : List ℕ → Node → Node
moved places node = record {
  x = node.x;
  y = node.y;
  turn = node.turn;
  left = node.left;
  body = moved_body places node.body;
}

-- ---- claims

-- the nodes of a claim in that order
abbrev pub arranged_nodes : (Node → Bool) → List Node → List Node
arranged_nodes near nodes = map (moved (places_of near nodes)) (in_order near nodes)

abbrev pub arranged_claim : Game → ℕ → Claim → Claim
arranged_claim g depth claim = record {
  turn = claim.turn;
  side = claim.side;
  goal = claim.goal;
  nodes = arranged_nodes (is_near g depth) claim.nodes;
}

-- a certificate in which the near nodes of each claim come last
abbrev pub arranged : Game → ℕ → Cert → Cert
arranged g depth c =
    record { version = c.version; claims = map (arranged_claim g depth) c.claims }
