-- A certificate with images as one of version 2: each image stands there as a move, of which the
-- limits of the format ask the same.
use Rattle.std.proofs.Common.{◌≡◌, ℕ, ◌<◌, List, [], ◌∷◌, ◌++◌, length, map, refl, sym, ap, ◌∙◌}
use Rattle.std.proofs.Common.{Option, Some, None, arith, true}
use Rattle.std.specs.Prelude.{fold}
use Rattle.pg_image.proofs.Common.{FinSet, AllByRecursion, nat_cmp, append-nil, length-map}
use Rattle.pg_image.proofs.Common.{map-append, All-from_recursion, recursion_from_All, sum_by-cons}
use Rattle.pg_image.proofs.Common.{Side, IsNode, IsClaim, IsWithinLimits, has_body, node_count}
use Rattle.pg_image.proofs.Common.{Claim, Version, One, Two, Move, Node, Part}
use Rattle.pg_cert.specs.declared.part.Part.TheVariants as parts
use Rattle.pg_image.proofs.Common.{Gathered, listed, Head, Progress}
use Rattle.pg_cert_files.specs.CertFile.{with_part as gathered_with, closed as all_gathered}
use Rattle.pg_image.specs.Limits.{IsMarked, IsImageNode, IsImageClaim, IsImageWithinLimits}
use Rattle.pg_image.specs.Limits.{image_node_count}
use Rattle.pg_image.specs.declared.cert.ImageClaim.{ImageClaim}
use Rattle.pg_image.specs.declared.node.ImageNode.{ImageNode}
use Rattle.pg_image.specs.declared.node.ImageNode.TheVariants.{Plain, Image}
use Rattle.pg_image.specs.ImageFile.{Draft, last_claim, closed, with_part}

-- the move for an image, whatever its point
abbrev pub move_node : FinSet nat_cmp → FinSet nat_cmp → Side → ℕ → ℕ → ℕ → Node
move_node x y turn left point child = record {
  x = x;
  y = y;
  turn = turn;
  left = left;
  body = Move point child;
}

abbrev pub shadow : ImageNode → Node
shadow (Plain node) = node
shadow (Image x y turn left m child) = move_node x y turn left 0 child

abbrev pub claim_shadow : ImageClaim → Claim
claim_shadow c = record { turn = c.turn; side = c.side; goal = c.goal; nodes = map shadow c.nodes }

abbrev pub draft_shadow : Draft → Gathered
draft_shadow d = record {
  whole = map claim_shadow d.whole;
  head = d.head;
  nodes = map shadow d.nodes;
}

-- ---- what was gathered

closed_by : (whole : List ImageClaim) (head : Option Head) (nodes : List ImageNode)
    → all_gathered (record {
      whole = map claim_shadow whole;
      head = head;
      nodes = map shadow nodes;
    }) ≡ map claim_shadow (whole ++ last_claim head nodes)
closed_by whole None nodes =
    append-nil (map claim_shadow whole) ∙ ap (map claim_shadow) (sym (append-nil whole))
closed_by whole (Some head) nodes =
    sym (map-append claim_shadow whole (last_claim (Some head) nodes))

pub closed_shadow : (d : Draft) → all_gathered (draft_shadow d) ≡ map claim_shadow (closed d)
closed_shadow d = closed_by d.whole d.head d.nodes

pub one_more : (d : Draft) (node : ImageNode)
    → record (draft_shadow d) {
      nodes = map shadow d.nodes ++ shadow node ∷ [];
    } ≡ record (draft_shadow d) { nodes = map shadow (d.nodes ++ node ∷ []) }
one_more d node = ap (λ (ns : List Node). record (draft_shadow d) {
  nodes = ns;
}) (sym (map-append shadow d.nodes (node ∷ [])))

-- a part is added to both alike
pub part_added : (d : Draft) (p : Progress) (part : Option Part)
    → fold gathered_with (draft_shadow d) (listed part) ≡ draft_shadow (with_part d p part)
part_added d p None = refl
part_added d p (Some (parts.Claim turn side goal nodes)) = ap (λ (cs : List Claim). record {
  whole = cs;
  head = Some (record { turn = turn; side = side; goal = goal });
  nodes = [];
}) (closed_shadow d)
part_added d p (Some (parts.Node node)) = one_more d (Plain node)

-- ---- limits

has_move : (version : Version) (point child : ℕ) → has_body version (Move point child) ≡ true
has_move One point child = refl
has_move Two point child = refl

-- a move of a node of a file
pub move_fits : (version : Version) (x y : FinSet nat_cmp) (turn : Side) (left point child : ℕ)
    → IsMarked x y turn left
    → point < 1024
    → child < 100000
    → IsNode (move_node x y turn left point child) × (has_body version (Move point child) ≡ true)
move_fits version x y turn left point child h small few = (
  record {
    x = h.x_points;
    y = h.y_points;
    apart = h.apart;
    turn = h.turn_said;
    body = (small, few);
  },
  has_move version point child,
)

pub node_fits : (n : ImageNode) → IsNode (shadow n) → IsImageNode n
node_fits (Plain node) h = h
node_fits (Image x y turn left m child) h =
    (record { x_points = h.x; y_points = h.y; apart = h.apart; turn_said = h.turn }, h.body.1)

nodes_fit : (ns : List ImageNode)
    → AllByRecursion IsNode (map shadow ns)
    → AllByRecursion IsImageNode ns
nodes_fit [] h = tt
nodes_fit (n ∷ ns) h = (node_fits n h.0, nodes_fit ns h.1)

claim_fits : (c : ImageClaim) → IsClaim (claim_shadow c) → IsImageClaim c
claim_fits c h =
    let len = length-map c.nodes shadow in
    record {
      some = omega (arith, h.some, len);
      few = omega (arith, h.few, len);
      nodes = All-from_recursion IsImageNode c.nodes
          (nodes_fit c.nodes (recursion_from_All IsNode (map shadow c.nodes) h.nodes));
    }

claims_fit : (cs : List ImageClaim)
    → AllByRecursion IsClaim (map claim_shadow cs)
    → AllByRecursion IsImageClaim cs
claims_fit [] h = tt
claims_fit (c ∷ cs) h = (claim_fits c h.0, claims_fit cs h.1)

same_count : (cs : List ImageClaim) → image_node_count cs ≡ node_count (map claim_shadow cs)
same_count [] = refl
same_count (c ∷ cs) =
    let here = sum_by-cons (λ (claim : ImageClaim). length claim.nodes) c cs in
    let there =
    sum_by-cons (λ (claim : Claim). length claim.nodes) (claim_shadow c) (map claim_shadow cs) in
    omega (arith, here, there, same_count cs, length-map c.nodes shadow)

pub limits_fit : (version : Version) (cs : List ImageClaim)
    → IsWithinLimits (record { version = version; claims = map claim_shadow cs })
    → IsImageWithinLimits (record { claims = cs })
limits_fit version cs h =
    let len = length-map cs claim_shadow in
    record {
      some = omega (arith, h.some, len);
      few = omega (arith, h.few, len);
      claims = All-from_recursion IsImageClaim cs
          (claims_fit cs (recursion_from_All IsClaim (map claim_shadow cs) h.claims));
      nodes = omega (arith, h.nodes, same_count cs);
    }
