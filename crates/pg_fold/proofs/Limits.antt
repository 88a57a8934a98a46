-- Folded certificates are within the limits of the format, and more of what folding does.
use Rattle.std.proofs.Common.{◌≡◌, ℕ, ◌<◌, ◌≤◌, List, Some, None, length, get_or, sym, ap, ◌∙◌}
use Rattle.std.proofs.Common.{subst, inl, inr, arith, slice_get}
use Rattle.pg_fold.proofs.Common.{cases_lt, cases_eq, slice_get-get_or, AllZip, sum_by, one_at}
use Rattle.pg_fold.proofs.Common.{some≢none, IsNode, IsClaim, IsWithinLimits, node_count}
use Rattle.pg_fold.proofs.Common.{position_of, IsValidClaim, Cert, Claim, Node, Game, Position}
use Rattle.pg_fold.proofs.Common.{IsMarked, IsImageNode, IsImageClaim, IsImageWithinLimits}
use Rattle.pg_fold.proofs.Common.{image_node_count, image_node_position, ImageCert, ImageClaim}
use Rattle.pg_fold.proofs.Common.{ImageNode, Plain, Image, reverse_of, board_of, GridMap}
use Rattle.pg_fold.proofs.Common.{Fits-reverse, sum-through, IsUsable}
use Rattle.pg_cert.specs.declared.limits.TheConstants.{MAX_CLAIM_NODES, MAX_CLAIMS, MAX_NODES}
use Rattle.pg_fold.specs.Folded.{BecomesNode, IsFoldedClaim, IsFolded}
use Rattle.pg_fold.proofs.Copies.{at_position, source, plain_source}
use Rattle.pg_fold.proofs.Listing.{all_at, within_at, zip_length, zip_all, zip_map}
use Rattle.pg_fold.proofs.Positions.{image_by, image-undone}

-- ---- limits

marked : (n : Node) (p : Position) → p ≡ position_of n → IsNode n → IsMarked p.x p.y p.turn p.left
marked n p same is = subst (λ (q : Position). IsMarked q.x q.y q.turn q.left) (sym same) (record {
  x_points = is.x;
  y_points = is.y;
  apart = is.apart;
  turn_said = is.turn;
})

becomes-limits : (g : Game) (nodes : List ImageNode) (k : ℕ) (n : Node) (folded : ImageNode)
    → k < MAX_CLAIM_NODES
    → IsNode n
    → BecomesNode g nodes k n folded
    → IsImageNode folded
becomes-limits g nodes k n (Plain same) few is becomes =
    subst (λ (r : Node). IsNode r) (sym becomes.0) is
becomes-limits g nodes k n (Image x y turn left m j) few is becomes = (
  marked n (image_node_position (Image x y turn left m j)) becomes.0 is,
  let low = becomes.1.earlier in omega (arith, low, few),
)

claim-limits : (g : Game) (c : Claim) (d : ImageClaim)
    → IsFoldedClaim g c d
    → IsClaim c
    → IsImageClaim d
claim-limits g c d folded limits = record {
  some = omega (arith, folded.count, limits.some);
  few = subst (λ (n : ℕ). n ≤ MAX_CLAIM_NODES) (sym folded.count) limits.few;
  nodes = λ k e lt.
      let within : k < length c.nodes = omega (arith, lt, folded.count) in
      let was = within_at c.nodes k within in
      let is = folded.nodes k was.0 was.1 in
      let here = slice_get-get_or d.nodes k e lt in
      let few : k < MAX_CLAIM_NODES = omega (arith, within, limits.few) in
      becomes-limits g d.nodes k was.0 (get_or d.nodes k e) few
      (all_at IsNode c.nodes k was.0 was.1 limits.nodes)
      (subst (λ (x : ImageNode). BecomesNode g d.nodes k was.0 x)
      (one_at d.nodes k is.folded (get_or d.nodes k e) is.at here) is.becomes);
}

same-count : (g : Game) (cs : List Claim) (ds : List ImageClaim)
    → AllZip (IsFoldedClaim g) cs ds
    → image_node_count ds ≡ node_count cs
same-count g cs ds zip = sym (sum-through (λ (d : ImageClaim). length d.nodes) (λ (n : ℕ). n) ds)
    ∙ ap (sum_by (λ (n : ℕ). n)) (zip_map (IsFoldedClaim g) (λ (c : Claim). length c.nodes)
    (λ (d : ImageClaim). length d.nodes) (λ c d is. is.count) cs ds zip)
    ∙ sum-through (λ (c : Claim). length c.nodes) (λ (n : ℕ). n) cs

pub folded-limits : (g : Game) (c : Cert) (d : ImageCert)
    → IsWithinLimits c
    → IsFolded g c d
    → IsImageWithinLimits d
folded-limits g c d limits folded =
    let long = zip_length (IsFoldedClaim g) c.claims d.claims folded.claims in
    record {
      some = omega (arith, long, limits.some);
      few = subst (λ (n : ℕ). n ≤ MAX_CLAIMS) (sym long) limits.few;
      claims = zip_all (IsFoldedClaim g) IsClaim IsImageClaim (λ claim other is limited.
          claim-limits g claim other is limited) c.claims d.claims folded.claims limits.claims;
      nodes = subst (λ (n : ℕ). n ≤ MAX_NODES)
          (sym (same-count g c.claims d.claims folded.claims)) limits.nodes;
    }

-- ---- plain nodes

module _ (g : Game) (c : Claim) (d : ImageClaim) (limits : IsClaim c) (valid : IsValidClaim g c)
    (folded : IsFoldedClaim g c d) where
  no-image : (j k : ℕ) (a b : Node) (m : GridMap)
      → j < k
      → slice_get d.nodes j ≡ Some (Plain a)
      → slice_get d.nodes k ≡ Some (Plain b)
      → IsUsable g m
      → position_of b ≡ image_by g m (position_of a)
      → ⊥
  no-image j k a b m lt here there usable image =
      let s = source g c d folded valid limits k (Plain b) there in
      s.becomes.1 j m lt (record {
        usable = usable;
        node = a;
        at = here;
        image = ap (λ (n : Node). position_of n) (sym s.becomes.0) ∙ image;
      })

  -- no two plain nodes of a claim are images of one another
  pub plain-apart : (j k : ℕ) (a b : Node) (m : GridMap)
      → slice_get d.nodes j ≡ Some (Plain a)
      → slice_get d.nodes k ≡ Some (Plain b)
      → IsUsable g m
      → position_of b ≡ image_by g m (position_of a)
      → j ≡ k
  plain-apart j k a b m here there usable image = elim (cases_eq j k) [
    | inl same ↦ same
    | inr apart ↦ elim (cases_lt j k) [
      | inl lt ↦ absurd (no-image j k a b m lt here there usable image)
      | inr ge ↦
          let first = at_position g c d folded valid limits j a
          (plain_source g c d folded valid limits j a here) in
          let second = at_position g c d folded valid limits k b
          (plain_source g c d folded valid limits k b there) in
          let back =
          image-undone g m (position_of a) (position_of b) usable.fits first second image in
          absurd (no-image k j b a (reverse_of m) (omega (arith, ge, apart)) there here (record {
            grid = usable.grid;
            on_grid = usable.on_grid;
            fits = Fits-reverse g m usable.fits;
          }) back)
    ]
  ]

-- without a board all nodes stay
stays-off_board : (g : Game) (nodes : List ImageNode) (k : ℕ) (n : Node) (folded : ImageNode)
    → board_of g.field ≡ None
    → BecomesNode g nodes k n folded
    → folded ≡ Plain n
stays-off_board g nodes k n (Plain same) none becomes = ap (λ (r : Node). Plain r) becomes.0
stays-off_board g nodes k n (Image x y turn left m j) none becomes =
    absurd (some≢none (sym becomes.1.is.usable.on_grid ∙ none))

pub all-stay : (g : Game) (c : Claim) (d : ImageClaim)
    → board_of g.field ≡ None
    → IsFoldedClaim g c d
    → (k : ℕ) (n : Node) → slice_get c.nodes k ≡ Some n
    → slice_get d.nodes k ≡ Some (Plain n)
all-stay g c d none folded k n at =
    let is = folded.nodes k n at in
    is.at ∙ ap (λ (x : ImageNode). Some x) (stays-off_board g d.nodes k n is.folded none is.becomes)
