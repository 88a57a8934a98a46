-- A certificate has one unfolding at most.
use Rattle.std.proofs.Common.{◌≡◌, ℕ, zero, suc, ◌<◌, List, [], ◌∷◌, map, Some, slice_get, refl}
use Rattle.std.proofs.Common.{sym, ap, ap₂, ◌∙◌, subst, inl, inr, arith}
use Rattle.pg_unfold.proofs.Common.{AllPairs, AllZip, Contains, cases_order, Contains-permutation}
use Rattle.pg_unfold.proofs.Common.{IsPermutation-sym, slice_get_within, get_or_from_slice_get}
use Rattle.pg_unfold.proofs.Common.{position_of, Claim, Body, Over, Move, Pairs, Potential, Trees}
use Rattle.pg_unfold.proofs.Common.{Cuts, Threat, Weaker, Node, Reply, Game, ImageCert, ImageClaim}
use Rattle.pg_unfold.proofs.Common.{ImageNode, Plain, Image, board_of, image_on, image_position}
use Rattle.pg_cert.specs.declared.node.Body.TheVariants.{All}
use Rattle.pg_unfold.specs.Copies.{Copy, ComesBefore, IsAt, IsPlaced, IsPlain, SettlesBy, StandsFor}
use Rattle.pg_unfold.specs.Unfolded.{AreReplyImages, AreUnfolded, BecomesUnder, IsBodyImage}
use Rattle.pg_unfold.specs.Unfolded.{IsCopied, IsReplyImage, IsUnfolded, IsUnfoldedCert}
use Rattle.pg_unfold.specs.declared.unfolded.Unfolded.{Unfolded}
use Rattle.pg_unfold.proofs.Sizes.{copies_apart, copies_once, same_ascending}

-- ---- where a copy settles, and at which place

module _ (nodes : List ImageNode) where
  -- a copy has one node
  node_once : (c : Copy) (P Q : ImageNode → Type 0) (a : IsAt nodes c P) (b : IsAt nodes c Q)
      → b.node ≡ a.node
  node_once c P Q a b = let same : Some b.node ≡ Some a.node = sym b.at ∙ a.at in cc

  never_both : (node : ImageNode) (c next : Copy) → IsPlain node → StandsFor node c next → ⊥
  never_both (Plain node) c next plain stands = stands
  never_both (Image x y turn left m child) c next plain stands = plain

  next_once : (node : ImageNode) (c a b : Copy) → StandsFor node c a → StandsFor node c b → a ≡ b
  next_once (Plain node) c a b one other = absurd one
  next_once (Image x y turn left m child) c a b one other = one ∙ sym other

  settles_apart : (c next : Copy)
      → IsAt nodes c IsPlain
      → IsAt nodes c (λ node. StandsFor node c next)
      → ⊥
  settles_apart c next plain stands =
      let same = node_once c (λ node. StandsFor node c next) IsPlain stands plain in
      never_both stands.node c next (subst IsPlain same plain.holds) stands.holds

  settles_once : (m n : ℕ) (c a b : Copy) → SettlesBy nodes m c a → SettlesBy nodes n c b → a ≡ b
  settles_once zero zero c a b one other = one.1 ∙ sym other.1
  settles_once zero (suc n) c a b one (next, stands, further) =
      absurd (settles_apart c next one.0 stands)
  settles_once (suc m) zero c a b (next, stands, further) other =
      absurd (settles_apart c next other.0 stands)
  settles_once (suc m) (suc n) c a b (next, stands, further) (other, stands', further') =
      let node =
      node_once c (λ node. StandsFor node c next) (λ node. StandsFor node c other) stands stands' in
      let same : other ≡ next = next_once stands.node c other next
      (subst (λ (k : ImageNode). StandsFor k c other) node stands'.holds) stands.holds in
      settles_once m n next a b further (subst (λ (d : Copy). SettlesBy nodes n d b) same further')

  module _ (copies : List Copy) (ascending : AllPairs ComesBefore copies) where
    no_later : (c : Copy) (i j : ℕ)
        → slice_get copies i ≡ Some c
        → slice_get copies j ≡ Some c
        → i < j
        → ⊥
    no_later c i j at there lt =
        let before = ascending i j c lt (slice_get_within copies j c there) in
        let own = subst (λ (d : Copy). ComesBefore d c) (get_or_from_slice_get copies i c c at)
        (subst (ComesBefore _) (get_or_from_slice_get copies j c c there) before) in
        copies_apart c c own own

    place_once : (c : Copy) (i j : ℕ)
        → slice_get copies i ≡ Some c
        → slice_get copies j ≡ Some c
        → i ≡ j
    place_once c i j at there = elim (cases_order i j) [
      | inl e ↦ e
      | inr h ↦ elim h [
        | inl lt ↦ absurd (no_later c i j at there lt)
        | inr gt ↦ absurd (no_later c j i there at gt)
      ]
    ]

    placed_once : (c : Copy) (i j : ℕ)
        → IsPlaced nodes copies c i
        → IsPlaced nodes copies c j
        → i ≡ j
    placed_once c i j a b =
        let same : b.plain ≡ a.plain =
        settles_once b.settles.0 a.settles.0 c b.plain a.plain b.settles.1 a.settles.1 in
        place_once a.plain i j a.at (b.at ∙ ap Some same)

-- ---- lists of images

-- a list has one image, place by place, where each member has one
zip_once : {A B : Type 0} (R : A → B → Type 0)
    → ((x : A) (y z : B) → R x y → R x z → y ≡ z)
    → (xs : List A) (ys zs : List B) → AllZip R xs ys
    → AllZip R xs zs
    → ys ≡ zs
zip_once R once [] [] [] a b = refl
zip_once R once [] [] (z ∷ zs) a b = absurd b
zip_once R once [] (y ∷ ys) zs a b = absurd a
zip_once R once (x ∷ xs) [] zs a b = absurd a
zip_once R once (x ∷ xs) (y ∷ ys) [] a b = absurd b
zip_once R once (x ∷ xs) (y ∷ ys) (z ∷ zs) a b =
    ap₂ (λ v vs. v ∷ vs) (once x y z a.0 b.0) (zip_once R once xs ys zs a.1 b.1)

same_reply : (a b : Reply) → a.point ≡ b.point → a.child ≡ b.child → a ≡ b
same_reply a b point child = λ i. record { point = point i; child = child i }

points_apart : (a b : Reply) → a.point < b.point → b.point < a.point → ⊥
points_apart a b x y = omega (arith, x, y)

-- ---- images of bodies

module _ (f : ℕ → ℕ) (Becomes : ℕ → ℕ → Type 0)
    (once : (child i j : ℕ) → Becomes child i → Becomes child j → i ≡ j) where
  reply_once : (r a b : Reply) → IsReplyImage f Becomes r a → IsReplyImage f Becomes r b → a ≡ b
  reply_once r a b one other = same_reply a b (one.point ∙ sym other.point)
      (once r.child a.child b.child one.child other.child)

  replies_once : (rs xs ys : List Reply)
      → AreReplyImages f Becomes rs xs
      → AreReplyImages f Becomes rs ys
      → xs ≡ ys
  replies_once rs xs ys a b =
      let mapped : a.mapped ≡ b.mapped =
      zip_once (IsReplyImage f Becomes) reply_once rs a.mapped b.mapped a.each b.each in
      let there = λ (z : Reply) (h : Contains xs z). Contains-permutation b.mapped ys z b.same
      (subst (λ (ms : List Reply). Contains ms z) mapped
      (Contains-permutation xs a.mapped z (IsPermutation-sym a.mapped xs a.same) h)) in
      let back = λ (z : Reply) (h : Contains ys z). Contains-permutation a.mapped xs z a.same
      (subst (λ (ms : List Reply). Contains ms z) (sym mapped)
      (Contains-permutation ys b.mapped z (IsPermutation-sym b.mapped ys b.same) h)) in
      same_ascending (λ (r s : Reply). r.point < s.point) points_apart xs ys a.ascending b.ascending
      there back

  body_once : (body a b : Body)
      → IsBodyImage f Becomes body a
      → IsBodyImage f Becomes body b
      → a ≡ b
  body_once Over a b one other = one ∙ sym other
  body_once (Move point child) a b (i, at, one) (j, there, other) =
      one ∙ ap (λ (k : ℕ). Move (f point) k) (once child i j at there) ∙ sym other
  body_once (All rs) a b (xs, are, one) (ys, too, other) =
      one ∙ ap All (replies_once rs xs ys are too) ∙ sym other
  body_once (Pairs pairs) a b one other = one ∙ sym other
  body_once Potential a b one other = one ∙ sym other
  body_once (Trees with_e first second) a b one other = one ∙ sym other
  body_once (Cuts with_e first second) a b one other = one ∙ sym other
  body_once (Threat points) a b one other = one ∙ sym other
  body_once (Weaker child) a b (i, at, one) (j, there, other) =
      one ∙ ap Weaker (once child i j at there) ∙ sym other

-- ---- nodes, claims and certificates

same_node : (a b : Node) → position_of a ≡ position_of b → a.body ≡ b.body → a ≡ b
same_node a b p body = λ i. record {
  x = (p i).x;
  y = (p i).y;
  turn = (p i).turn;
  left = (p i).left;
  body = body i;
}

copied_once : (g : Game) (nodes : List ImageNode) (copies : List Copy)
    → AllPairs ComesBefore copies
    → (c : Copy) (a b : Node) → IsCopied (board_of g.field) nodes copies c a
    → IsCopied (board_of g.field) nodes copies c b
    → a ≡ b
copied_once g nodes copies ascending c a b one other =
    let map = image_on (board_of g.field) c.map in
    let found : Some (Plain other.source) ≡ Some (Plain one.source) = sym other.at ∙ one.at in
    let same : other.source ≡ one.source = cc in
    let body = subst (λ (n : Node). IsBodyImage map (BecomesUnder nodes copies c) n.body b.body)
    same other.body in
    same_node a b
    (one.position
    ∙ ap (λ (n : Node). image_position map (position_of n)) (sym same)
    ∙ sym other.position)
    (body_once map (BecomesUnder nodes copies c)
    (λ child i j at there. placed_once nodes copies ascending (record {
      node = child;
      map = c.map;
    }) i j at there) one.source.body a.body b.body one.body body)

same_claim : (a b : Claim)
    → a.turn ≡ b.turn
    → a.side ≡ b.side
    → a.goal ≡ b.goal
    → a.nodes ≡ b.nodes
    → a ≡ b
same_claim a b turn side goal nodes = λ i. record {
  turn = turn i;
  side = side i;
  goal = goal i;
  nodes = nodes i;
}

claim_once : (g : Game) (c : ImageClaim) (a b : Claim) (os ps : List ℕ)
    → IsUnfolded g c a os
    → IsUnfolded g c b ps
    → (a ≡ b) × (os ≡ ps)
claim_once g c a b os ps one other =
    let same : other.copies ≡ one.copies =
    copies_once c.nodes other.copies one.copies other.are one.are in
    let nodes =
    subst (λ (cs : List Copy). AllZip (IsCopied (board_of g.field) c.nodes cs) cs b.nodes) same
    other.nodes in (
      same_claim a b (one.turn ∙ sym other.turn) (one.side ∙ sym other.side)
          (one.goal ∙ sym other.goal)
          (zip_once (IsCopied (board_of g.field) c.nodes one.copies)
          (copied_once g c.nodes one.copies one.are.ascending) one.copies a.nodes b.nodes one.nodes
          nodes),
      one.came ∙ ap (map (λ (d : Copy). d.node)) (sym same) ∙ sym other.came,
    )

claims_once : (g : Game) (cs : List ImageClaim) (ds es : List Claim) (os ps : List (List ℕ))
    → AreUnfolded g cs ds os
    → AreUnfolded g cs es ps
    → (ds ≡ es) × (os ≡ ps)
claims_once g [] [] [] [] [] one other = (refl, refl)
claims_once g [] [] [] [] (p ∷ ps) one other = absurd other
claims_once g [] [] (e ∷ es) [] [] one other = absurd other
claims_once g [] [] (e ∷ es) [] (p ∷ ps) one other = absurd other
claims_once g [] [] es (o ∷ os) ps one other = absurd one
claims_once g [] (d ∷ ds) es [] ps one other = absurd one
claims_once g [] (d ∷ ds) es (o ∷ os) ps one other = absurd one
claims_once g (c ∷ cs) [] es [] ps one other = absurd one
claims_once g (c ∷ cs) [] es (o ∷ os) ps one other = absurd one
claims_once g (c ∷ cs) (d ∷ ds) es [] ps one other = absurd one
claims_once g (c ∷ cs) (d ∷ ds) [] (o ∷ os) [] one other = absurd other
claims_once g (c ∷ cs) (d ∷ ds) [] (o ∷ os) (p ∷ ps) one other = absurd other
claims_once g (c ∷ cs) (d ∷ ds) (e ∷ es) (o ∷ os) [] one other = absurd other
claims_once g (c ∷ cs) (d ∷ ds) (e ∷ es) (o ∷ os) (p ∷ ps) one other =
    let front = claim_once g c d e o p one.0 other.0 in
    let rest = claims_once g cs ds es os ps one.1 other.1 in
    (ap₂ (λ x xs. x ∷ xs) front.0 rest.0, ap₂ (λ x xs. x ∷ xs) front.1 rest.1)

same_unfolded : (u v : Unfolded)
    → u.cert.version ≡ v.cert.version
    → u.cert.claims ≡ v.cert.claims
    → u.sources ≡ v.sources
    → u ≡ v
same_unfolded u v version claims sources =
    λ i. record { cert = record { version = version i; claims = claims i }; sources = sources i }

pub one_unfolding : (g : Game) (c : ImageCert) (u v : Unfolded)
    → IsUnfoldedCert g c u
    → IsUnfoldedCert g c v
    → u ≡ v
one_unfolding g c u v one other =
    let claims = claims_once g c.claims u.cert.claims v.cert.claims u.sources v.sources one.claims
    other.claims in
    same_unfolded u v (one.version ∙ sym other.version) claims.0 claims.1
