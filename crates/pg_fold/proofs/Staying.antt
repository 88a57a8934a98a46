-- The claims that folded claims stand for are valid, and no node of a folded claim is faulty.
use Rattle.std.proofs.Common.{◌≡◌, ℕ, zero, suc, ◌+◌, ◌-◌, ◌<◌, true, List, get_or, [], ◌∷◌, Some}
use Rattle.std.proofs.Common.{length, refl, sym, ap, ◌∙◌, subst, arith, slice_get}
use Rattle.pg_fold.proofs.Common.{none-some, slice_get-get_or, AllZip, same_some, one_at}
use Rattle.pg_fold.proofs.Common.{at_contains, Side, Goal, IsClaim, IsWithinLimits, position_of}
use Rattle.pg_fold.proofs.Common.{is_allowed, NamesEarlier, IsNodeOf, FollowMoves, HasTurn}
use Rattle.pg_fold.proofs.Common.{TakesFree, EndsRight, HasPairs, HasPotential, HasTrees, HasCuts}
use Rattle.pg_fold.proofs.Common.{HasThreat, HasWeaker, IsOwed, Passes, IsValidClaim, IsValid, Cert}
use Rattle.pg_fold.proofs.Common.{Claim, Node, with_turn, IsPosition, Game, Position, ImageCert}
use Rattle.pg_fold.proofs.Common.{ImageClaim, Plain, Image, Fits, board_of, GridMap, Copy}
use Rattle.pg_fold.proofs.Common.{IsSoundClaim, AreSound, IsBodyImage, BecomesUnder, IsCopied}
use Rattle.pg_fold.proofs.Common.{IsUnfolded, AreUnfolded, IsUnfoldedCert}
use Rattle.pg_cert.specs.declared.node_fault.NodeFault.{NodeFault}
use Rattle.pg_cert.specs.declared.node_fault.NodeFault.TheVariants as faults
use Rattle.pg_fold.specs.Folded.{IsFoldedClaim, IsFolded, IsSameClaim}
use Rattle.pg_fold.proofs.Listing.{all_at, within_at, zip_left, zip_length, zip_all}
use Rattle.pg_fold.proofs.Positions.{points_by, image_by, image-is, image-identity}
use Rattle.pg_fold.proofs.Copies.{at_position, source, plain_source, met-fits, last_copy}
use Rattle.pg_fold.proofs.Copies.{last-place, child-placed}
use Rattle.pg_fold.proofs.BodyImages.{allowed-image, earlier-image, turn-image, free-taken}
use Rattle.pg_fold.proofs.BodyImages.{ends-image, pairs-hold, potential-holds, threat-holds}
use Rattle.pg_fold.proofs.BodyImages.{trees-hold, cuts-hold, follow-moves, weaker-holds}
use Rattle.pg_unfold.specs.declared.flaw.Flaw.TheVariants as flaws
use Rattle.pg_unfold.specs.declared.unfolded.Unfolded.{Unfolded}

-- ---- a node that is a copy of a sound node

module _ (g : Game) (c : Claim) (valid : IsValidClaim g c)
    (positions : (j : ℕ) (n : Node) → slice_get c.nodes j ≡ Some n → IsPosition g (position_of n))
    (claim : Claim) (same_side : claim.side ≡ c.side) (same_goal : claim.goal ≡ c.goal)
    (B : ℕ → ℕ → Type 0) (x k : ℕ) (m : GridMap) (fits : Fits g m) (s n : Node)
    (was : slice_get c.nodes x ≡ Some s) (same : position_of n ≡ image_by g m (position_of s))
    (body : IsBodyImage (points_by g m) B s.body n.body)
    (child : (j place : ℕ) → j < x
    → B j place
    → (place < k)
    × ((r : Node) → slice_get c.nodes j ≡ Some r
    → IsNodeOf claim.nodes place (image_by g m (position_of r))))
    (root : k + 1 ≡ length claim.nodes → position_of n ≡ with_turn g claim.turn) where
  owed : IsOwed g c s
  owed = record { allowed = valid x s was faults.Body; in_game = (valid x s was faults.Marks).0 }

  earlier : NamesEarlier x s.body
  earlier = valid x s was faults.Child (valid x s was faults.Body)

  is : IsPosition g (position_of s)
  is = positions x s was

  moved : (P : Position → Type 0) → P (image_by g m (position_of s)) → P (position_of n)
  moved P h = subst P (sym same) h

  sided : (P : Side → Type 0) → P c.side → P claim.side
  sided P h = subst P (sym same_side) h

  pub copy-passes : (fault : NodeFault) → Passes g claim k n fault
  copy-passes faults.Child = λ ok. earlier-image (points_by g m) B x k
      (λ j place low becomes. (child j place low becomes).0) s.body n.body body earlier
  copy-passes faults.Marks =
      let at = moved (IsPosition g) (image-is g m fits (position_of s) is) in (
        record { x = at.x_range; y = at.y_range; left = at.few_left },
        moved (λ (r : Position). FollowMoves g claim.nodes r n.body)
            (follow-moves g m fits (position_of s) is B x c.nodes claim.nodes
            (λ j place low becomes. (child j place low becomes).1) s.body n.body body earlier
            (valid x s was faults.Moves owed) (valid x s was faults.Marks).1),
      )
  copy-passes faults.Turn = λ _. sided (λ (side : Side). HasTurn side (position_of n) n.body)
      (moved (λ (r : Position). HasTurn c.side r n.body) (turn-image g m fits
      (position_of s) is B c.side s.body n.body body (valid x s was faults.Turn owed)))
  copy-passes faults.Moves = λ _. moved (λ (r : Position). TakesFree g r n.body)
      (free-taken g m fits (position_of s) is B s.body n.body body
      (valid x s was faults.Moves owed))
  copy-passes faults.End =
      λ _. sided (λ (side : Side). EndsRight g side claim.goal (position_of n) n.body)
      (subst (λ (goal : Goal). EndsRight g c.side goal (position_of n) n.body) (sym same_goal)
      (moved (λ (r : Position). EndsRight g c.side c.goal r n.body) (ends-image g m fits
      (position_of s) is B c.side c.goal s.body n.body body (valid x s was faults.End owed))))
  copy-passes faults.Pairs = λ _. sided (λ (side : Side). HasPairs g side (position_of n) n.body)
      (moved (λ (r : Position). HasPairs g c.side r n.body) (pairs-hold g m fits
      (position_of s) is B c.side s.body n.body body (valid x s was faults.Pairs owed)))
  copy-passes faults.Potential =
      λ _. sided (λ (side : Side). HasPotential g side (position_of n) n.body)
      (moved (λ (r : Position). HasPotential g c.side r n.body) (potential-holds g m fits
      (position_of s) is B c.side s.body n.body body (valid x s was faults.Potential owed)))
  copy-passes faults.Trees = λ _. moved (λ (r : Position). HasTrees g r n.body)
      (trees-hold g m fits (position_of s) is B c.side c.goal s.body n.body
      (valid x s was faults.Body) body (valid x s was faults.Trees owed))
  copy-passes faults.Cuts = λ _. moved (λ (r : Position). HasCuts g r n.body)
      (cuts-hold g m fits (position_of s) is B c.side c.goal s.body n.body
      (valid x s was faults.Body) body (valid x s was faults.Cuts owed))
  copy-passes faults.Threat = λ _. sided (λ (side : Side). HasThreat g side (position_of n) n.body)
      (moved (λ (r : Position). HasThreat g c.side r n.body) (threat-holds g m fits
      (position_of s) is B c.side s.body n.body body (valid x s was faults.Threat owed)))
  copy-passes faults.Root = root
  copy-passes faults.Body =
      sided (λ (side : Side). is_allowed g.kind g.bias side claim.goal n.body ≡ true)
      (subst (λ (goal : Goal). is_allowed g.kind g.bias c.side goal n.body ≡ true) (sym same_goal)
      (allowed-image (points_by g m) B g.kind g.bias c.side c.goal s.body n.body body
      (valid x s was faults.Body)))
  copy-passes faults.Weaker =
      λ _ low. sided (λ (side : Side). HasWeaker claim.nodes side (position_of n) n.body)
      (moved (λ (r : Position). HasWeaker claim.nodes c.side r n.body)
      (weaker-holds g m fits (position_of s) is B x c.nodes claim.nodes
      (λ j place lower becomes. (child j place lower becomes).1) c.side positions s.body n.body body
      earlier (valid x s was faults.Weaker owed earlier)))

-- ---- claims

module _ (g : Game) (c : Claim) (d : ImageClaim) (folded : IsFoldedClaim g c d)
    (valid : IsValidClaim g c) (limits : IsClaim c) where
  pub claim-flawless : IsSoundClaim g d
  claim-flawless k (Plain node) at flaws.Child =
      let was = plain_source g c d folded valid limits k node at in
      valid k node was faults.Child (valid k node was faults.Body)
  claim-flawless k (Plain node) at flaws.Map = tt
  claim-flawless k (Plain node) at flaws.Marks =
      let was = plain_source g c d folded valid limits k node at in
      let in_game = (valid k node was faults.Marks).0 in
      record { x = in_game.x; y = in_game.y }
  claim-flawless k (Image x y turn left m j) at flaws.Child =
      (source g c d folded valid limits k (Image x y turn left m j) at).becomes.1.earlier
  claim-flawless k (Image x y turn left m j) at flaws.Map =
      (source g c d folded valid limits k (Image x y turn left m j) at).becomes.1.is.usable
  claim-flawless k (Image x y turn left m j) at flaws.Marks =
      let s = source g c d folded valid limits k (Image x y turn left m j) at in
      let was = s.becomes.1.is in
      record { node = Plain was.node; at = was.at; image = s.becomes.0 ∙ was.image }

  module _ (claim : Claim) (origins : List ℕ) (u : IsUnfolded g d claim origins) where
    -- the last node of the claim is the game's marks with the claim's turn
    root-starts : (k : ℕ) (n : Node) (x : Copy)
        → slice_get u.copies k ≡ Some x
        → IsCopied (board_of g.field) d.nodes u.copies x n
        → k + 1 ≡ length claim.nodes
        → position_of n ≡ with_turn g claim.turn
    root-starts k n x here made count =
        let some = limits.some in
        let last : ℕ = length c.nodes - 1 in
        let ends : last + 1 ≡ length c.nodes = omega (arith, some) in
        let closed : last + 1 ≡ length d.nodes = ends ∙ sym folded.count in
        let r = within_at c.nodes last (omega (arith, ends)) in
        let end = last_copy g c d folded valid limits last closed in
        let long =
        zip_length (IsCopied (board_of g.field) d.nodes u.copies) u.copies claim.nodes u.nodes in
        let one : x ≡ end.0 = last-place g c d folded valid limits u.copies u.are last end.0 k x
        end.1 (count ∙ long) here in
        let was = plain_source g c d folded valid limits x.node made.source made.at in
        let there = ap (λ (q : Copy). slice_get c.nodes q.node) (sym one) ∙ was in
        let settled = end.1.settled in
        let source_is : made.source ≡ settled.node =
        one_at c.nodes end.0.node made.source settled.node there settled.at in
        made.position
        ∙ ap (λ (q : Copy). image_by g q.map (position_of made.source)) one
        ∙ ap (λ (s : Node). image_by g end.0.map (position_of s)) source_is
        ∙ sym (settled.same r.0 r.1)
        ∙ image-identity g (position_of r.0) (at_position g c d folded valid limits last r.0 r.1)
        ∙ valid last r.0 r.1 faults.Root ends
        ∙ ap (with_turn g) (sym (u.turn ∙ folded.turn))

    pub claim-valid : IsValidClaim g claim
    claim-valid k n at =
        let made = zip_left (IsCopied (board_of g.field) d.nodes u.copies) u.copies claim.nodes k n
        at u.nodes in
        let x = made.0 in
        let met = (u.are.met x (at_contains u.copies k x made.1)).0 in
        let fits = met-fits g c d folded valid limits met.0 x met.1 in
        let was = plain_source g c d folded valid limits x.node made.2.source made.2.at in
        copy-passes g c valid (at_position g c d folded valid limits) claim (u.side ∙ folded.side)
        (u.goal ∙ folded.goal) (BecomesUnder d.nodes u.copies x) x.node k x.map fits made.2.source n
        was made.2.position made.2.body
        (λ j place low becomes. child-placed g c d folded valid limits u.copies u.are claim.nodes
        u.nodes k x made.1 fits j place low becomes) (root-starts k n x made.1 made.2)

-- ---- certificates

-- the claim that the claim at its place stands for
unfolded-at : (g : Game) (ds : List ImageClaim) (claims : List Claim) (sources : List (List ℕ))
    (i : ℕ) (claim : Claim)
    → slice_get claims i ≡ Some claim
    → AreUnfolded g ds claims sources
    → (d : ImageClaim) × (origins : List ℕ) × (slice_get ds i ≡ Some d)
    × IsUnfolded g d claim origins
unfolded-at g [] [] [] i claim at all = absurd (none-some claim at)
unfolded-at g [] [] (o ∷ os) i claim at all = absurd all
unfolded-at g [] (z ∷ zs) [] i claim at all = absurd all
unfolded-at g [] (z ∷ zs) (o ∷ os) i claim at all = absurd all
unfolded-at g (d ∷ ds) [] [] i claim at all = absurd all
unfolded-at g (d ∷ ds) [] (o ∷ os) i claim at all = absurd all
unfolded-at g (d ∷ ds) (z ∷ zs) [] i claim at all = absurd all
unfolded-at g (d ∷ ds) (z ∷ zs) (o ∷ os) zero claim at all =
    (d, o, refl, subst (λ (w : Claim). IsUnfolded g d w o) (same_some at) all.0)
unfolded-at g (d ∷ ds) (z ∷ zs) (o ∷ os) (suc i) claim at all =
    unfolded-at g ds zs os i claim at all.1

pub certificate-flawless : (g : Game) (c : Cert) (d : ImageCert)
    → IsWithinLimits c
    → IsValid g c
    → IsFolded g c d
    → AreSound g d.claims
certificate-flawless g c d limits valid folded =
    zip_all (IsFoldedClaim g) (λ (claim : Claim). IsValidClaim g claim × IsClaim claim)
    (IsSoundClaim g) (λ claim other is h. claim-flawless g claim other is h.0 h.1) c.claims d.claims
    folded.claims (λ k e lt. (
      valid k (get_or c.claims k e) (slice_get-get_or c.claims k e lt),
      limits.claims k e lt,
    ))

pub certificate-valid : (g : Game) (c : Cert) (d : ImageCert) (u : Unfolded)
    → IsWithinLimits c
    → IsValid g c
    → IsFolded g c d
    → IsUnfoldedCert g d u
    → IsValid g u.cert
certificate-valid g c d u limits valid folded unfolded i claim at =
    let is = unfolded-at g d.claims u.cert.claims u.sources i claim at unfolded.claims in
    let was = zip_left (IsFoldedClaim g) c.claims d.claims i is.0 is.2 folded.claims in
    claim-valid g was.0 is.0 was.2 (valid i was.0 was.1)
    (all_at IsClaim c.claims i was.0 was.1 limits.claims) claim is.1 is.3

pub certificate-same : (g : Game) (cs : List Claim) (ds : List ImageClaim) (claims : List Claim)
    (sources : List (List ℕ))
    → AllZip (IsFoldedClaim g) cs ds
    → AreUnfolded g ds claims sources
    → AllZip IsSameClaim cs claims
certificate-same g [] [] [] [] zip all = tt
certificate-same g [] [] [] (o ∷ os) zip all = absurd all
certificate-same g [] [] (z ∷ zs) [] zip all = absurd all
certificate-same g [] [] (z ∷ zs) (o ∷ os) zip all = absurd all
certificate-same g [] (d ∷ ds) claims sources zip all = absurd zip
certificate-same g (c ∷ cs) [] claims sources zip all = absurd zip
certificate-same g (c ∷ cs) (d ∷ ds) [] [] zip all = absurd all
certificate-same g (c ∷ cs) (d ∷ ds) [] (o ∷ os) zip all = absurd all
certificate-same g (c ∷ cs) (d ∷ ds) (z ∷ zs) [] zip all = absurd all
certificate-same g (c ∷ cs) (d ∷ ds) (z ∷ zs) (o ∷ os) zip all = (
  record {
    turn = all.0.turn ∙ zip.0.turn;
    side = all.0.side ∙ zip.0.side;
    goal = all.0.goal ∙ zip.0.goal;
  },
  certificate-same g cs ds zs os zip.1 all.1,
)
