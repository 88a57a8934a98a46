-- What a sound node's body owes, its image owes to the image of the position.
use Rattle.std.proofs.Common.{◌≡◌, ℕ, ◌<◌, true, List, Some, map, refl, sym, ap, ◌∙◌, subst, inl}
use Rattle.std.proofs.Common.{inr, slice_get}
use Rattle.pg_fold.proofs.Common.{cases_Bool, false≢true, FinSet, contains, Contains, nat_cmp}
use Rattle.pg_fold.proofs.Common.{AreBelow, Goal, Side, position_of, is_allowed, shows_trees}
use Rattle.pg_fold.proofs.Common.{shows_cuts, NamesEarlier, IsNodeOf, FollowsMove, FollowMoves}
use Rattle.pg_fold.proofs.Common.{HasTurn, TakesFree, EndsRight, PotentialFits, HasPairs}
use Rattle.pg_fold.proofs.Common.{HasPotential, HasTrees, HasCuts, HasThreat, HasWeaker, Body, Over}
use Rattle.pg_fold.proofs.Common.{Move, Pairs, Potential, Trees, Cuts, Threat, Weaker, Node, Reply}
use Rattle.pg_fold.proofs.Common.{point_count, free_points, is_over, IsPosition, is_free, Game}
use Rattle.pg_fold.proofs.Common.{Position, Fits, board_of, image_on, image_set, reverse_of}
use Rattle.pg_fold.proofs.Common.{GridMap, Contains-map, PotentialHolds-image, AvoiderHolds-image}
use Rattle.pg_fold.proofs.Common.{over-image, outcome-image, image_set-has, image_set-below}
use Rattle.pg_fold.proofs.Common.{image_position-stays, replies-image, IsNoWorse-image}
use Rattle.pg_fold.proofs.Common.{IsReplyImage, AreReplyImages, IsBodyImage}
use Rattle.std.proofs.lemmas.List.Sorted.{All-permutation, IsPermutation-map}
use Rattle.std.specs.List.{All as Each}
use Rattle.std.specs.List.Sorted.{IsPermutation}
use Rattle.pg_base.specs.WordLemmas.{same_points}
use Rattle.pg_base.specs.declared.kind.Kind.{Kind}
use Rattle.pg_base.specs.declared.kind.Kind.TheVariants.{MakerBreaker, MakerMaker, AvoiderEnforcer}
use Rattle.pg_base.specs.declared.kind.Kind.TheVariants.{Switching}
use Rattle.pg_cert.specs.declared.node.Body.TheVariants.{All}
use Rattle.pg_fold.proofs.Listing.{zip_all, zip_map, pairs-map, map-map}
use Rattle.pg_fold.proofs.Positions.{points_by, image_by, onto, image-of, image-is, image-after}
use Rattle.pg_fold.proofs.Positions.{image-free}
use Rattle.pg_game.specs.Fit.{is_graph, is_switching}
use Rattle.pg_game.specs.Value.{reaches}
use Rattle.pg_game.specs.declared.field.Field.{Field}
use Rattle.pg_game.specs.declared.field.Field.TheVariants.{Lines, Graph as OnGraph}
use Rattle.pg_game.proofs.Greatest.{member-free, member-within}
use Rattle.pg_game.proofs.Members.{All-from_members}
use Rattle.pg_maps.proofs.MoreCriteria.{IsThreatLine-image, PairsHold-image}
use Rattle.pg_game.specs.Weaker.{IsNoWorse}

-- ---- what doesn't depend on the game

module _ (f : ℕ → ℕ) (B : ℕ → ℕ → Type 0) where
  -- a body is allowed where its image is
  pub allowed-image : (kind : Kind) (bias : ℕ) (side : Side) (goal : Goal) (body image : Body)
      → IsBodyImage f B body image
      → is_allowed kind bias side goal body ≡ true
      → is_allowed kind bias side goal image ≡ true
  allowed-image kind bias side goal Over image is ok = ap (is_allowed kind bias side goal) is ∙ ok
  allowed-image kind bias side goal (Move point child) image is ok =
      ap (is_allowed kind bias side goal) is.2 ∙ ok
  allowed-image kind bias side goal (All replies) image is ok =
      ap (is_allowed kind bias side goal) is.2 ∙ ok
  allowed-image kind bias side goal (Pairs pairs) image is ok =
      ap (is_allowed kind bias side goal) is ∙ ok
  allowed-image kind bias side goal Potential image is ok =
      ap (is_allowed kind bias side goal) is ∙ ok
  allowed-image kind bias side goal (Trees with_e first second) image is ok =
      ap (is_allowed kind bias side goal) is ∙ ok
  allowed-image kind bias side goal (Cuts with_e first second) image is ok =
      ap (is_allowed kind bias side goal) is ∙ ok
  allowed-image kind bias side goal (Threat points) image is ok =
      ap (is_allowed kind bias side goal) is ∙ ok
  allowed-image kind bias side goal (Weaker child) image is ok =
      ap (is_allowed kind bias side goal) is.2 ∙ ok

  -- children become earlier places
  pub earlier-image : (x k : ℕ)
      → ((j place : ℕ) → j < x → B j place → place < k)
      → (body image : Body) → IsBodyImage f B body image
      → NamesEarlier x body
      → NamesEarlier k image
  earlier-image x k each Over image is low = subst (NamesEarlier k) (sym is) tt
  earlier-image x k each (Move point child) image is low =
      subst (NamesEarlier k) (sym is.2) (each child is.0 low is.1)
  earlier-image x k each (All replies) image is low = subst (NamesEarlier k) (sym is.2)
      (All-permutation (λ (r : Reply). r.child < k) is.1.mapped is.0 is.1.same
      (zip_all (IsReplyImage f B) (λ (r : Reply). r.child < x) (λ (r : Reply). r.child < k)
      (λ r other rel lt. each r.child other.child lt rel.child) replies is.1.mapped is.1.each low))
  earlier-image x k each (Pairs pairs) image is low = subst (NamesEarlier k) (sym is) tt
  earlier-image x k each Potential image is low = subst (NamesEarlier k) (sym is) tt
  earlier-image x k each (Trees with_e first second) image is low =
      subst (NamesEarlier k) (sym is) tt
  earlier-image x k each (Cuts with_e first second) image is low =
      subst (NamesEarlier k) (sym is) tt
  earlier-image x k each (Threat points) image is low = subst (NamesEarlier k) (sym is) tt
  earlier-image x k each (Weaker child) image is low =
      subst (NamesEarlier k) (sym is.2) (each child is.0 low is.1)

-- ---- on a graph every edge stays

trees_switching : (kind : Kind) (side : Side)
    → shows_trees kind side ≡ true
    → is_switching kind ≡ true
trees_switching MakerBreaker side ok = absurd (false≢true ok)
trees_switching MakerMaker side ok = absurd (false≢true ok)
trees_switching AvoiderEnforcer side ok = absurd (false≢true ok)
trees_switching Switching side ok = refl

cuts_switching : (kind : Kind) (side : Side)
    → shows_cuts kind side ≡ true
    → is_switching kind ≡ true
cuts_switching MakerBreaker side ok = absurd (false≢true ok)
cuts_switching MakerMaker side ok = absurd (false≢true ok)
cuts_switching AvoiderEnforcer side ok = absurd (false≢true ok)
cuts_switching Switching side ok = refl

stays-on : (field : Field) (m : GridMap)
    → is_graph field ≡ true
    → (v : ℕ) → image_on (board_of field) m v ≡ v
stays-on (Lines rows) m graph v = absurd (false≢true graph)
stays-on (OnGraph h) m graph v = refl

-- ---- what the game sees

module _ (g : Game) (m : GridMap) (fits : Fits g m) (p : Position) (is : IsPosition g p) where
  -- on a graph the position stays, and so does a set of its edges
  position-stays : is_graph g.field ≡ true → image_by g m p ≡ p
  position-stays graph = image_position-stays g (points_by g m) (points_by g (reverse_of m))
      (onto g m fits) p (stays-on g.field m graph) is

  set-stays : is_graph g.field ≡ true
      → (s : FinSet nat_cmp) → AreBelow s (point_count g)
      → image_set (points_by g m) s ≡ s
  set-stays graph s below = same_points (image_set (points_by g m) s) s same
    where
      at : (w : ℕ) → w < point_count g → contains (image_set (points_by g m) s) w ≡ contains s w
      at w range = ap (contains (image_set (points_by g m) s)) (sym (stays-on g.field m graph w))
          ∙ image_set-has g (points_by g m) (points_by g (reverse_of m))
          (onto g m fits) s w below range

      same : (w : ℕ) → contains (image_set (points_by g m) s) w ≡ contains s w
      same w = elim (cases_Bool (contains s w)) [
        | inl on ↦ at w (below w on)
        | inr off ↦ elim (cases_Bool (contains (image_set (points_by g m) s) w)) [
          | inl on ↦ at w
              (image_set-below g (points_by g m) (points_by g (reverse_of m))
              (onto g m fits) s below w on)
          | inr also ↦ also ∙ sym off
        ]
      ]

  module _ (B : ℕ → ℕ → Type 0) where
    pub turn-image : (side : Side) (body image : Body)
        → IsBodyImage (points_by g m) B body image
        → HasTurn side p body
        → HasTurn side (image_by g m p) image
    turn-image side Over image rel h = subst (HasTurn side (image_by g m p)) (sym rel) tt
    turn-image side (Move point child) image rel h =
        subst (HasTurn side (image_by g m p)) (sym rel.2) h
    turn-image side (All replies) image rel h = subst (HasTurn side (image_by g m p)) (sym rel.2) h
    turn-image side (Pairs pairs) image rel h = subst (HasTurn side (image_by g m p)) (sym rel) tt
    turn-image side Potential image rel h = subst (HasTurn side (image_by g m p)) (sym rel) tt
    turn-image side (Trees with_e first second) image rel h =
        subst (HasTurn side (image_by g m p)) (sym rel) tt
    turn-image side (Cuts with_e first second) image rel h =
        subst (HasTurn side (image_by g m p)) (sym rel) tt
    turn-image side (Threat points) image rel h = subst (HasTurn side (image_by g m p)) (sym rel) h
    turn-image side (Weaker child) image rel h =
        subst (HasTurn side (image_by g m p)) (sym rel.2) tt

    replies-are : (replies images : List Reply)
        → AreReplyImages (points_by g m) B replies images
        → map (λ (r : Reply). r.point) replies ≡ free_points g p
        → map (λ (r : Reply). r.point) images ≡ free_points g (image_by g m p)
    replies-are replies images rel takes =
        let moved : map (λ (r : Reply). r.point) rel.mapped
        ≡ map (points_by g m) (free_points g p) =
        zip_map (IsReplyImage (points_by g m) B) (λ (r : Reply). points_by g m r.point)
        (λ (r : Reply). r.point) (λ r other one. one.point) replies rel.mapped rel.each
        ∙ sym (map-map (λ (r : Reply). r.point) (points_by g m) replies)
        ∙ ap (map (points_by g m)) takes in
        replies-image g (points_by g m) (points_by g (reverse_of m)) (onto g m fits) p
        (image_by g m p) (image-of g m fits p is) (map (λ (r : Reply). r.point) images)
        (subst (λ (vs : List ℕ). IsPermutation vs (map (λ (r : Reply). r.point) images)) moved
        (IsPermutation-map (λ (r : Reply). r.point) rel.mapped images rel.same))
        (pairs-map (λ (r : Reply). r.point) (λ a b. a < b) images rel.ascending)

    pub free-taken : (body image : Body)
        → IsBodyImage (points_by g m) B body image
        → TakesFree g p body
        → TakesFree g (image_by g m p) image
    free-taken Over image rel h = subst (TakesFree g (image_by g m p)) (sym rel) tt
    free-taken (Move point child) image rel h = subst (TakesFree g (image_by g m p)) (sym rel.2)
        ((onto g m fits).points.range point h.0, image-free g m fits p point is h.0 h.1)
    free-taken (All replies) image rel h =
        subst (TakesFree g (image_by g m p)) (sym rel.2) (replies-are replies rel.0 rel.1 h)
    free-taken (Pairs pairs) image rel h = subst (TakesFree g (image_by g m p)) (sym rel) tt
    free-taken Potential image rel h = subst (TakesFree g (image_by g m p)) (sym rel) tt
    free-taken (Trees with_e first second) image rel h =
        subst (TakesFree g (image_by g m p)) (sym rel) tt
    free-taken (Cuts with_e first second) image rel h =
        subst (TakesFree g (image_by g m p)) (sym rel) tt
    free-taken (Threat points) image rel h = subst (TakesFree g (image_by g m p)) (sym rel) tt
    free-taken (Weaker child) image rel h = subst (TakesFree g (image_by g m p)) (sym rel.2) tt

    pub ends-image : (side : Side) (goal : Goal) (body image : Body)
        → IsBodyImage (points_by g m) B body image
        → EndsRight g side goal p body
        → EndsRight g side goal (image_by g m p) image
    ends-image side goal body image rel h = by body rel h
      where
        over : is_over g (image_by g m p) ≡ is_over g p
        over = over-image g (points_by g m) (points_by g (reverse_of m)) (onto g m fits) p
            (image_by g m p) (image-of g m fits p is)

        by : (body : Body)
            → IsBodyImage (points_by g m) B body image
            → EndsRight g side goal p body
            → EndsRight g side goal (image_by g m p) image
        by Over rel h = subst (EndsRight g side goal (image_by g m p)) (sym rel) (
          over ∙ h.0,
          ap (reaches side goal)
              (outcome-image g (points_by g m) (points_by g (reverse_of m)) (onto g m fits) p
              (image_by g m p) (image-of g m fits p is))
              ∙ h.1,
        )
        by (Move point child) rel h =
            subst (EndsRight g side goal (image_by g m p)) (sym rel.2) (over ∙ h)
        by (All replies) rel h =
            subst (EndsRight g side goal (image_by g m p)) (sym rel.2) (over ∙ h)
        by (Pairs pairs) rel h = subst (EndsRight g side goal (image_by g m p)) (sym rel) tt
        by Potential rel h = subst (EndsRight g side goal (image_by g m p)) (sym rel) tt
        by (Trees with_e first second) rel h =
            subst (EndsRight g side goal (image_by g m p)) (sym rel) tt
        by (Cuts with_e first second) rel h =
            subst (EndsRight g side goal (image_by g m p)) (sym rel) tt
        by (Threat points) rel h = subst (EndsRight g side goal (image_by g m p)) (sym rel) tt
        by (Weaker child) rel h = subst (EndsRight g side goal (image_by g m p)) (sym rel.2) tt

    pub pairs-hold : (side : Side) (body image : Body)
        → IsBodyImage (points_by g m) B body image
        → HasPairs g side p body
        → HasPairs g side (image_by g m p) image
    pairs-hold side Over image rel h = subst (HasPairs g side (image_by g m p)) (sym rel) tt
    pairs-hold side (Move point child) image rel h =
        subst (HasPairs g side (image_by g m p)) (sym rel.2) tt
    pairs-hold side (All replies) image rel h =
        subst (HasPairs g side (image_by g m p)) (sym rel.2) tt
    pairs-hold side (Pairs pairs) image rel h = subst (HasPairs g side (image_by g m p)) (sym rel)
        (PairsHold-image g (points_by g m) (points_by g (reverse_of m)) (onto g m fits) p
        (image_by g m p) (image-of g m fits p is) side pairs h)
    pairs-hold side Potential image rel h = subst (HasPairs g side (image_by g m p)) (sym rel) tt
    pairs-hold side (Trees with_e first second) image rel h =
        subst (HasPairs g side (image_by g m p)) (sym rel) tt
    pairs-hold side (Cuts with_e first second) image rel h =
        subst (HasPairs g side (image_by g m p)) (sym rel) tt
    pairs-hold side (Threat points) image rel h =
        subst (HasPairs g side (image_by g m p)) (sym rel) tt
    pairs-hold side (Weaker child) image rel h =
        subst (HasPairs g side (image_by g m p)) (sym rel.2) tt

    potential-fits : (kind : Kind) (side : Side)
        → PotentialFits kind g p side
        → PotentialFits kind g (image_by g m p) side
    potential-fits MakerBreaker side h =
        PotentialHolds-image g (points_by g m) (points_by g (reverse_of m)) (onto g m fits) p
        (image_by g m p) (image-of g m fits p is) side h
    potential-fits MakerMaker side h =
        PotentialHolds-image g (points_by g m) (points_by g (reverse_of m)) (onto g m fits) p
        (image_by g m p) (image-of g m fits p is) side h
    potential-fits AvoiderEnforcer side h = AvoiderHolds-image g (points_by g m)
        (points_by g (reverse_of m)) (onto g m fits) p (image_by g m p) (image-of g m fits p is) h
    potential-fits Switching side h =
        PotentialHolds-image g (points_by g m) (points_by g (reverse_of m)) (onto g m fits) p
        (image_by g m p) (image-of g m fits p is) side h

    pub potential-holds : (side : Side) (body image : Body)
        → IsBodyImage (points_by g m) B body image
        → HasPotential g side p body
        → HasPotential g side (image_by g m p) image
    potential-holds side Over image rel h =
        subst (HasPotential g side (image_by g m p)) (sym rel) tt
    potential-holds side (Move point child) image rel h =
        subst (HasPotential g side (image_by g m p)) (sym rel.2) tt
    potential-holds side (All replies) image rel h =
        subst (HasPotential g side (image_by g m p)) (sym rel.2) tt
    potential-holds side (Pairs pairs) image rel h =
        subst (HasPotential g side (image_by g m p)) (sym rel) tt
    potential-holds side Potential image rel h =
        subst (HasPotential g side (image_by g m p)) (sym rel) (potential-fits g.kind side h)
    potential-holds side (Trees with_e first second) image rel h =
        subst (HasPotential g side (image_by g m p)) (sym rel) tt
    potential-holds side (Cuts with_e first second) image rel h =
        subst (HasPotential g side (image_by g m p)) (sym rel) tt
    potential-holds side (Threat points) image rel h =
        subst (HasPotential g side (image_by g m p)) (sym rel) tt
    potential-holds side (Weaker child) image rel h =
        subst (HasPotential g side (image_by g m p)) (sym rel.2) tt

    pub threat-holds : (side : Side) (body image : Body)
        → IsBodyImage (points_by g m) B body image
        → HasThreat g side p body
        → HasThreat g side (image_by g m p) image
    threat-holds side Over image rel h = subst (HasThreat g side (image_by g m p)) (sym rel) tt
    threat-holds side (Move point child) image rel h =
        subst (HasThreat g side (image_by g m p)) (sym rel.2) tt
    threat-holds side (All replies) image rel h =
        subst (HasThreat g side (image_by g m p)) (sym rel.2) tt
    threat-holds side (Pairs pairs) image rel h =
        subst (HasThreat g side (image_by g m p)) (sym rel) tt
    threat-holds side Potential image rel h = subst (HasThreat g side (image_by g m p)) (sym rel) tt
    threat-holds side (Trees with_e first second) image rel h =
        subst (HasThreat g side (image_by g m p)) (sym rel) tt
    threat-holds side (Cuts with_e first second) image rel h =
        subst (HasThreat g side (image_by g m p)) (sym rel) tt
    threat-holds side (Threat points) image rel h =
        subst (HasThreat g side (image_by g m p)) (sym rel)
        (IsThreatLine-image g (points_by g m) (points_by g (reverse_of m)) (onto g m fits) p
        (image_by g m p) (image-of g m fits p is) side points h)
    threat-holds side (Weaker child) image rel h =
        subst (HasThreat g side (image_by g m p)) (sym rel.2) tt

    -- trees and cuts stand in games on graphs alone
    pub trees-hold : (side : Side) (goal : Goal) (body image : Body)
        → is_allowed g.kind g.bias side goal body ≡ true
        → IsBodyImage (points_by g m) B body image
        → HasTrees g p body
        → HasTrees g (image_by g m p) image
    trees-hold side goal Over image ok rel h = subst (HasTrees g (image_by g m p)) (sym rel) tt
    trees-hold side goal (Move point child) image ok rel h =
        subst (HasTrees g (image_by g m p)) (sym rel.2) tt
    trees-hold side goal (All replies) image ok rel h =
        subst (HasTrees g (image_by g m p)) (sym rel.2) tt
    trees-hold side goal (Pairs pairs) image ok rel h =
        subst (HasTrees g (image_by g m p)) (sym rel) tt
    trees-hold side goal Potential image ok rel h = subst (HasTrees g (image_by g m p)) (sym rel) tt
    trees-hold side goal (Trees with_e first second) image ok rel h =
        let graph = g.fits.within.kind_fits ∙ trees_switching g.kind side ok in
        let one = set-stays graph first h.0.0 in
        let two = set-stays graph second h.0.1 in
        let same : image ≡ Trees with_e first second = rel ∙ (λ i. Trees with_e (one i) (two i)) in
        subst (HasTrees g (image_by g m p)) (sym same)
        (subst (λ (r : Position). HasTrees g r (Trees with_e first second))
        (sym (position-stays graph)) h)
    trees-hold side goal (Cuts with_e first second) image ok rel h =
        subst (HasTrees g (image_by g m p)) (sym rel) tt
    trees-hold side goal (Threat points) image ok rel h =
        subst (HasTrees g (image_by g m p)) (sym rel) tt
    trees-hold side goal (Weaker child) image ok rel h =
        subst (HasTrees g (image_by g m p)) (sym rel.2) tt

    pub cuts-hold : (side : Side) (goal : Goal) (body image : Body)
        → is_allowed g.kind g.bias side goal body ≡ true
        → IsBodyImage (points_by g m) B body image
        → HasCuts g p body
        → HasCuts g (image_by g m p) image
    cuts-hold side goal Over image ok rel h = subst (HasCuts g (image_by g m p)) (sym rel) tt
    cuts-hold side goal (Move point child) image ok rel h =
        subst (HasCuts g (image_by g m p)) (sym rel.2) tt
    cuts-hold side goal (All replies) image ok rel h =
        subst (HasCuts g (image_by g m p)) (sym rel.2) tt
    cuts-hold side goal (Pairs pairs) image ok rel h =
        subst (HasCuts g (image_by g m p)) (sym rel) tt
    cuts-hold side goal Potential image ok rel h = subst (HasCuts g (image_by g m p)) (sym rel) tt
    cuts-hold side goal (Trees with_e first second) image ok rel h =
        subst (HasCuts g (image_by g m p)) (sym rel) tt
    cuts-hold side goal (Cuts with_e first second) image ok rel h =
        let graph = g.fits.within.kind_fits ∙ cuts_switching g.kind side ok in
        let one = set-stays graph first h.0.0 in
        let two = set-stays graph second h.0.1 in
        let same : image ≡ Cuts with_e first second = rel ∙ (λ i. Cuts with_e (one i) (two i)) in
        subst (HasCuts g (image_by g m p)) (sym same)
        (subst (λ (r : Position). HasCuts g r (Cuts with_e first second))
        (sym (position-stays graph)) h)
    cuts-hold side goal (Threat points) image ok rel h =
        subst (HasCuts g (image_by g m p)) (sym rel) tt
    cuts-hold side goal (Weaker child) image ok rel h =
        subst (HasCuts g (image_by g m p)) (sym rel.2) tt

    -- ---- children, where each child below x becomes a node with the image of its position

    module _ (x : ℕ) (nodes others : List Node)
        (each : (j place : ℕ) → j < x
        → B j place
        → (n : Node) → slice_get nodes j ≡ Some n
        → IsNodeOf others place (image_by g m (position_of n))) where
      follows-one : (v j place : ℕ)
          → v < point_count g
          → is_free p v ≡ true
          → j < x
          → B j place
          → FollowsMove g nodes p v j
          → FollowsMove g others (image_by g m p) (points_by g m v) place
      follows-one v j place range free low becomes h = record {
        leads = λ lt still.
            let was = h.leads range free in
            let next = each j place low becomes was.node was.at in
            record {
              node = next.node;
              at = next.at;
              position = next.position
                  ∙ ap (image_by g m) was.position
                  ∙ image-after g m fits p v is range free;
            };
      }

      -- the reply takes a free point, and leads to the position behind it
      abbrev Leads : Reply → Type 0
      Leads r = (r.child < x)
          × (r.point < point_count g)
          × (is_free p r.point ≡ true)
          × FollowsMove g nodes p r.point r.child

      follow-replies : (replies images : List Reply)
          → AreReplyImages (points_by g m) B replies images
          → Each (λ (r : Reply). r.child < x) replies
          → map (λ (r : Reply). r.point) replies ≡ free_points g p
          → Each (λ (r : Reply). FollowsMove g nodes p r.point r.child) replies
          → Each (λ (r : Reply). FollowsMove g others (image_by g m p) r.point r.child) images
      follow-replies replies images rel low takes follow =
          All-permutation (λ (r : Reply). FollowsMove g others (image_by g m p) r.point r.child)
          rel.mapped images rel.same
          (zip_all (IsReplyImage (points_by g m) B) Leads
          (λ (r : Reply). FollowsMove g others (image_by g m p) r.point r.child) (λ r other one h.
          subst (λ v. FollowsMove g others (image_by g m p) v other.child) (sym one.point)
          (follows-one r.point r.child other.child h.1 h.2 h.0 one.child h.3)) replies rel.mapped
          rel.each (λ k d lt. (low k d lt, (taken k d lt).0, (taken k d lt).1, follow k d lt)))
        where
          taken : Each (λ (r : Reply). (r.point < point_count g) × (is_free p r.point ≡ true))
              replies
          taken = All-from_members
              (λ (r : Reply). (r.point < point_count g) × (is_free p r.point ≡ true)) replies
              (λ r c.
              let among = subst (λ (vs : List ℕ). Contains vs r.point) takes
              (Contains-map (λ (s : Reply). s.point) replies r c) in
              (member-within g p r.point among, member-free g p r.point among))

      pub follow-moves : (body image : Body)
          → IsBodyImage (points_by g m) B body image
          → NamesEarlier x body
          → TakesFree g p body
          → FollowMoves g nodes p body
          → FollowMoves g others (image_by g m p) image
      follow-moves Over image rel low takes h =
          subst (FollowMoves g others (image_by g m p)) (sym rel) tt
      follow-moves (Move point child) image rel low takes h =
          subst (FollowMoves g others (image_by g m p)) (sym rel.2)
          (follows-one point child rel.0 takes.0 takes.1 low rel.1 h)
      follow-moves (All replies) image rel low takes h =
          subst (FollowMoves g others (image_by g m p)) (sym rel.2)
          (follow-replies replies rel.0 rel.1 low takes h)
      follow-moves (Pairs pairs) image rel low takes h =
          subst (FollowMoves g others (image_by g m p)) (sym rel) tt
      follow-moves Potential image rel low takes h =
          subst (FollowMoves g others (image_by g m p)) (sym rel) tt
      follow-moves (Trees with_e first second) image rel low takes h =
          subst (FollowMoves g others (image_by g m p)) (sym rel) tt
      follow-moves (Cuts with_e first second) image rel low takes h =
          subst (FollowMoves g others (image_by g m p)) (sym rel) tt
      follow-moves (Threat points) image rel low takes h =
          subst (FollowMoves g others (image_by g m p)) (sym rel) tt
      follow-moves (Weaker child) image rel low takes h =
          subst (FollowMoves g others (image_by g m p)) (sym rel.2) tt

      pub weaker-holds : (side : Side) (positions : (j : ℕ) (n : Node) → slice_get nodes j ≡ Some n
          → IsPosition g (position_of n)) (body image : Body)
          → IsBodyImage (points_by g m) B body image
          → NamesEarlier x body
          → HasWeaker nodes side p body
          → HasWeaker others side (image_by g m p) image
      weaker-holds side positions Over image rel low h =
          subst (HasWeaker others side (image_by g m p)) (sym rel) tt
      weaker-holds side positions (Move point child) image rel low h =
          subst (HasWeaker others side (image_by g m p)) (sym rel.2) tt
      weaker-holds side positions (All replies) image rel low h =
          subst (HasWeaker others side (image_by g m p)) (sym rel.2) tt
      weaker-holds side positions (Pairs pairs) image rel low h =
          subst (HasWeaker others side (image_by g m p)) (sym rel) tt
      weaker-holds side positions Potential image rel low h =
          subst (HasWeaker others side (image_by g m p)) (sym rel) tt
      weaker-holds side positions (Trees with_e first second) image rel low h =
          subst (HasWeaker others side (image_by g m p)) (sym rel) tt
      weaker-holds side positions (Cuts with_e first second) image rel low h =
          subst (HasWeaker others side (image_by g m p)) (sym rel) tt
      weaker-holds side positions (Threat points) image rel low h =
          subst (HasWeaker others side (image_by g m p)) (sym rel) tt
      weaker-holds side positions (Weaker child) image rel low h =
          let next = each child rel.0 low rel.1 h.node h.at in
          let at = positions child h.node h.at in
          let r = position_of h.node in
          subst (HasWeaker others side (image_by g m p)) (sym rel.2) (record {
            node = next.node;
            at = next.at;
            no_worse =
                subst (λ (s : Position). IsNoWorse side s (image_by g m p)) (sym next.position)
                (IsNoWorse-image g (points_by g m) (points_by g (reverse_of m))
                (onto g m fits) side r p (image_by g m r) (image_by g m p) (image-of g m fits r at)
                (image-of g m fits p is) (image-is g m fits r at)
                (image-is g m fits p is) h.no_worse);
          })
