-- The nodes of an unfolded claim that come from copies, and its last one.
use Rattle.std.proofs.Common.{◌≡◌, ℕ, zero, suc, ◌+◌, ◌-◌, ◌<◌, true, List, [], ◌∷◌, length, get_or}
use Rattle.std.proofs.Common.{Some, slice_get, refl, sym, ap, ◌∙◌, subst, inl, inr, arith}
use Rattle.std.specs.Prelude.{option_map}
use Rattle.pg_unfold.proofs.Common.{FinSet, contains, AllZip, Contains, nat_cmp, cases_lt}
use Rattle.pg_unfold.proofs.Common.{All-contains, Contains-get_or, slice_get-get_or, slice_get-map}
use Rattle.pg_unfold.proofs.Common.{slice_get_within, get_or_from_slice_get, ArePoints, position_of}
use Rattle.pg_unfold.proofs.Common.{Claim, Node, Game, IsImageNode, IsImageClaim, ImageClaim, Plain}
use Rattle.pg_unfold.proofs.Common.{number_of, identity, board_of, image_on, image_position}
use Rattle.pg_unfold.proofs.Common.{image_set, image_on-identity, image_set-from}
use Rattle.pg_unfold.specs.Copies.{Copy, IsMet, IsMetBy, ComesBefore}
use Rattle.pg_unfold.specs.Flaws.{IsSoundClaim}
use Rattle.pg_unfold.specs.Unfolded.{IsCopied, IsUnfolded, HasImage, HasRootAt}
use Rattle.pg_unfold.proofs.ClaimSteps.{AreEarlier-sound, zip-length}
use Rattle.pg_unfold.proofs.Handing.{leads-earlier}
use Rattle.pg_unfold.proofs.Placing.{Contains-at}

-- the member of the one list at the place of a member of the other
zip-at : {A B : Type 0} (R : A → B → Type 0) (xs : List A) (ys : List B) (i : ℕ) (x : A)
    → AllZip R xs ys
    → slice_get xs i ≡ Some x
    → (y : B) × (slice_get ys i ≡ Some y) × R x y
zip-at R [] [] i x h at = absurd cc
zip-at R [] (y ∷ ys) i x h at = absurd h
zip-at R (a ∷ xs) [] i x h at = absurd h
zip-at R (a ∷ xs) (y ∷ ys) zero x h at =
    let e : Some a ≡ Some x = at in
    let same : a ≡ x = cc in
    (y, refl, subst (λ b. R b y) same h.0)
zip-at R (a ∷ xs) (y ∷ ys) (suc i) x h at = zip-at R xs ys i x h.1 at

at-member : {A : Type 0} (xs : List A) (x : A) → (c : Contains xs x) → slice_get xs c.0 ≡ Some x
at-member xs x c = slice_get-get_or xs c.0 x c.1 ∙ ap Some c.2

module _ (g : Game) (c : ImageClaim) (claim : Claim) (origins : List ℕ)
    (h : IsUnfolded g c claim origins) where
  image-at : (place : ℕ) (copy : Copy) (node : Node)
      → slice_get h.copies place ≡ Some copy
      → slice_get c.nodes copy.node ≡ Some (Plain node)
      → (image : Node) × (slice_get claim.nodes place ≡ Some image)
      × (position_of image
      ≡ image_position (image_on (board_of g.field) copy.map) (position_of node))
  image-at place copy node there at =
      let found = zip-at (IsCopied (board_of g.field) c.nodes h.copies) h.copies claim.nodes place
      copy h.nodes there in
      let copied = found.2 in
      let same : Some (Plain copied.source) ≡ Some (Plain node) = sym copied.at ∙ at in
      let source : copied.source ≡ node = cc in (
        found.0,
        found.1,
        copied.position
            ∙ ap (λ (n : Node).
            image_position (image_on (board_of g.field) copy.map) (position_of n)) source,
      )

  pub HasImage-copy : (copy : Copy) (node : Node)
      → IsMet c.nodes copy
      → slice_get c.nodes copy.node ≡ Some (Plain node)
      → HasImage g claim origins copy node
  HasImage-copy copy node met at =
      let has = h.are.all copy met (record { node = Plain node; at = at; holds = tt }) in
      let there = at-member h.copies copy has in
      let found = image-at has.0 copy node there at in
      record {
        place = has.0;
        image = found.0;
        at = found.1;
        from = ap (λ (os : List ℕ). slice_get os has.0) h.came
            ∙ slice_get-map (λ (d : Copy). d.node) h.copies has.0
            ∙ ap (option_map (λ (d : Copy). d.node)) there;
        position = found.2;
      }

  -- a set and a position stay where every point does
  set-stays : (s : FinSet nat_cmp)
      → ArePoints s
      → image_set (image_on (board_of g.field) identity) s ≡ s
  set-stays s are = sym (image_set-from (image_on (board_of g.field) identity) s s are
      (λ v on. subst (λ w. contains s w ≡ true) (sym (image_on-identity (board_of g.field) v)) on)
      (λ w on. (w, on, image_on-identity (board_of g.field) w)))

  module _ (limits : IsImageClaim c) (sound : IsSoundClaim g c) where
    -- only the root is met at the last node
    lower : (n : ℕ) (d : Copy)
        → IsMetBy c.nodes n d
        → (d.node + 1 ≡ length c.nodes → d.map ≡ identity) × (d.node < length c.nodes)
    lower zero d met =
        let some = limits.some in
        (λ last. met.1, let e = met.0 in omega (arith, e, some))
    lower (suc n) d met =
        let before : Copy = met.0 in
        let within = slice_get_within c.nodes before.node met.2.node met.2.at in
        let down = leads-earlier met.2.node before.node before d
        (AreEarlier-sound g c sound before.node met.2.node met.2.at) met.2.holds in
        (λ last. absurd (omega (arith, within, down, last)), omega (arith, within, down))

    pub HasRootAt-plain : (root : Node)
        → slice_get c.nodes (length c.nodes - 1) ≡ Some (Plain root)
        → HasRootAt claim (position_of root)
    HasRootAt-plain root at =
        let some = limits.some in
        let copy : Copy = record { node = length c.nodes - 1; map = identity } in
        let has = h.are.all copy (0, (omega (arith, some), refl)) (record {
          node = Plain root;
          at = at;
          holds = tt;
        }) in
        let there = at-member h.copies copy has in
        let found = image-at has.0 copy root there at in
        let count =
        zip-length (IsCopied (board_of g.field) c.nodes h.copies) h.copies claim.nodes h.nodes in
        let node = All-contains IsImageNode c.nodes (Plain root) limits.nodes
        (Contains-at c.nodes (length c.nodes - 1) (Plain root) at) in
        let stays : image_position (image_on (board_of g.field) identity) (position_of root)
        ≡ position_of root = λ i. record {
          x = set-stays root.x node.x i;
          y = set-stays root.y node.y i;
          turn = root.turn;
          left = root.left;
        } in
        record {
          last = has.0;
          is_last = elim (cases_lt (has.0 + 1) (length h.copies)) [
            | inl more ↦ absurd (after has.0 there more)
            | inr end ↦ let inside = has.1 in omega (arith, end, inside, count)
          ];
          image = found.0;
          at = found.1;
          position = found.2 ∙ stays;
        }
      where
        -- no copy comes after the root
        after : (i : ℕ)
            → slice_get h.copies i ≡ Some (record { node = length c.nodes - 1; map = identity })
            → i + 1 < length h.copies
            → ⊥
        after i there more =
            let copy : Copy = record { node = length c.nodes - 1; map = identity } in
            let next : Copy = get_or h.copies (i + 1) copy in
            let here : get_or h.copies i copy ≡ copy =
            get_or_from_slice_get h.copies i copy copy there in
            let met = (h.are.met next (Contains-get_or h.copies (i + 1) copy more)).0 in
            let low = lower met.0 next met.1 in
            let bound = low.1 in
            let some = limits.some in
            let order : ComesBefore copy next = subst (λ (d : Copy). ComesBefore d next) here
            (h.are.ascending i (i + 1) copy (omega arith) more) in
            elim order [
              | inl less ↦ omega (arith, less, bound, some)
              | inr tie ↦
                  let node = tie.0 in
                  let same : next.map ≡ identity = low.0 (omega (arith, node, some)) in
                  let number = ap number_of same in
                  let greater = tie.1 in
                  omega (arith, number, greater)
            ]
