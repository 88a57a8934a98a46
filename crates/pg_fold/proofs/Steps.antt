-- One node more is folded.
use Rattle.std.proofs.Common.{◌≡◌, ℕ, ◌+◌, ◌<◌, ◌⊎◌, cond, List, [], ◌∷◌, ◌++◌, Option, Some, None}
use Rattle.std.proofs.Common.{length, take, get_or, refl, sym, ap, ◌∙◌, subst, subst₂, inl, inr}
use Rattle.std.proofs.Common.{arith, slice_get, Result, Ok, Err, OnOk}
use Rattle.pg_fold.proofs.Common.{cases_Bool, cond-true, cond-false, length_push, take_more}
use Rattle.pg_fold.proofs.Common.{slice_get_within, get_or_from_slice_get, at_old, at_new, at_push}
use Rattle.pg_fold.proofs.Common.{from_take, one_at, same_some, some≢none, IsClaim, IsNode}
use Rattle.pg_fold.proofs.Common.{position_of, IsValidClaim, Claim, Node, IsPosition}
use Rattle.pg_fold.proofs.Common.{equal_positions, equal_positions-decides, Game, Position}
use Rattle.pg_fold.proofs.Common.{ImageNode, Plain, Image, GridMap}
use Rattle.pg_cert.specs.declared.node_fault.NodeFault.TheVariants as faults
use Rattle.pg_fold.specs.Folded.{IsImageOf, BecomesNode, IsFoldedAt, IsFoldedClaim}
use Rattle.pg_fold.specs.Folded.{HaveDifferentPositions}
use Rattle.pg_fold.specs.Places.{AreAllFolded, AreFolded, ArePlaced, HaveDifferent, HavePositions}
use Rattle.pg_fold.specs.Places.{IsFirstOriginal}
use Rattle.pg_fold.specs.declared.original.Original.{Original}
use Rattle.pg_fold.proofs.Listing.{all_at, within_at}
use Rattle.pg_fold.proofs.Positions.{node-position}

module _ (g : Game) (nodes : List ImageNode) (x : ImageNode) where
  -- ---- what was folded stays so

  image-after_push : (p : Position) (j : ℕ) (m : GridMap)
      → IsImageOf g nodes p j m
      → IsImageOf g (nodes ++ x ∷ []) p j m
  image-after_push p j m is = record {
    usable = is.usable;
    node = is.node;
    at = at_old nodes x (Plain is.node) j is.at;
    image = is.image;
  }

  image-before_push : (p : Position) (j : ℕ) (m : GridMap)
      → IsImageOf g (nodes ++ x ∷ []) p j m
      → IsImageOf g nodes p j m ⊎ (j ≡ length nodes)
  image-before_push p j m is = elim (at_push nodes x (Plain is.node) j is.at) [
    | inl old ↦ inl (record { usable = is.usable; node = is.node; at = old; image = is.image })
    | inr new ↦ inr new.0
  ]

  becomes-push : (k : ℕ) (node : Node) (folded : ImageNode)
      → k < length nodes
      → BecomesNode g nodes k node folded
      → BecomesNode g (nodes ++ x ∷ []) k node folded
  becomes-push k node (Plain same) within is = (
    is.0,
    λ j m lt image. elim (image-before_push (position_of node) j m image) [
      | inl old ↦ is.1 j m lt old
      | inr new ↦ absurd (omega (arith, new, lt, within))
    ],
  )
  becomes-push k node (Image a b turn left m j) within is = (
    is.0,
    record {
      earlier = is.1.earlier;
      is = image-after_push (position_of node) j m is.1.is;
      first = λ i h image. elim (image-before_push (position_of node) i h image) [
        | inl old ↦ is.1.first i h old
        | inr new ↦ inl (let low = is.1.earlier in omega (arith, new, low, within))
      ];
    },
  )

  pub folded-push : (k : ℕ) (node : Node)
      → IsFoldedAt g nodes k node
      → IsFoldedAt g (nodes ++ x ∷ []) k node
  folded-push k node is = record {
    folded = is.folded;
    at = at_old nodes x is.folded k is.at;
    becomes = becomes-push k node is.folded (slice_get_within nodes k is.folded is.at) is.becomes;
  }

  -- and the new one is
  pub all-push : (before : List Node) (node : Node)
      → AreAllFolded g before nodes
      → BecomesNode g (nodes ++ x ∷ []) (length nodes) node x
      → AreAllFolded g (before ++ node ∷ []) (nodes ++ x ∷ [])
  all-push before node are becomes = record {
    count = omega (arith, are.count, length_push before node, length_push nodes x);
    each = λ k other at. elim (at_push before node other k at) [
      | inl old ↦ folded-push k other (are.each k other old)
      | inr new ↦
          let place : length nodes ≡ k = are.count ∙ sym new.0 in
          subst (λ (r : Node). IsFoldedAt g (nodes ++ x ∷ []) k r) new.1
          (subst (λ (i : ℕ). IsFoldedAt g (nodes ++ x ∷ []) i node) place (record {
            folded = x;
            at = at_new nodes x;
            becomes = becomes;
          }))
    ];
  }

-- a plain node was so before
pub was-plain : (g : Game) (before : List Node) (nodes : List ImageNode)
    → AreAllFolded g before nodes
    → (j : ℕ) (n : Node) → slice_get nodes j ≡ Some (Plain n)
    → slice_get before j ≡ Some n
was-plain g before nodes are j n at =
    let within : j < length before =
    omega (arith, slice_get_within nodes j (Plain n) at, are.count) in
    let was = within_at before j within in
    let is = are.each j was.0 was.1 in
    let becomes : BecomesNode g nodes j was.0 (Plain n) =
    subst (λ other. BecomesNode g nodes j was.0 other)
    (one_at nodes j is.folded (Plain n) is.at at) is.becomes in
    was.1 ∙ ap (λ (r : Node). Some r) (sym becomes.0)

-- so the plain nodes have positions of the game
pub plain-positions : (g : Game) (before : List Node) (node : Node) (nodes : List ImageNode)
    → AreAllFolded g before nodes
    → HaveDifferent g (before ++ node ∷ [])
    → HavePositions g nodes
plain-positions g before node nodes are have j n at =
    have.position j n (at_old before node n j (was-plain g before nodes are j n at))

pub last-position : (g : Game) (before : List Node) (node : Node)
    → HaveDifferent g (before ++ node ∷ [])
    → IsPosition g (position_of node)
last-position g before node have = have.position (length before) node (at_new before node)

-- ---- a node that is the image of an earlier one

plain≢image : (n : Node) (x : ImageNode)
    → x ≡ Plain n
    → (m : GridMap) (j : ℕ) (node : Node) → x ≡ Image node.x node.y node.turn node.left m j
    → ⊥
plain≢image n x e m j node f =
    let both : Plain n ≡ Image node.x node.y node.turn node.left m j = sym e ∙ f in
    cc

module _ (g : Game) (before : List Node) (node : Node) (known : Position → Option ℕ)
    (nodes : List ImageNode) (are : AreFolded g before known nodes) where
  pub image-step : (original : Original)
      → IsFirstOriginal g nodes (position_of node) (Some original)
      → (x : ImageNode) → x ≡ Image node.x node.y node.turn node.left original.map original.node
      → AreFolded g (before ++ node ∷ []) known (nodes ++ x ∷ [])
  image-step original is x form = record {
    all = all-push g nodes x before node are.all
        (subst (λ (y : ImageNode). BecomesNode g (nodes ++ x ∷ []) (length nodes) node y)
        (sym form) becomes);
    placed = record {
      found = λ p j at.
          let f = are.placed.found p j at in
          (f.0, at_old nodes x (Plain f.0) j f.1, f.2);
      placed = λ j n at. elim (at_push nodes x (Plain n) j at) [
        | inl old ↦ are.placed.placed j n old
        | inr new ↦ absurd (plain≢image n x new.1 original.map original.node node form)
      ];
    };
  }
    where
      within : original.node < length nodes
      within = slice_get_within nodes original.node (Plain is.0.node) is.0.at

      becomes : BecomesNode g (nodes ++ x ∷ []) (length nodes) node
          (Image node.x node.y node.turn node.left original.map original.node)
      becomes = (
        refl,
        record {
          earlier = within;
          is = image-after_push g nodes x (position_of node) original.node original.map is.0;
          first = λ i h image. elim (image-before_push g nodes x (position_of node) i h image) [
            | inl old ↦ is.1 i h old
            | inr new ↦ inl (subst (λ (k : ℕ). original.node < k) (sym new) within)
          ];
        },
      )

  -- ---- a node that stays

  pub plain-step : IsFirstOriginal g nodes (position_of node) None
      → HaveDifferent g (before ++ node ∷ [])
      → (behind : Position → Option ℕ) (number : ℕ) → number ≡ length nodes
      → ((p : Position)
      → behind p ≡ cond (equal_positions (position_of node) p) (Some number) (known p))
      → (same : Node) → same ≡ node
      → AreFolded g (before ++ node ∷ []) behind (nodes ++ Plain same ∷ [])
  plain-step none have behind number count updates same copied = record {
    all = all-push g nodes (Plain same) before node are.all becomes;
    placed = record { found = found; placed = placed };
  }
    where
      becomes : BecomesNode g (nodes ++ Plain same ∷ []) (length nodes) node (Plain same)
      becomes = (
        copied,
        λ j m lt image. elim (image-before_push g nodes (Plain same) (position_of node) j m image) [
          | inl old ↦ none j m old
          | inr new ↦ absurd (omega (arith, new, lt))
        ],
      )

      found : (p : Position) (j : ℕ)
          → behind p ≡ Some j
          → (n : Node) × (slice_get (nodes ++ Plain same ∷ []) j ≡ Some (Plain n))
          × (position_of n ≡ p)
      found p j at = elim (cases_Bool (equal_positions (position_of node) p)) [
        | inl on ↦
            let here = (equal_positions-decides (position_of node) p).0 on in
            let numbers : Some number ≡ Some j = sym (cond-true _ _ _ on) ∙ sym (updates p) ∙ at in
            let place : j ≡ length nodes = sym (same_some numbers) ∙ count in (
              same,
              ap (slice_get (nodes ++ Plain same ∷ [])) place ∙ at_new nodes (Plain same),
              ap (λ (n : Node). position_of n) copied ∙ here,
            )
        | inr off ↦
            let f = are.placed.found p j (sym (cond-false _ _ _ off) ∙ sym (updates p) ∙ at) in
            (f.0, at_old nodes (Plain same) (Plain f.0) j f.1, f.2)
      ]

      placed : (j : ℕ) (n : Node)
          → slice_get (nodes ++ Plain same ∷ []) j ≡ Some (Plain n)
          → behind (position_of n) ≡ Some j
      placed j n at = elim (at_push nodes (Plain same) (Plain n) j at) [
        | inl old ↦ elim (cases_Bool (equal_positions (position_of node) (position_of n))) [
          | inl on ↦
              let here = (equal_positions-decides (position_of node) (position_of n)).0 on in
              let was = at_old before node n j (was-plain g before nodes are.all j n old) in
              let place : j ≡ length before =
              have.different j (length before) n node was (at_new before node) (sym here) in
              absurd (omega (arith, place, are.all.count, slice_get_within nodes j (Plain n) old))
          | inr off ↦ updates (position_of n) ∙ cond-false _ _ _ off ∙ are.placed.placed j n old
        ]
        | inr new ↦
            let one : same ≡ n = let both : Plain same ≡ Plain n = new.1 in cc in
            let here : position_of node ≡ position_of n =
            ap (λ (r : Node). position_of r) (sym copied ∙ one) in
            updates (position_of n)
            ∙ cond-true _ _ _ ((equal_positions-decides (position_of node) (position_of n)).1 here)
            ∙ ap (λ (i : ℕ). Some i) (count ∙ sym new.0)
      ]

-- ---- lists of nodes

pub folded-none : (g : Game) (known : Position → Option ℕ)
    → ((p : Position) → known p ≡ None)
    → AreFolded g [] known []
folded-none g known none = record {
  all = record { count = refl; each = λ k n at. absurd (some≢none (sym at)) };
  placed = record {
    found = λ p j at. absurd (some≢none (sym at ∙ none p));
    placed = λ j n at. absurd (some≢none (sym at));
  };
}

have-take : (g : Game) (nodes : List Node) (i : ℕ)
    → HaveDifferent g nodes
    → HaveDifferent g (take i nodes)
have-take g nodes i have = record {
  position = λ k n at. have.position k n (from_take nodes i k n at).0;
  different = λ j k m n a b same. have.different j k m n (from_take nodes i j m a).0
      (from_take nodes i k n b).0 same;
}

-- one node more of a list
pub folded-step : (g : Game) (nodes : List Node) (i : ℕ) (n : Node)
    (known behind : Position → Option ℕ) (folded longer : List ImageNode)
    → slice_get nodes i ≡ Some n
    → HaveDifferent g nodes
    → ((before : List Node) → AreFolded g before known folded
    → HaveDifferent g (before ++ n ∷ [])
    → AreFolded g (before ++ n ∷ []) behind longer)
    → AreFolded g (take i nodes) known folded
    → AreFolded g (take (i + 1) nodes) behind longer
folded-step g nodes i n known behind folded longer at have step are =
    let here : get_or nodes i n ≡ n = get_or_from_slice_get nodes i n n at in
    let more = take_more nodes i n (slice_get_within nodes i n at)
    ∙ ap (λ (r : Node). take i nodes ++ r ∷ []) here in
    subst (λ (ns : List Node). AreFolded g ns behind longer) (sym more)
    (step (take i nodes) are (subst (HaveDifferent g) more (have-take g nodes (i + 1) have)))

-- ---- what one node's step leaves, as the code has it

module _ (g : Game) (before : List Node) (node : Node) (known : Position → Option ℕ)
    (nodes longer : List ImageNode) (p : Position) (is_its : p ≡ position_of node)
    (found : Option Original)
    (looked : (others : List ImageNode) → ArePlaced known others
    → HavePositions g others
    → IsPosition g p
    → IsFirstOriginal g others p found) (are : AreFolded g before known nodes)
    (have : HaveDifferent g (before ++ node ∷ [])) where
  answer : IsFirstOriginal g nodes (position_of node) found
  answer = subst (λ (q : Position). IsFirstOriginal g nodes q found) is_its
      (looked nodes are.placed (plain-positions g before node nodes are.all have)
      (subst (IsPosition g) (sym is_its) (last-position g before node have)))

  pub image-pushed : (original : Original) (x : ImageNode)
      → found ≡ Some original
      → x ≡ Image node.x node.y node.turn node.left original.map original.node
      → longer ≡ nodes ++ x ∷ []
      → AreFolded g (before ++ node ∷ []) known longer
  image-pushed original x is form pushed =
      subst (λ (xs : List ImageNode). AreFolded g (before ++ node ∷ []) known xs) (sym pushed)
      (image-step g before node known nodes are original
      (subst (IsFirstOriginal g nodes (position_of node)) is answer) x form)

  pub plain-pushed : (behind : Position → Option ℕ) (number : ℕ) (same : Node)
      → found ≡ None
      → number ≡ length nodes
      → ((q : Position) → behind q ≡ cond (equal_positions p q) (Some number) (known q))
      → same ≡ node
      → longer ≡ nodes ++ Plain same ∷ []
      → AreFolded g (before ++ node ∷ []) behind longer
  plain-pushed behind number same is count updates copied pushed =
      subst (λ (xs : List ImageNode). AreFolded g (before ++ node ∷ []) behind xs) (sym pushed)
      (plain-step g before node known nodes are
      (subst (IsFirstOriginal g nodes (position_of node)) is answer) have behind number count
      (subst (λ (r : Position). (q : Position)
      → behind q ≡ cond (equal_positions r q) (Some number) (known q)) is_its updates) same copied)

-- what follows from two promises of a call that may fail
pub on_ok_both : {T E P Q R : Type 0} (r : Result T E)
    → (P → Q → R)
    → OnOk r P
    → OnOk r Q
    → OnOk r R
on_ok_both (Ok x) both p q = both p q
on_ok_both (Err e) both p q = tt

-- ---- claims

-- the nodes of a valid claim within the limits have positions of the game
pub claim-different : (g : Game) (c : Claim)
    → IsValidClaim g c
    → IsClaim c
    → HaveDifferentPositions c.nodes
    → HaveDifferent g c.nodes
claim-different g c valid limits differ = record {
  position = λ k n at. node-position g n (all_at IsNode c.nodes k n at limits.nodes)
      (valid k n at faults.Marks).0;
  different = differ;
}

-- the claim of the folded nodes is the claim folded
pub claim-made : (g : Game) (c : Claim) (before : List Node) (made nodes : List ImageNode)
    → before ≡ c.nodes
    → nodes ≡ made
    → AreAllFolded g before made
    → IsFoldedClaim g c (record { turn = c.turn; side = c.side; goal = c.goal; nodes = nodes })
claim-made g c before made nodes same taken are =
    let here : AreAllFolded g c.nodes nodes =
    subst₂ (λ (ns : List Node) (xs : List ImageNode). AreAllFolded g ns xs) same (sym taken) are in
    record { turn = refl; side = refl; goal = refl; count = here.count; nodes = here.each }
