-- Copies of the nodes of a folded claim: where they settle, and the order of their places.
use Rattle.std.proofs.Common.{◌≡◌, ℕ, zero, suc, ◌+◌, ◌<◌, ◌≤◌, ◌⊎◌, List, Some, length, refl, sym}
use Rattle.std.proofs.Common.{ap, ◌∙◌, subst, inl, inr, arith, slice_get}
use Rattle.pg_fold.proofs.Common.{cases_lt, cases_eq, slice_get_within, AllZip, one_at, at_contains}
use Rattle.pg_fold.proofs.Common.{contains_at, IsClaim, IsNode, position_of, NamesEarlier, IsNodeOf}
use Rattle.pg_fold.proofs.Common.{IsValidClaim, Claim, Body, Over, Move, Pairs, Potential, Trees}
use Rattle.pg_fold.proofs.Common.{Cuts, Threat, Weaker, Node, Reply, Game, IsPosition, ImageClaim}
use Rattle.pg_fold.proofs.Common.{ImageNode, Plain, Image, identity, followed_by, Fits, board_of}
use Rattle.pg_fold.proofs.Common.{GridMap, Fits-followed, Fits-identity, Contains-map-from, Copy}
use Rattle.pg_fold.proofs.Common.{IsPlain, NamesChild, StandsFor, LeadsTo, IsAt, IsMetBy, IsMet}
use Rattle.pg_fold.proofs.Common.{SettlesBy, ComesBefore, AreCopies, IsPlaced, IsCopied}
use Rattle.pg_cert.specs.declared.node.Body.TheVariants.{All}
use Rattle.pg_cert.specs.declared.node_fault.NodeFault.TheVariants as faults
use Rattle.pg_fold.specs.Folded.{BecomesNode, IsFoldedClaim}
use Rattle.pg_fold.proofs.Listing.{all_at, within_at, pairs_at, zip_right}
use Rattle.pg_fold.proofs.Positions.{image_by, node-position, image-followed_by}

-- a child that the body names is earlier, where all are
pub named-earlier : (k : ℕ) (body : Body) (j : ℕ) → NamesEarlier k body → NamesChild body j → j < k
named-earlier k Over j all named = absurd named
named-earlier k (Move point child) j all named = subst (λ i. i < k) (sym named) all
named-earlier k (All replies) j all named =
    let from = Contains-map-from (λ (r : Reply). r.child) replies j named in
    let at = contains_at replies from.0 from.1 in
    subst (λ i. i < k) from.2 (all_at (λ (r : Reply). r.child < k) replies at.0 from.0 at.1 all)
named-earlier k (Pairs pairs) j all named = absurd named
named-earlier k Potential j all named = absurd named
named-earlier k (Trees with_e first second) j all named = absurd named
named-earlier k (Cuts with_e first second) j all named = absurd named
named-earlier k (Threat points) j all named = absurd named
named-earlier k (Weaker child) j all named = subst (λ i. i < k) (sym named) all

-- what stood at the place of a folded claim's node
pub record IsSource (g : Game) (c : Claim) (d : ImageClaim) (k : ℕ)
    (folded : ImageNode) : Type 0 where
  pub node : Node
  pub at : slice_get c.nodes k ≡ Some node
  pub becomes : BecomesNode g d.nodes k node folded

-- the copy settles at that of a plain node that is no later, and it is of the same position
pub record IsSettled (g : Game) (c : Claim) (d : ImageClaim) (k : ℕ) (m : GridMap)
    (plain : Copy) : Type 0 where
  pub low : plain.node ≤ k
  pub fits : Fits g plain.map
  pub node : Node
  pub plain_at : slice_get d.nodes plain.node ≡ Some (Plain node)
  pub at : slice_get c.nodes plain.node ≡ Some node
  pub same : (n : Node)
      → slice_get c.nodes k ≡ Some n
      → image_by g m (position_of n) ≡ image_by g plain.map (position_of node)

-- what the last node under the map that leaves every point settles at comes behind all other copies
-- of plain nodes that are met
pub record IsLastCopy (g : Game) (c : Claim) (d : ImageClaim) (last : ℕ)
    (plain : Copy) : Type 0 where
  pub settled : IsSettled g c d last identity plain
  pub met : IsMet d.nodes plain
  pub is_plain : IsAt d.nodes plain IsPlain
  pub low : (x : Copy)
      → IsMet d.nodes x
      → IsAt d.nodes x IsPlain
      → (x ≡ plain) ⊎ (x.node < plain.node)

module _ (g : Game) (c : Claim) (d : ImageClaim) (folded : IsFoldedClaim g c d)
    (valid : IsValidClaim g c) (limits : IsClaim c) where
  pub at_position : (k : ℕ) (n : Node) → slice_get c.nodes k ≡ Some n → IsPosition g (position_of n)
  at_position k n at =
      node-position g n (all_at IsNode c.nodes k n at limits.nodes) (valid k n at faults.Marks).0

  pub source : (k : ℕ) (node : ImageNode) → slice_get d.nodes k ≡ Some node → IsSource g c d k node
  source k node at =
      let within : k < length c.nodes =
      omega (arith, slice_get_within d.nodes k node at, folded.count) in
      let was = within_at c.nodes k within in
      let is = folded.nodes k was.0 was.1 in
      record {
        node = was.0;
        at = was.1;
        becomes = subst (λ other. BecomesNode g d.nodes k was.0 other)
            (one_at d.nodes k is.folded node is.at at) is.becomes;
      }

  pub plain_source : (k : ℕ) (node : Node)
      → slice_get d.nodes k ≡ Some (Plain node)
      → slice_get c.nodes k ≡ Some node
  plain_source k node at =
      let s = source k (Plain node) at in
      s.at ∙ ap (λ (n : Node). Some n) (sym s.becomes.0)

  -- ---- where copies settle

  at_plain : (k : ℕ) (m : GridMap) (plain : Copy) (node : ImageNode)
      → Fits g m
      → slice_get d.nodes k ≡ Some node
      → IsPlain node
      → plain ≡ record { node = k; map = m }
      → IsSettled g c d k m plain
  at_plain k m plain (Plain node) fits at is same =
      subst (λ (q : Copy). IsSettled g c d k m q) (sym same) (record {
        low = omega arith;
        fits = fits;
        node = node;
        plain_at = at;
        at = plain_source k node at;
        same = λ n there. ap (λ (q : Node). image_by g m (position_of q))
            (one_at c.nodes k n node there (plain_source k node at));
      })
  at_plain k m plain (Image x y turn left h j) fits at is same = absurd is

  at_image : (steps k : ℕ) (m : GridMap) (next plain : Copy) (node : ImageNode)
      → Fits g m
      → slice_get d.nodes k ≡ Some node
      → StandsFor node (record { node = k; map = m }) next
      → ((j : ℕ) (h : GridMap) → Fits g h
      → SettlesBy d.nodes steps (record { node = j; map = h }) plain
      → IsSettled g c d j h plain)
      → SettlesBy d.nodes steps next plain
      → IsSettled g c d k m plain
  at_image steps k m next plain (Plain node) fits at stands deeper by = absurd stands
  at_image steps k m next plain (Image x y turn left h j) fits at stands deeper by =
      let s = source k (Image x y turn left h j) at in
      let first = s.becomes.1 in
      let was = first.is in
      let child = plain_source j was.node was.at in
      let deep = deeper j (followed_by h m) (Fits-followed g h m was.usable.fits fits)
      (subst (λ (q : Copy). SettlesBy d.nodes steps q plain) stands by) in
      record {
        low = omega (arith, deep.low, first.earlier);
        fits = deep.fits;
        node = deep.node;
        plain_at = deep.plain_at;
        at = deep.at;
        same = λ n there.
            let here : position_of n ≡ image_by g h (position_of was.node) =
            ap (λ (q : Node). position_of q) (one_at c.nodes k n s.node there s.at) ∙ was.image in
            ap (image_by g m) here
            ∙ image-followed_by g h m (position_of was.node) was.usable.fits fits
            (at_position j was.node child)
            ∙ deep.same was.node child;
      }

  pub settles-at : (steps k : ℕ) (m : GridMap) (plain : Copy)
      → Fits g m
      → SettlesBy d.nodes steps (record { node = k; map = m }) plain
      → IsSettled g c d k m plain
  settles-at zero k m plain fits by = at_plain k m plain by.0.node fits by.0.at by.0.holds by.1
  settles-at (suc steps) k m plain fits by = at_image steps k m by.0 plain by.1.node fits by.1.at
      by.1.holds (λ j h whole further. settles-at steps j h plain whole further) by.2

  -- ---- copies that are met

  leads-fits : (before x : Copy) (node : ImageNode)
      → Fits g before.map
      → slice_get d.nodes before.node ≡ Some node
      → LeadsTo node before x
      → Fits g x.map
  leads-fits before x (Plain node) fits at leads = subst (Fits g) (sym leads.1) fits
  leads-fits before x (Image a b turn left h j) fits at leads =
      let s = source before.node (Image a b turn left h j) at in
      subst (λ (q : Copy). Fits g q.map) (sym leads)
      (Fits-followed g h before.map s.becomes.1.is.usable.fits fits)

  pub met-fits : (steps : ℕ) (x : Copy) → IsMetBy d.nodes steps x → Fits g x.map
  met-fits zero x by = subst (Fits g) (sym by.1) (Fits-identity g)
  met-fits (suc steps) x by =
      leads-fits by.0 x by.2.node (met-fits steps by.0 by.1) by.2.at by.2.holds

  leads-down : (before x : Copy) (node : ImageNode)
      → slice_get d.nodes before.node ≡ Some node
      → LeadsTo node before x
      → x.node < before.node
  leads-down before x (Plain node) at leads =
      let sound = valid before.node node (plain_source before.node node at) in
      named-earlier before.node node.body x.node (sound faults.Child (sound faults.Body)) leads.0
  leads-down before x (Image a b turn left h j) at leads =
      let s = source before.node (Image a b turn left h j) at in
      subst (λ (q : Copy). q.node < before.node) (sym leads) s.becomes.1.earlier

  -- below what the root leads to
  met-low : (root plain : Copy)
      → root.node + 1 ≡ length d.nodes
      → root.map ≡ identity
      → ((x : Copy) → IsAt d.nodes root (λ node. LeadsTo node root x)
      → (x ≡ plain) ⊎ (x.node < plain.node))
      → (steps : ℕ) (x : Copy) → IsMetBy d.nodes steps x
      → (x ≡ root) ⊎ ((x ≡ plain) ⊎ (x.node < plain.node))
  met-low root plain last stays leads zero x by =
      let node : x.node ≡ root.node = omega (arith, last, by.0) in
      let map_of : x.map ≡ root.map = by.1 ∙ sym stays in
      inl (λ i. record { node = node i; map = map_of i })
  met-low root plain last stays leads (suc steps) x by =
      elim (met-low root plain last stays leads steps by.0 by.1) [
        | inl same ↦ inr
            (leads x (subst (λ (q : Copy). IsAt d.nodes q (λ node. LeadsTo node q x)) same by.2))
        | inr deep ↦ let lower = leads-down by.0 x by.2.node by.2.at by.2.holds in
            elim deep [
              | inl same ↦ inr (inr (subst (λ (q : Copy). x.node < q.node) same lower))
              | inr low ↦ inr (inr (omega (arith, low, lower)))
            ]
      ]

  last_by : (last : ℕ) (node : ImageNode)
      → last + 1 ≡ length d.nodes
      → slice_get d.nodes last ≡ Some node
      → (plain : Copy) × IsLastCopy g c d last plain
  last_by last (Plain node) count at =
      let root : Copy = record { node = last; map = identity } in
      let here : IsAt d.nodes root IsPlain = record { node = Plain node; at = at; holds = tt } in (
        root,
        record {
          settled = at_plain last identity root (Plain node) (Fits-identity g) at tt refl;
          met = (0, (count, refl));
          is_plain = here;
          low = λ x met is. elim (met-low root root count refl
              (λ y leads. inr (leads-down root y leads.node leads.at leads.holds)) met.0 x met.1) [
                | inl same ↦ inl same
                | inr deep ↦ deep
              ];
        },
      )
  last_by last (Image a b turn left h j) count at =
      let root : Copy = record { node = last; map = identity } in
      let plain : Copy = record { node = j; map = followed_by h identity } in
      let s = source last (Image a b turn left h j) at in
      let was = s.becomes.1.is in
      let there : IsAt d.nodes plain IsPlain = record {
        node = Plain was.node;
        at = was.at;
        holds = tt;
      } in
      let stands : IsAt d.nodes root (λ node. StandsFor node root plain) = record {
        node = Image a b turn left h j;
        at = at;
        holds = refl;
      } in
      let leads : IsAt d.nodes root (λ node. LeadsTo node root plain) = record {
        node = Image a b turn left h j;
        at = at;
        holds = refl;
      } in (
        plain,
        record {
          settled =
              settles-at 1 last identity plain (Fits-identity g) (plain, stands, (there, refl));
          met = (1, (root, (count, refl), leads));
          is_plain = there;
          low = λ x met is. elim (met-low root plain count refl
              (λ y next. inl (subst (λ (node : ImageNode). LeadsTo node root y)
              (one_at d.nodes last next.node (Image a b turn left h j) next.at at) next.holds))
              met.0 x met.1) [
                | inl same ↦ absurd
                    (subst IsPlain (one_at d.nodes last is.node (Image a b turn left h j)
                    (ap (λ (q : Copy). slice_get d.nodes q.node) (sym same) ∙ is.at) at) is.holds)
                | inr deep ↦ deep
              ];
        },
      )

  pub last_copy : (last : ℕ)
      → last + 1 ≡ length d.nodes
      → (plain : Copy) × IsLastCopy g c d last plain
  last_copy last count =
      let there = within_at d.nodes last (omega (arith, count)) in
      last_by last there.0 count there.1

  -- ---- places

  module _ (copies : List Copy) (are : AreCopies d.nodes copies) where
    comes-back : (a b : Copy) → ComesBefore b a → a.node < b.node → ⊥
    comes-back a b (inl low) lt = omega (arith, low, lt)
    comes-back a b (inr same) lt = omega (arith, same.0, lt)

    -- a copy of a lower node has a lower place
    pub lower-place : (a b : Copy) (i j : ℕ)
        → slice_get copies i ≡ Some a
        → slice_get copies j ≡ Some b
        → a.node < b.node
        → i < j
    lower-place a b i j here there lt = elim (cases_lt i j) [
      | inl low ↦ low
      | inr high ↦ elim (cases_eq i j) [
        | inl same ↦
            let one : a ≡ b = one_at copies i a b here (ap (slice_get copies) same ∙ there) in
            let node : a.node ≡ b.node = ap (λ (q : Copy). q.node) one in
            absurd (omega (arith, node, lt))
        | inr apart ↦
            absurd (comes-back a b (pairs_at ComesBefore copies j i b a there here (omega (
              arith,
              high,
              apart,
            )) are.ascending) lt)
      ]
    ]

    -- at the last place stands what the root settles at
    pub last-place : (last : ℕ) (plain : Copy) (k : ℕ) (x : Copy)
        → IsLastCopy g c d last plain
        → k + 1 ≡ length copies
        → slice_get copies k ≡ Some x
        → x ≡ plain
    last-place last plain k x is count at =
        let held = at_contains copies k x at in
        let met = are.met x held in
        let there = contains_at copies plain (are.all plain is.met is.is_plain) in
        elim (is.low x met.0 met.1) [
          | inl same ↦ same
          | inr low ↦
              let later = lower-place x plain k there.0 at there.1 low in
              let within = slice_get_within copies there.0 plain there.1 in
              absurd (omega (arith, later, within, count))
        ]

    -- what a child of a copy becomes: an earlier node with the image of the child's position
    pub child-placed : (nodes : List Node)
        → AllZip (IsCopied (board_of g.field) d.nodes copies) copies nodes
        → (k : ℕ) (x : Copy) → slice_get copies k ≡ Some x
        → Fits g x.map
        → (j place : ℕ) → j < x.node
        → IsPlaced d.nodes copies (record { node = j; map = x.map }) place
        → (place < k)
        × ((n : Node) → slice_get c.nodes j ≡ Some n
        → IsNodeOf nodes place (image_by g x.map (position_of n)))
    child-placed nodes zip k x here fits j place lower placed =
        let s = settles-at placed.settles.0 j x.map placed.plain fits placed.settles.1 in
        let made = zip_right (IsCopied (board_of g.field) d.nodes copies) copies nodes place
        placed.plain placed.at zip in
        let same = one_at c.nodes placed.plain.node made.2.source s.node
        (plain_source placed.plain.node made.2.source made.2.at) s.at in (
          lower-place placed.plain x place k placed.at here (omega (arith, s.low, lower)),
          λ n at. record {
            node = made.0;
            at = made.1;
            position = made.2.position
                ∙ ap (λ (q : Node). image_by g placed.plain.map (position_of q)) same
                ∙ sym (s.same n at);
          },
        )
