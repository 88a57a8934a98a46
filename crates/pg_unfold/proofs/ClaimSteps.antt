-- A sound claim, unfolded.
use Rattle.std.proofs.Common.{◌≡◌, ℕ, zero, suc, ◌-◌, ◌<◌, ◌≤◌, Bool, true, List, [], ◌∷◌, map}
use Rattle.std.proofs.Common.{length, get_or, refl, sym, ap, subst, inl, inr, arith}
use Rattle.pg_unfold.proofs.Common.{AllZip, Contains, cases_lt, All-cons, All-nil, All-contains}
use Rattle.pg_unfold.proofs.Common.{slice_get_within, slice_get-get_or, IsNode, Claim, Node, Game}
use Rattle.pg_unfold.proofs.Common.{Contains-head, Contains-tail, IsImageNode, IsImageClaim}
use Rattle.pg_unfold.proofs.Common.{ImageClaim, ImageNode, Plain, Image, identity, Fits, board_of}
use Rattle.pg_unfold.proofs.Common.{Fits-identity, Fits-followed, cells, IsMarked}
use Rattle.std.specs.List.{All as Each}
use Rattle.pg_game.proofs.Limits.{point_count-le}
use Rattle.pg_unfold.specs.Copies.{Copy, LeadsTo, IsMet, IsMetBy, AreCopies}
use Rattle.pg_unfold.specs.Flaws.{IsSoundClaim, HasUsable, HasSize}
use Rattle.pg_unfold.specs.Gathered.{IsTaken, IsTooMuch}
use Rattle.pg_unfold.specs.Marks.{key_of, copy_at, AreEarlier, AreMet, ArePlaces, IsBoardMap}
use Rattle.pg_unfold.specs.Marks.{AreBoardMaps, copies_of}
use Rattle.pg_unfold.specs.Unfolded.{BecomesUnder, IsCopied}
use Rattle.pg_unfold.specs.declared.flaw.Flaw.TheVariants as flaws
use Rattle.pg_unfold.proofs.CopyLimits.{IsNode-image}
use Rattle.pg_unfold.proofs.Placing.{AreCopies-of, Contains-at}

pub zip-length : {A B : Type 0} (R : A → B → Type 0) (xs : List A) (ys : List B)
    → AllZip R xs ys
    → length xs ≡ length ys
zip-length R [] [] h = refl
zip-length R [] (y ∷ ys) h = absurd h
zip-length R (x ∷ xs) [] h = absurd h
zip-length R (x ∷ xs) (y ∷ ys) h = ap suc (zip-length R xs ys h.1)

zip-all : {A B : Type 0} (R : A → B → Type 0) (P : B → Type 0) (xs : List A) (ys : List B)
    → ((x : A) (y : B) → Contains xs x → R x y → P y)
    → AllZip R xs ys
    → Each P ys
zip-all R P [] [] each h = All-nil P
zip-all R P [] (y ∷ ys) each h = absurd h
zip-all R P (x ∷ xs) [] each h = absurd h
zip-all R P (x ∷ xs) (y ∷ ys) each h = All-cons P y ys (each x y (Contains-head x xs) h.0)
    (zip-all R P xs ys (λ a b has r. each a b (Contains-tail x a xs has) r) h.1)

module _ (g : Game) (c : ImageClaim) (sound : IsSoundClaim g c) where
  pub AreEarlier-sound : AreEarlier c.nodes
  AreEarlier-sound k node at = sound k node at flaws.Child

  leads-fit : (node : ImageNode) (b next : Copy)
      → HasUsable g node
      → LeadsTo node b next
      → Fits g b.map
      → Fits g next.map
  leads-fit (Plain node) b next usable leads fits = subst (Fits g) (sym leads.1) fits
  leads-fit (Image x y turn left m child) b next usable leads fits =
      subst (λ (d : Copy). Fits g d.map) (sym leads) (Fits-followed g m b.map usable.fits fits)

  -- every map under which a node is met fits
  fits-met : (n : ℕ) (d : Copy) → IsMetBy c.nodes n d → Fits g d.map
  fits-met zero d met = subst (Fits g) (sym met.1) (Fits-identity g)
  fits-met (suc n) d met = leads-fit met.2.node met.0 d
      (sound met.0.node met.2.node met.2.at flaws.Map) met.2.holds (fits-met n met.0 met.1)

  board-met : (d : Copy) → IsMet c.nodes d → IsBoardMap (board_of g.field) d.map
  board-met d met = record {
    is_map = (fits-met met.0 d met.1).is_map;
    few = λ grid has.
        let count = cells g grid has in
        let few = point_count-le g in
        omega (arith, count, few);
  }

  pub AreBoardMaps-sound : (marks : List Bool)
      → AreMet c.nodes marks
      → AreBoardMaps (board_of g.field) marks
  AreBoardMaps-sound marks met key on = board-met (copy_at key) (met.sound key on)

  module _ (limits : IsImageClaim c) (copies : List Copy) (are : AreCopies c.nodes copies)
      (few : length copies ≤ 100000) where
    pub copy-limits : (d : Copy) (image : Node)
        → Contains copies d
        → IsCopied (board_of g.field) c.nodes copies d image
        → IsNode image
    copy-limits d image has h = IsNode-image (board_of g.field) d.map
        (board-met d (are.met d has).0) (BecomesUnder c.nodes copies d)
        (λ child place placed. let lt = slice_get_within copies place placed.plain placed.at in
        omega (arith, lt, few)) h.source image
        (All-contains IsImageNode c.nodes (Plain h.source) limits.nodes
        (Contains-at c.nodes d.node (Plain h.source) h.at)) h.position h.body

    pub nodes-limits : (nodes : List Node)
        → AllZip (IsCopied (board_of g.field) c.nodes copies) copies nodes
        → Each IsNode nodes
    nodes-limits nodes h =
        zip-all (IsCopied (board_of g.field) c.nodes copies) IsNode copies nodes copy-limits h

-- at least one copy is met: that at which the root settles
pub some-copies : (c : ImageClaim)
    → IsImageClaim c
    → (marks : List Bool) → AreMet c.nodes marks
    → (places : List ℕ) → ArePlaces c.nodes marks places
    → 0 < length (copies_of c.nodes marks)
some-copies c limits marks met places placed =
    let some = limits.some in
    let root : Copy = record { node = length c.nodes - 1; map = identity } in
    let on : IsMarked marks (key_of root) = met.complete root (0, (omega (arith, some), refl)) in
    let lt : key_of root < length places =
    (let within = slice_get_within marks (key_of root) true on in
    let whole = placed.whole in omega (arith, within, whole)) in
    let there = placed.each (key_of root) (get_or places (key_of root) 0) on
    (slice_get-get_or places (key_of root) 0 lt) in
    let within = slice_get_within (copies_of c.nodes marks)
    (get_or places (key_of root) 0) there.plain there.at in
    omega (arith, within)

pub HasSize-of : (c : ImageClaim) (marks : List Bool)
    → AreMet c.nodes marks
    → HasSize c (length (copies_of c.nodes marks))
HasSize-of c marks met = record {
  copies = copies_of c.nodes marks;
  are = AreCopies-of c.nodes marks met;
  counted = refl;
}

-- what is found of a claim's nodes, in one fact
pub record AreFound (g : Game) (marks : List Bool) (places origins : List ℕ) (copied : List Node)
    (nodes : List ImageNode) : Type 0 where
  pub met : AreMet nodes marks
  pub placed : ArePlaces nodes marks places
  pub each : AllZip (IsCopied (board_of g.field) nodes (copies_of nodes marks))
      (copies_of nodes marks) copied
  pub came : origins ≡ map (λ c. c.node) (copies_of nodes marks)

pub taken-from : (g : Game) (c : ImageClaim)
    → IsSoundClaim g c
    → IsImageClaim c
    → (marks : List Bool) (places origins : List ℕ) (copied : List Node)
    → AreFound g marks places origins copied c.nodes
    → (room : ℕ) → length (copies_of c.nodes marks) ≤ 100000
    → length (copies_of c.nodes marks) ≤ room
    → (claim : Claim) → claim.turn ≡ c.turn
    → claim.side ≡ c.side
    → claim.goal ≡ c.goal
    → claim.nodes ≡ copied
    → IsTaken g c claim origins room
taken-from g c sound limits marks places origins copied h room few within claim turn side goal
    nodes =
    let copies = copies_of c.nodes marks in
    let are = AreCopies-of c.nodes marks h.met in
    let each =
    subst (AllZip (IsCopied (board_of g.field) c.nodes copies) copies) (sym nodes) h.each in
    let count = zip-length (IsCopied (board_of g.field) c.nodes copies) copies claim.nodes each in
    let some = some-copies c limits marks h.met places h.placed in
    record {
      unfolded = record {
        turn = turn;
        side = side;
        goal = goal;
        copies = copies;
        are = are;
        nodes = each;
        came = h.came;
      };
      limits = record {
        some = omega (arith, some, count);
        few = omega (arith, few, count);
        nodes = nodes-limits g c sound limits copies are few claim.nodes each;
      };
      few = omega (arith, few, count);
      within = omega (arith, within, count);
    }

pub too_much-from : (c : ImageClaim) (marks : List Bool)
    → AreMet c.nodes marks
    → (count room : ℕ) → count ≡ length (copies_of c.nodes marks)
    → ((count ≤ 100000) × (count ≤ room) → ⊥)
    → IsTooMuch c room
too_much-from c marks met count room is full = record {
  size = count;
  is = subst (HasSize c) (sym is) (HasSize-of c marks met);
  much = elim (cases_lt 100000 count) [
    | inl many ↦ inl many
    | inr le ↦ elim (cases_lt room count) [
      | inl over ↦ inr over
      | inr low ↦ absurd (full (le, low))
    ]
  ];
}
