-- The first known node of which another is the image.
use Rattle.std.proofs.Common.{◌≡◌, ℕ, ◌+◌, ◌<◌, ◌≤◌, ◌⊎◌, Bool, true, false, List, [], ◌∷◌, ◌++◌}
use Rattle.std.proofs.Common.{Option, Some, None, length, take, get_or, refl, sym, ap, ◌∙◌, subst}
use Rattle.std.proofs.Common.{subst₂, inl, inr, arith, slice_get, nat_le, if◌then◌else◌}
use Rattle.pg_fold.proofs.Common.{cases_Bool, cases_lt, leb-true, leb-false, take_more}
use Rattle.pg_fold.proofs.Common.{slice_get_within, get_or_from_slice_get, All-nil, All, AllPairs}
use Rattle.pg_fold.proofs.Common.{Contains, contains_push, contains_old, at_contains, at_new}
use Rattle.pg_fold.proofs.Common.{contains_at, from_take, same_some, some≢none, Grid, position_of}
use Rattle.pg_fold.proofs.Common.{IsPosition, Game, Position, ImageNode, image_of, number_of}
use Rattle.pg_fold.proofs.Common.{reverse_of, Fits, board_of, image_on, image_position, GridMap}
use Rattle.pg_fold.proofs.Common.{Fits-reverse}
use Rattle.pg_fold.specs.Folded.{IsImageOf}
use Rattle.pg_fold.specs.Places.{IsNoEarlier, IsEarliest, ArePlaced, HavePositions, IsFirstOriginal}
use Rattle.pg_fold.specs.Places.{earlier}
use Rattle.pg_fold.specs.Tables.{AreTables, IsTable, maps_of}
use Rattle.pg_fold.specs.declared.original.Original.{Original}
use Rattle.pg_fold.specs.declared.tables.MapTable.{MapTable}
use Rattle.pg_fold.proofs.Listing.{pairs_at}
use Rattle.pg_fold.proofs.Positions.{image_by, image-undone}

-- ---- one map more

either : (o : Original) (j : ℕ) (h : GridMap)
    → o.node ≤ j
    → number_of o.map < number_of h
    → (o.node < j) ⊎ ((o.node ≡ j) × (number_of o.map ≤ number_of h))
either o j h low less = elim (cases_lt o.node j) [
  | inl lt ↦ inl lt
  | inr ge ↦ inr (omega (arith, low, ge), omega (arith, less))
]

lower : (n : ℕ) (o : Original) (j : ℕ) (h : GridMap)
    → (o.node < j) ⊎ ((o.node ≡ j) × (number_of o.map ≤ number_of h))
    → n < o.node
    → n < j
lower n o j h (inl lt) less = omega (arith, lt, less)
lower n o j h (inr same) less = omega (arith, same.0, less)

module _ (known : Position → Option ℕ) (back : GridMap → Position) where
  pub earliest-none : IsEarliest known back [] None
  earliest-none = record {
    is = λ original at. absurd (some≢none (sym at));
    first = λ m j c at. absurd (omega (arith, c.1));
  }

  module _ (maps : List GridMap) (m : GridMap) (found : Option Original)
      (so_far : IsEarliest known back maps found) where
    -- nothing is known there
    earliest-missed : known (back m) ≡ None → IsEarliest known back (maps ++ m ∷ []) found
    earliest-missed none = record {
      is = λ original at.
          let was = so_far.is original at in
          (contains_old maps m original.map was.0, was.1);
      first = λ h j c at. elim (contains_push maps m h c) [
        | inl old ↦ so_far.first h j old at
        | inr new ↦
            absurd (some≢none (sym at ∙ ap (λ (r : GridMap). known (back r)) (sym new) ∙ none))
      ];
    }

    module _ (node : ℕ) (at : known (back m) ≡ Some node) where
      held : Contains (maps ++ m ∷ []) m
      held = at_contains (maps ++ m ∷ []) (length maps) m (at_new maps m)

      number : (h : GridMap) (j : ℕ) → m ≡ h → known (back h) ≡ Some j → node ≡ j
      number h j same there = same_some (sym at ∙ ap (λ (r : GridMap). known (back r)) same ∙ there)

      -- the new one is the first
      new-first : ((h : GridMap) (j : ℕ) → Contains maps h → known (back h) ≡ Some j → node < j)
          → IsEarliest known back (maps ++ m ∷ []) (Some (record { node = node; map = m }))
      new-first above = record {
        is = λ original is.
            let made : Original = record { node = node; map = m } in
            let one : made ≡ original = same_some is in
            subst
            (λ (o : Original). Contains (maps ++ m ∷ []) o.map × (known (back o.map) ≡ Some o.node))
            one (held, at);
        first = λ h j c there. elim (contains_push maps m h c) [
          | inl old ↦ record {
            original = record { node = node; map = m };
            is = refl;
            later = inl (above h j old there);
          }
          | inr new ↦
              let least : number_of m ≡ number_of h = ap (λ (r : GridMap). number_of r) new in
              record {
                original = record { node = node; map = m };
                is = refl;
                later = inr (number h j new there, omega (arith, least));
              }
        ];
      }

      -- the old one stays the first
      old-first : (o : Original)
          → found ≡ Some o
          → o.node ≤ node
          → number_of o.map < number_of m
          → IsEarliest known back (maps ++ m ∷ []) (Some o)
      old-first o is low less = record {
        is = λ original one.
            let was = so_far.is original (is ∙ one) in
            (contains_old maps m original.map was.0, was.1);
        first = λ h j c there. elim (contains_push maps m h c) [
          | inl old ↦
              subst (λ (f : Option Original). IsNoEarlier f j h) is (so_far.first h j old there)
          | inr new ↦
              let same = number h j new there in
              let below : number_of o.map < number_of h =
              subst (λ (r : GridMap). number_of o.map < number_of r) new less in
              record {
                original = o;
                is = refl;
                later = either o j h (omega (arith, low, same)) below;
              }
        ];
      }

      earliest-met : ((h : GridMap) → Contains maps h → number_of h < number_of m)
          → (f : Option Original) → found ≡ f
          → IsEarliest known back (maps ++ m ∷ []) (earlier f (Some node) m)
      earliest-met below None is = new-first (λ h j c there. let was = so_far.first h j c there in
          absurd (some≢none (sym was.is ∙ is)))
      earliest-met below (Some o) is = elim (cases_Bool (nat_le o.node node)) [
        | inl on ↦ subst (λ (b : Bool). IsEarliest known back (maps ++ m ∷ [])
            (if b then Some o else Some (record { node = node; map = m }))) (sym on)
            (old-first o is (leb-true o.node node on) (below o.map (so_far.is o is).0))
        | inr off ↦
            let above = leb-false o.node node off in
            subst
            (λ (b : Bool). IsEarliest known back (maps ++ m ∷ [])
            (if b then Some o else Some (record { node = node; map = m }))) (sym off)
            (new-first (λ h j c there.
            let was = so_far.first h j c there in
            let one : o ≡ was.original = same_some (sym is ∙ was.is) in
            let same : o.node ≡ was.original.node = ap (λ (q : Original). q.node) one in
            lower node was.original j h was.later (omega (arith, above, same))))
      ]

    pub earliest-next : ((h : GridMap) → Contains maps h → number_of h < number_of m)
        → (answer : Option ℕ) → known (back m) ≡ answer
        → IsEarliest known back (maps ++ m ∷ []) (earlier found answer m)
    earliest-next below None none = earliest-missed none
    earliest-next below (Some node) at = earliest-met node at below found refl

-- the maps before one have lower numbers
pub lower-numbers : (maps : List GridMap) (i : ℕ) (m h : GridMap)
    → slice_get maps i ≡ Some m
    → AllPairs (λ a b. number_of a < number_of b) maps
    → Contains (take i maps) h
    → number_of h < number_of m
lower-numbers maps i m h at up c =
    let there = contains_at (take i maps) h c in
    let was = from_take maps i there.0 h there.1 in
    pairs_at (λ (a b : GridMap). number_of a < number_of b) maps there.0 i h m was.0 at was.1 up

-- one map more of a list
pub earliest-step : (known : Position → Option ℕ) (back : GridMap → Position) (maps : List GridMap)
    (i : ℕ) (m : GridMap) (found next : Option Original) (answer : Option ℕ)
    → slice_get maps i ≡ Some m
    → AllPairs (λ a b. number_of a < number_of b) maps
    → IsEarliest known back (take i maps) found
    → answer ≡ known (back m)
    → next ≡ earlier found answer m
    → IsEarliest known back (take (i + 1) maps) next
earliest-step known back maps i m found next answer at up so_far asked made =
    let here : get_or maps i m ≡ m = get_or_from_slice_get maps i m m at in
    let longer = take_more maps i m (slice_get_within maps i m at)
    ∙ ap (λ (r : GridMap). take i maps ++ r ∷ []) here in
    subst₂ (λ (ms : List GridMap) (f : Option Original). IsEarliest known back ms f) (sym longer)
    (sym made)
    (earliest-next known back (take i maps) m found so_far
    (λ h c. lower-numbers maps i m h at up c) answer (sym asked))

-- ---- over plain nodes

reverse-reverse : (m : GridMap) → reverse_of (reverse_of m) ≡ m
reverse-reverse m = by m.exchange m.rows m.columns
  where
    by : (e r c : Bool)
        → reverse_of (reverse_of (record { exchange = e; rows = r; columns = c })) ≡ record {
          exchange = e;
          rows = r;
          columns = c;
        }
    by true r c = refl
    by false r c = refl

-- without a board no node is the image of another
pub original-off_board : (g : Game) (nodes : List ImageNode) (p : Position)
    → board_of g.field ≡ None
    → IsFirstOriginal g nodes p None
original-off_board g nodes p none j m is = some≢none (sym is.usable.on_grid ∙ none)

-- the position that the map takes to this one
abbrev pub back_by : Grid → Position → GridMap → Position
back_by grid p m = image_position (image_of (reverse_of m) grid) p

module _ (g : Game) (grid : Grid) (has : board_of g.field ≡ Some grid) (maps : List GridMap)
    (fit : (m : GridMap) → (Contains maps m → Fits g m) × (Fits g m → Contains maps m))
    (known : Position → Option ℕ) (nodes : List ImageNode) (placed : ArePlaced known nodes)
    (positions : HavePositions g nodes) (p : Position) (is : IsPosition g p) where
  on-grid : (m : GridMap) → image_by g (reverse_of m) p ≡ back_by grid p m
  on-grid m = ap (λ (board : Option Grid). image_position (image_on board (reverse_of m)) p) has

  -- what is known there is such a node
  leads-back : (m : GridMap) (j : ℕ)
      → Contains maps m
      → known (back_by grid p m) ≡ Some j
      → IsImageOf g nodes p j m
  leads-back m j c at =
      let f = placed.found (back_by grid p m) j at in
      let fits = (fit m).0 c in
      let there : position_of f.0 ≡ image_by g (reverse_of m) p = f.2 ∙ sym (on-grid m) in
      let here = image-undone g (reverse_of m) p (position_of f.0) (Fits-reverse g m fits) is
      (positions j f.0 f.1) there in
      record {
        usable = record { grid = grid; on_grid = has; fits = fits };
        node = f.0;
        at = f.1;
        image = here ∙ ap (λ (h : GridMap). image_by g h (position_of f.0)) (reverse-reverse m);
      }

  -- and each such node is known there
  known-there : (j : ℕ) (m : GridMap)
      → IsImageOf g nodes p j m
      → Contains maps m × (known (back_by grid p m) ≡ Some j)
  known-there j m image =
      let there : position_of image.node ≡ back_by grid p m = image-undone g m
      (position_of image.node) p image.usable.fits (positions j image.node image.at) is image.image
      ∙ on-grid m in
      ((fit m).1 image.usable.fits, ap known (sym there) ∙ placed.placed j image.node image.at)

  pub original-first : (found : Option Original)
      → IsEarliest known (back_by grid p) maps found
      → IsFirstOriginal g nodes p found
  original-first None earliest = λ j m image.
      let there = known-there j m image in
      let some = earliest.first m j there.0 there.1 in
      some≢none (sym some.is)
  original-first (Some o) earliest =
      let was = earliest.is o refl in (
        leads-back o.map o.node was.0 was.1,
        λ j m image.
            let there = known-there j m image in
            let some = earliest.first m j there.0 there.1 in
            let same : some.original ≡ o = sym (same_some some.is) in
            subst
            (λ (q : Original). (q.node < j) ⊎ ((q.node ≡ j) × (number_of q.map ≤ number_of m))) same
            some.later,
      )

-- ---- by tables

-- among no maps none is found
none-found : (known : Position → Option ℕ) (back : GridMap → Position) (found : Option Original)
    → IsEarliest known back [] found
    → found ≡ None
none-found known back None earliest = refl
none-found known back (Some o) earliest =
    let member = (earliest.is o refl).0 in
    absurd (omega (arith, member.1))

-- what is found by the tables of the maps that fit a game is the first original
pub original-by : (g : Game) (tables : List MapTable)
    → AreTables g tables
    → (known : Position → Option ℕ) (p : Position) (found : Option Original)
    → ((grid : Grid) → All (IsTable grid) tables
    → IsEarliest known (back_by grid p) (maps_of tables) found)
    → (nodes : List ImageNode) → ArePlaced known nodes
    → HavePositions g nodes
    → IsPosition g p
    → IsFirstOriginal g nodes p found
original-by g tables are known p found earliest nodes placed positions is =
    by (board_of g.field) refl
  where
    by : (board : Option Grid) → board_of g.field ≡ board → IsFirstOriginal g nodes p found
    by None none =
        let empty : tables ≡ [] = are.off none in
        let grid : Grid = record { width = 0; height = 0 } in
        let here =
        earliest grid (subst (All (IsTable grid)) (sym empty) (All-nil (IsTable grid))) in
        let lost = none-found known (back_by grid p) found
        (subst (λ (ts : List MapTable). IsEarliest known (back_by grid p) (maps_of ts) found) empty
        here) in
        subst (λ (f : Option Original). IsFirstOriginal g nodes p f) (sym lost)
        (original-off_board g nodes p none)
    by (Some grid) has =
        let on = are.on grid has in
        original-first g grid has (maps_of tables) on.fit known nodes placed positions p is found
        (earliest grid on.each)
