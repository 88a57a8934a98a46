-- What tables of maps tell.
use Rattle.std.proofs.Common.{◌≡◌, ◌↔◌, ℕ, zero, suc, ◌*◌, ◌<◌, ◌≤◌, List, [], ◌∷◌, map}
use Rattle.std.proofs.Common.{get_or, Option, Some, sym, ap, ap₂, ◌∙◌, subst, inl, inr}
use Rattle.std.proofs.Common.{arith, slice_get}
use Rattle.pg_fold.proofs.Common.{cases_lt, get_or_past, All-nil, All-cons}
use Rattle.pg_fold.proofs.Common.{get_or-map-range_with_len, length-map-range_with_len, FinSet}
use Rattle.pg_fold.proofs.Common.{from_list, All, AllByRecursion, AllPairs, Contains}
use Rattle.pg_fold.proofs.Common.{range_with_len, nat_cmp, members, Grid, Game, Position, IsMapOf}
use Rattle.pg_fold.proofs.Common.{image_of, number_of, reverse_of, Fits, IsMapOn, board_of}
use Rattle.pg_fold.proofs.Common.{image_position, GridMap, image-beyond, points_below-small}
use Rattle.pg_fold.proofs.Common.{at_contains, same_some, none-some, slice_get-get_or}
use Rattle.pg_fold.specs.Tables.{AreOrdered, AreTables, AreTablesOf, AreTablesOn, IsTable}
use Rattle.pg_fold.specs.Tables.{come_from, image_before, maps_of}
use Rattle.pg_fold.specs.declared.marks.Marks.{Marks}
use Rattle.pg_fold.specs.declared.tables.MapTable.{MapTable}

module _ (grid : Grid) (t : MapTable) (is : IsTable grid t) where
  abbrev pub back : ℕ → ℕ
  back = image_of (reverse_of t.map) grid

  come_from-at : (v : ℕ) → come_from t v ≡ back v
  come_from-at v =
      ap (λ vs. get_or vs v v) is.sources
      ∙ elim (cases_lt v (grid.width * grid.height)) [
        | inl lt ↦
            get_or-map-range_with_len back 0 (grid.width * grid.height) v v v lt (omega arith)
        | inr ge ↦ get_or_past (map back (range_with_len 0 (grid.width * grid.height))) v v
            (subst (λ n. n ≤ v)
            (sym (length-map-range_with_len back 0 (grid.width * grid.height))) ge)
            ∙ sym (image-beyond grid (reverse_of t.map) v ge)
      ]

  come_from-is : come_from t ≡ back
  come_from-is = λ i v. come_from-at v i

  -- the position that the map takes to one whose marks are at hand
  pub image_before-is : (marks : Marks) (p : Position)
      → marks.x.items ≡ members p.x
      → marks.y.items ≡ members p.y
      → image_before t marks p ≡ image_position back p
  image_before-is marks p x y = ap₂ (λ (a b : FinSet nat_cmp). record {
    x = a;
    y = b;
    turn = p.turn;
    left = p.left;
  }) (by marks.x.items (members p.x) x) (by marks.y.items (members p.y) y)
    where
      by : (vs ws : List ℕ)
          → vs ≡ ws
          → from_list {R = nat_cmp} (map (come_from t) vs) ≡ from_list (map back ws)
      by vs ws same = ap₂ (λ (f : ℕ → ℕ) (us : List ℕ). from_list (map f us)) come_from-is same

-- ---- lists of tables

pub map-at : (tables : List MapTable) (i : ℕ) (t : MapTable)
    → slice_get tables i ≡ Some t
    → slice_get (maps_of tables) i ≡ Some t.map
map-at [] i t at = absurd (none-some t at)
map-at (s ∷ ss) zero t at = ap (λ (r : MapTable). Some r.map) (same_some at)
map-at (s ∷ ss) (suc i) t at = map-at ss i t at

-- ---- members

from_recursion : (P : ℕ → Type 0) (xs : List ℕ) → AllByRecursion P xs → All P xs
from_recursion P [] all = All-nil P
from_recursion P (x ∷ xs) all = All-cons P x xs all.0 (from_recursion P xs all.1)

pub small-members : (s : FinSet nat_cmp) → All (λ v. v < 1024) (members s)
small-members s = from_recursion (λ v. v < 1024) (members s) (points_below-small s 1024)

-- ---- the maps that fit

fit-of : (g : Game) (grid : Grid) (m : GridMap)
    → board_of g.field ≡ Some grid
    → Fits g m
    → IsMapOf grid m
fit-of g grid m has fits = subst (λ (board : Option Grid). IsMapOn board m) has fits.is_map

pub fits-all : (g : Game) (grid : Grid) (maps : List GridMap)
    → board_of g.field ≡ Some grid
    → ((m : GridMap) → Contains maps m ↔ Fits g m)
    → All (IsMapOf grid) maps
fits-all g grid maps has fit = λ k d lt. fit-of g grid (get_or maps k d) has
    ((fit (get_or maps k d)).0
    (at_contains maps k (get_or maps k d) (slice_get-get_or maps k d lt)))

pub tables-fit : (g : Game) (grid : Grid) (maps : List GridMap) (tables : List MapTable)
    → board_of g.field ≡ Some grid
    → ((m : GridMap) → Contains maps m ↔ Fits g m)
    → AreTablesOf grid maps tables
    → AreTables g tables
tables-fit g grid maps tables has fit are = record {
  off = λ none. absurd (none-some grid (sym none ∙ has));
  on = λ other at. subst (λ (r : Grid). AreTablesOn g r tables) (same_some (sym has ∙ at)) (record {
    fit = subst (λ (ms : List GridMap). (m : GridMap) → Contains ms m ↔ Fits g m)
        (sym are.maps_are) fit;
    each = are.each;
  });
}

pub tables-ordered : (grid : Grid) (maps : List GridMap) (tables : List MapTable)
    → AllPairs (λ a b. number_of a < number_of b) maps
    → AreTablesOf grid maps tables
    → AreOrdered tables
tables-ordered grid maps tables up are = record {
  ascending = subst (λ (ms : List GridMap). AllPairs (λ a b. number_of a < number_of b) ms)
      (sym are.maps_are) up;
  small = λ k d lt. (are.each k d lt).small;
}
