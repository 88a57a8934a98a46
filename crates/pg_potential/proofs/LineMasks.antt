-- The lines of a game with their sets: what holds of a line holds of its set.
use Rattle.std.proofs.Common.{◌≡◌, ◌==◌, ℕ, ◌+◌, ◌<◌, ◌≤◌, Bool, true, false, List, [], ◌∷◌, ◌++◌}
use Rattle.std.proofs.Common.{length, map, take, get_or, Some, slice_get, refl, sym, ap, ◌∙◌}
use Rattle.std.proofs.Common.{eq-eqb, eqb-true, subst, inl, inr, arith}
use Rattle.std.specs.Prelude.{option_map}
use Rattle.std.proofs.lemmas.List.{length-map}
use Rattle.pg_potential.proofs.Common.{AreWithin, ShareNone, Contains, FinSet, contains, nat_cmp}
use Rattle.pg_potential.proofs.Common.{is_filled, is_touched, list_all, list_any, list_any-none}
use Rattle.pg_potential.proofs.Common.{list_any-one, member-from_any, true-at, false-at}
use Rattle.pg_potential.proofs.Common.{in_from_list}
use Rattle.pg_potential.proofs.Common.{map_push, take_more, take_all, slice_get-get_or}
use Rattle.pg_potential.proofs.Common.{slice_get-map}
use Rattle.pg_potential.proofs.Common.{Contains-head, Contains-tail, cases_eq, get_or_default}
use Rattle.pg_potential.specs.Masks.{set_of, AreMasks}
use Rattle.pg_potential.specs.declared.masks.Mask.{Mask}

-- as many masks as lines
pub masks-many : (lines : List (List ℕ)) (masks : List Mask)
    → AreMasks lines masks
    → length masks ≡ length lines
masks-many lines masks are =
    sym (length-map masks (λ (m : Mask). m.line.items)) ∙ ap length are.each

-- what the mask of a place has of the line there
here : {A : Type 0} (f : Mask → A) (h : List ℕ → A) (lines : List (List ℕ)) (masks : List Mask)
    (i : ℕ) (m : Mask) (d : List ℕ)
    → map f masks ≡ map h lines
    → i < length masks
    → i < length lines
    → m ≡ get_or masks i m
    → f m ≡ h (get_or lines i d)
here f h lines masks i m d same lt within is =
    let mine : slice_get (map f masks) i ≡ Some (f m) = slice_get-map f masks i
    ∙ ap (option_map f) (slice_get-get_or masks i m lt ∙ ap Some (sym is)) in
    let line : slice_get (map h lines) i ≡ Some (h (get_or lines i d)) = slice_get-map h lines i
    ∙ ap (option_map h) (slice_get-get_or lines i d within) in
    let both : Some (f m) ≡ Some (h (get_or lines i d)) =
    sym mine ∙ ap (λ l. slice_get l i) same ∙ line in
    cc

pub mask-at : (lines : List (List ℕ)) (masks : List Mask) (i : ℕ) (m : Mask) (d : List ℕ)
    → AreMasks lines masks
    → i < length masks
    → m ≡ get_or masks i m
    → m.points ≡ set_of (get_or lines i d)
mask-at lines masks i m d are lt is =
    let many = masks-many lines masks are in
    here (λ (n : Mask). n.points) set_of lines masks i m d are.sets lt (omega (arith, lt, many)) is

-- one mask more
pub masks-more : (lines : List (List ℕ)) (masks : List Mask) (i : ℕ) (line : List ℕ) (m : Mask)
    → AreMasks (take i lines) masks
    → i < length lines
    → line ≡ get_or lines i line
    → m.points ≡ set_of line
    → m.line.items ≡ line
    → AreMasks (take (i + 1) lines) (masks ++ m ∷ [])
masks-more lines masks i line m are lt is set same = record {
  sets = map_push (λ (n : Mask). n.points) masks m
      ∙ ap (λ (sets : List (FinSet nat_cmp)). sets ++ m.points ∷ []) are.sets
      ∙ ap (λ (s : FinSet nat_cmp). map set_of (take i lines) ++ s ∷ []) (set ∙ ap set_of is)
      ∙ sym (map_push set_of (take i lines) (get_or lines i line))
      ∙ sym (ap (map set_of) (take_more lines i line lt));
  each = map_push (λ (n : Mask). n.line.items) masks m
      ∙ ap (λ (ls : List (List ℕ)). ls ++ m.line.items ∷ []) are.each
      ∙ ap (λ (l : List ℕ). take i lines ++ l ∷ []) (same ∙ is)
      ∙ sym (take_more lines i line lt);
}

pub masks-all : (lines : List (List ℕ)) (masks : List Mask) (i : ℕ)
    → AreMasks (take i lines) masks
    → length lines ≤ i
    → AreMasks lines masks
masks-all lines masks i are end = record {
  sets = are.sets ∙ ap (map set_of) (take_all i lines end);
  each = are.each ∙ take_all i lines end;
}

-- ---- a line and its set

pub member-in : (line : List ℕ) (v : ℕ) → Contains line v → contains (set_of line) v ≡ true
member-in line v c =
    in_from_list line v ∙ list_any-one (λ (q : ℕ). q == v) line v c (eq-eqb v v refl)

list_all-each : {X : Type 0} (t : X → Bool) (xs : List X)
    → ((x : X) → Contains xs x → t x ≡ true)
    → list_all t xs ≡ true
list_all-each t [] each = refl
list_all-each t (x ∷ xs) each =
    rw (each x (Contains-head x xs)) (list_all-each t xs (λ y c. each y (Contains-tail x y xs c)))

pub filled-from_set : (s : FinSet nat_cmp) (line : List ℕ)
    → AreWithin (set_of line) s
    → is_filled s line ≡ true
filled-from_set s line within =
    list_all-each (contains s) line (λ v c. within v (member-in line v c))

pub set-from_filled : (s : FinSet nat_cmp) (line : List ℕ)
    → is_filled s line ≡ true
    → AreWithin (set_of line) s
set-from_filled s line filled v on =
    let found = member-from_any (λ (q : ℕ). q == v) line (sym (in_from_list line v) ∙ on) in
    ap (contains s) (sym (eqb-true found.0 v found.2)) ∙ true-at (contains s) line found.0 filled
    found.1

pub untouched-from_set : (s : FinSet nat_cmp) (line : List ℕ)
    → ShareNone (set_of line) s
    → is_touched s line ≡ false
untouched-from_set s line apart =
    list_any-none (contains s) line (λ v c. apart v (member-in line v c))

pub set-from_untouched : (s : FinSet nat_cmp) (line : List ℕ)
    → is_touched s line ≡ false
    → ShareNone (set_of line) s
set-from_untouched s line none v on =
    let found = member-from_any (λ (q : ℕ). q == v) line (sym (in_from_list line v) ∙ on) in
    ap (contains s) (sym (eqb-true found.0 v found.2)) ∙ false-at (contains s) line found.0 none
    found.1

-- ---- all lines

pub list_all-at_each : (t : List ℕ → Bool) (lines : List (List ℕ)) (n : ℕ)
    → length lines ≤ n
    → ((j : ℕ) (d : List ℕ) → j < n → t (get_or lines j d) ≡ true)
    → list_all t lines ≡ true
list_all-at_each t lines n end each = list_all-each t lines
    (λ line c. ap t (sym c.2) ∙ each c.0 line (omega (arith, c.1, end)))

pub list_any-at_none : (t : List ℕ → Bool) (lines : List (List ℕ)) (n : ℕ)
    → length lines ≤ n
    → ((j : ℕ) (d : List ℕ) → j < n → t (get_or lines j d) ≡ false)
    → list_any t lines ≡ false
list_any-at_none t lines n end each = list_any-none t lines
    (λ line c. ap t (sym c.2) ∙ each c.0 line (omega (arith, c.1, end)))

-- ---- walks

-- what holds of each member before a place, and of the one there
pub each-more : {A : Type 0} (P : A → Type 0) (xs : List A) (i : ℕ) (x : A)
    → i < length xs
    → x ≡ get_or xs i x
    → P x
    → ((j : ℕ) (d : A) → j < i → P (get_or xs j d))
    → (j : ℕ) (d : A) → j < i + 1
    → P (get_or xs j d)
each-more P xs i x lt is here before j d below = elim (cases_eq j i) [
  | inl e ↦ subst P (is ∙ get_or_default xs i x d lt ∙ ap (λ n. get_or xs n d) (sym e)) here
  | inr ne ↦ before j d (omega (arith, below, ne))
]
