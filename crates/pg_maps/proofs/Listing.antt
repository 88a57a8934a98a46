-- The maps that fit, gathered by their numbers.
use Rattle.std.proofs.Common.{◌≡◌, ◌↔◌, ℕ, zero, suc, ◌+◌, ◌<◌, List, [], ◌∷◌, ◌++◌, None, refl}
use Rattle.std.proofs.Common.{sym, ap, ◌∙◌, subst, inl, inr, arith}
use Rattle.pg_maps.proofs.Common.{cases_eq, All-append, Contains-append_left, Contains-append_right}
use Rattle.pg_maps.proofs.Common.{Contains-append_cases, AllPairs-cons, All, AllPairs, Contains}
use Rattle.pg_maps.proofs.Common.{Game, Contains-head, All-from_members}
use Rattle.pg_maps.specs.declared.grid_map.GridMap.{GridMap}
use Rattle.pg_maps.specs.GridMaps.{numbered, number_of, identity}
use Rattle.pg_maps.specs.Images.{Fits, AreFitting, HasSymmetry, board_of}
use Rattle.pg_maps.proofs.Boards.{Fits-identity, none-Fits}
use Rattle.pg_maps.proofs.Numbers.{numbered-number, number-few}

AllPairs-last : {A : Type 0} (R : A → A → Type 0) (xs : List A) (y : A)
    → AllPairs R xs
    → All (λ x. R x y) xs
    → AllPairs R (xs ++ y ∷ [])
AllPairs-last {A = A} R [] y pairs each = λ i j d before inside. absurd (omega arith)
AllPairs-last {A = A} R (x ∷ xs) y pairs each = AllPairs-cons R x (xs ++ y ∷ [])
    (All-append (R x) xs (y ∷ []) (λ k d h. pairs 0 (suc k) d (omega arith) (omega arith))
    (single (R x) y (each 0 y (omega arith)))) (AllPairs-last R xs y (λ i j d before inside.
    pairs (suc i) (suc j) d (omega arith) (omega arith)) (λ k d h. each (suc k) d (omega arith)))
  where
    single : (P : A → Type 0) (y : A) → P y → All P (y ∷ [])
    single P y here zero d h = here
    single P y here (suc k) d h = absurd (omega arith)

-- the number tells the map
same_map : (a b : GridMap) → number_of a ≡ number_of b → a ≡ b
same_map a b e = sym (numbered-number a) ∙ ap numbered e ∙ numbered-number b

only : {A : Type 0} (x y : A) → Contains (x ∷ []) y → x ≡ y
only x y (zero, lt, is) = is
only x y (suc k, lt, is) = absurd (omega (arith, lt))

pub AreFitting-none : (g : Game) → AreFitting g 0 []
AreFitting-none g = record {
  fit = λ m c. absurd (omega (arith, c.1));
  before = λ m c. absurd (omega (arith, c.1));
  all = λ m h lt. absurd (omega (arith, lt));
  ascending = λ i j d before inside. absurd (omega arith);
}

module _ (g : Game) (k : ℕ) (maps : List GridMap) (m : GridMap) (listed : AreFitting g k maps)
    (number : number_of m ≡ k) where
  pub AreFitting-more : Fits g m → AreFitting g (k + 1) (maps ++ m ∷ [])
  AreFitting-more fits = record {
    fit = λ a c. elim (Contains-append_cases maps (m ∷ []) a c) [
      | inl old ↦ listed.fit a old
      | inr new ↦ subst (Fits g) (only m a new) fits
    ];
    before = λ a c. elim (Contains-append_cases maps (m ∷ []) a c) [
      | inl old ↦ let lt = listed.before a old in omega (arith, lt)
      | inr new ↦ let same = ap number_of (only m a new) in omega (arith, same, number)
    ];
    all = λ a h lt. elim (cases_eq (number_of a) k) [
      | inl e ↦ subst (Contains (maps ++ m ∷ [])) (same_map m a (number ∙ sym e))
          (Contains-append_right maps (m ∷ []) m (Contains-head m []))
      | inr ne ↦ Contains-append_left maps (m ∷ []) a (listed.all a h (omega (arith, lt, ne)))
    ];
    ascending = AllPairs-last (λ a b. number_of a < number_of b) maps m listed.ascending
        (All-from_members (λ a. number_of a < number_of m) maps
        (λ a c. let lt = listed.before a c in omega (arith, lt, number)));
  }

  pub AreFitting-same : (Fits g m → ⊥) → AreFitting g (k + 1) maps
  AreFitting-same none = record {
    fit = listed.fit;
    before = λ a c. let lt = listed.before a c in omega (arith, lt);
    all = λ a h lt. elim (cases_eq (number_of a) k) [
      | inl e ↦ absurd (none (subst (Fits g) (same_map a m (e ∙ sym number)) h))
      | inr ne ↦ listed.all a h (omega (arith, lt, ne))
    ];
    ascending = listed.ascending;
  }

-- the map of number 0 is the first
pub AreFitting-first : (g : Game) → AreFitting g 1 (identity ∷ [])
AreFitting-first g = AreFitting-more g 0 [] identity (AreFitting-none g) refl (Fits-identity g)

-- without a board it is the only one
pub AreFitting-alone : (g : Game) → board_of g.field ≡ None → AreFitting g 8 (identity ∷ [])
AreFitting-alone g none = record {
  fit = (AreFitting-first g).fit;
  before = λ m c. let lt = (AreFitting-first g).before m c in omega (arith, lt);
  all = λ m h lt. (AreFitting-first g).all m h
      (let zero = none-Fits g m none h in omega (arith, zero));
  ascending = (AreFitting-first g).ascending;
}

-- those of all numbers are all
pub AreFitting-whole : (g : Game) (maps : List GridMap)
    → AreFitting g 8 maps
    → ((m : GridMap) → Contains maps m ↔ Fits g m)
    × AllPairs (λ a b. number_of a < number_of b) maps
AreFitting-whole g maps listed =
    ((λ m. (listed.fit m, λ h. listed.all m h (number-few m))), listed.ascending)

-- where map 0 alone fits there is no symmetry
pub AreFitting-plain : (g : Game) → AreFitting g 8 (identity ∷ []) → HasSymmetry g → ⊥
AreFitting-plain g listed has = has.other
    (ap number_of (sym (only identity has.map (listed.all has.map has.fits (number-few has.map)))))
