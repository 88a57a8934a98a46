-- The lightest lines, and the base of weights.
use Rattle.std.proofs.Common.{◌≡◌, ℕ, ◌+◌, ◌^◌, ◌<◌, ◌≤◌, max, true, false, List, length, get_or}
use Rattle.std.proofs.Common.{drop, refl, sym, ap, subst, arith}
use Rattle.pg_captions.proofs.Common.{at_drop_more, FinSet, count_by, nat_cmp, Kind, MakerBreaker}
use Rattle.pg_captions.proofs.Common.{MakerMaker, AvoiderEnforcer, Switching, is_touched, lines_of}
use Rattle.pg_captions.proofs.Common.{is_free, IsBaseOf, full_weight, greatest_length, Game}
use Rattle.pg_captions.proofs.Common.{Position}
use Rattle.pg_captions.proofs.Common.{IsBaseOf-bias, IsBaseOf-two, length-le-greatest}
use Rattle.pg_captions.proofs.Common.{pow-le-pow_right}
use Rattle.pg_captions.specs.Lightest.{base_of, free_on, most_free}

pub free_on-touched : (own : FinSet nat_cmp) (p : Position) (line : List ℕ)
    → is_touched own line ≡ true
    → free_on own p line ≡ 0
free_on-touched own p line touched = rw touched refl

pub free_on-clear : (own : FinSet nat_cmp) (p : Position) (line : List ℕ)
    → is_touched own line ≡ false
    → free_on own p line ≡ count_by (is_free p) line
free_on-clear own p line clear = rw clear refl

-- one line more
pub most-more : (own : FinSet nat_cmp) (p : Position) (lines : List (List ℕ)) (i most : ℕ)
    (line : List ℕ)
    → i < length lines
    → line ≡ get_or lines i line
    → max most (most_free own p (drop i lines)) ≡ most_free own p lines
    → max (max most (free_on own p line)) (most_free own p (drop (i + 1) lines))
    ≡ most_free own p lines
most-more own p lines i most line lt is before =
    let here = at_drop_more (most_free own p) lines i line lt in
    let same : free_on own p line ≡ free_on own p (get_or lines i line) = ap (free_on own p) is in
    omega (arith, here, same, before)

based : (g : Game) (kind : Kind) → IsBaseOf (base_of kind g.bias) g
based g MakerBreaker = IsBaseOf-bias g g.bias refl
based g MakerMaker = IsBaseOf-bias g g.bias refl
based g AvoiderEnforcer = IsBaseOf-two g
based g Switching = IsBaseOf-bias g g.bias refl

-- weights to the base don't grow too great
pub IsBaseOf-base : (g : Game) (n : ℕ) → n ≡ base_of g.kind g.bias → IsBaseOf n g
IsBaseOf-base g n is = subst (λ (m : ℕ). IsBaseOf m g) (sym is) (based g g.kind)

pub base_some : (g : Game) (n : ℕ) → n ≡ base_of g.kind g.bias → 1 ≤ n
base_some g n is = let base : IsBaseOf n g = IsBaseOf-base g n is in base.some

-- a power that is no greater than the weight of a line without free points
pub base_power : (g : Game) (n i : ℕ)
    → n ≡ base_of g.kind g.bias
    → i ≤ greatest_length (lines_of g)
    → n ^ i < 2 ^ 128
unfolding full_weight
base_power g n i is le =
    let base : IsBaseOf n g = IsBaseOf-base g n is in
    let most = pow-le-pow_right {n = n} base.some {i = i} {j = greatest_length (lines_of g)} le in
    omega (arith, most, base.few)

-- ---- no line has more free points than the longest has points

pub free-le : (lines : List (List ℕ)) (i : ℕ) (line : List ℕ)
    → i < length lines
    → line ≡ get_or lines i line
    → length line ≤ greatest_length lines
free-le lines i line lt is = length-le-greatest lines line (i, lt, sym is)
