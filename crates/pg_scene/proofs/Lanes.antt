-- The lane of a line, by one line before it more.
use Rattle.std.proofs.Common.{◌≡◌, ℕ, zero, suc, ◌+◌, ◌<◌, ◌≤◌, true, false, List, [], length, map}
use Rattle.std.proofs.Common.{get_or, max, ◌==◌, ◌≢◌, add-one, refl, inl, inr, arith, subst, ◌∙◌}
use Rattle.std.proofs.Common.{ap}
use Rattle.std.proofs.lemmas.List.{get_or_default}
use Rattle.pg_scene.proofs.Common.{cases_Bool, get_or-map-range_with_len, length-map-range_with_len}
use Rattle.pg_scene.proofs.Common.{nat_tests, range_with_len}
use Rattle.pg_scene.specs.Items.{lane_after, lane_of, overlap}

-- a member of a list, whatever stands for none
pub at_any : (lines : List (List ℕ)) (i : ℕ) (line : List ℕ)
    → i < length lines
    → line ≡ get_or lines i line
    → line ≡ get_or lines i []
at_any lines i line lt is = is ∙ get_or_default lines i line [] lt

after_on : (lines : List (List ℕ)) (k : ℕ) (line : List ℕ)
    → overlap line (get_or lines k []) ≡ true
    → lane_after lines (suc k) line ≡ max (lane_after lines k line) (suc (lane_of lines k))
unfolding lane_after
after_on lines k line on = rw on refl

after_off : (lines : List (List ℕ)) (k : ℕ) (line : List ℕ)
    → overlap line (get_or lines k []) ≡ false
    → lane_after lines (suc k) line ≡ lane_after lines k line
unfolding lane_after
after_off lines k line off = rw off refl

-- the lane after one line more
pub lane_on : (lines : List (List ℕ)) (k : ℕ) (line : List ℕ)
    → overlap line (get_or lines k []) ≡ true
    → lane_after lines (k + 1) line ≡ max (lane_after lines k line) (suc (lane_of lines k))
lane_on lines k line on = rw add-one (after_on lines k line on)

pub lane_off : (lines : List (List ℕ)) (k : ℕ) (line : List ℕ)
    → overlap line (get_or lines k []) ≡ false
    → lane_after lines (k + 1) line ≡ lane_after lines k line
lane_off lines k line off = rw add-one (after_off lines k line off)

-- no lane is greater than the number of lines before it
pub lane_low : (lines : List (List ℕ)) (j : ℕ) (line : List ℕ) → lane_after lines j line ≤ j
unfolding lane_after
lane_low lines zero line = omega arith
lane_low lines (suc k) line =
    let here = lane_low lines k line in
    let there = lane_low lines k (get_or lines k []) in
    elim (cases_Bool (overlap line (get_or lines k []))) [
      | inl on ↦ let step = after_on lines k line on in omega (arith, step, here, there)
      | inr off ↦ let step = after_off lines k line off in omega (arith, step, here)
    ]

lane_grows : (lines : List (List ℕ)) (k : ℕ) (line : List ℕ)
    → lane_after lines k line ≤ lane_after lines (suc k) line
lane_grows lines k line = elim (cases_Bool (overlap line (get_or lines k []))) [
  | inl on ↦ let step = after_on lines k line on in omega (arith, step)
  | inr off ↦ let step = after_off lines k line off in omega (arith, step)
]

-- the lane of a line is greater than that of each line before it which it may lie over
pub lane_past : (lines : List (List ℕ)) (i j : ℕ) (line : List ℕ)
    → i < j
    → overlap line (get_or lines i []) ≡ true
    → lane_of lines i < lane_after lines j line
lane_past lines i zero line lt on = absurd (omega (arith, lt))
lane_past lines i (suc k) line lt on = elim (cases_Bool (i == k)) [
  | inl last ↦
      let same : i ≡ k = grind (arith, nat_tests) in
      let here : overlap line (get_or lines k []) ≡ true =
      subst (λ (n : ℕ). overlap line (get_or lines n []) ≡ true) same on in
      let step = after_on lines k line here in
      let lane : lane_of lines i ≡ lane_of lines k = ap (lane_of lines) same in
      omega (arith, step, lane)
  | inr other ↦
      let differ : i ≢ k = grind (arith, nat_tests) in
      let before = lane_past lines i k line (omega (arith, lt, differ)) on in
      let grows = lane_grows lines k line in
      omega (arith, before, grows)
]

pub lanes_differ : (lines : List (List ℕ)) (i j : ℕ)
    → i < j
    → overlap (get_or lines j []) (get_or lines i []) ≡ true
    → lane_of lines i < lane_of lines j
lanes_differ lines i j lt on = lane_past lines i j (get_or lines j []) lt on

-- ---- the lanes of the first lines, in a list

pub lanes_count : (lines : List (List ℕ)) (lanes : List ℕ) (i : ℕ)
    → lanes ≡ map (lane_of lines) (range_with_len 0 i)
    → length lanes ≡ i
lanes_count lines lanes i is =
    ap (λ (xs : List ℕ). length xs) is ∙ length-map-range_with_len (lane_of lines) 0 i

pub lane_before : (lines : List (List ℕ)) (lanes : List ℕ) (i j : ℕ)
    → lanes ≡ map (lane_of lines) (range_with_len 0 i)
    → j < i
    → get_or lanes j 0 ≡ lane_of lines j
lane_before lines lanes i j is lt = ap (λ (xs : List ℕ). get_or xs j 0) is
    ∙ get_or-map-range_with_len (lane_of lines) 0 i j j 0 lt (omega arith)
