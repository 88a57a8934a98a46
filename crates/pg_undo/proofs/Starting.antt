-- A ring as it is made.
use Rattle.std.proofs.Common.{◌≡◌, ℕ, zero, suc, ◌+◌, ◌<◌, ◌≤◌, true, List, [], ◌∷◌}
use Rattle.std.proofs.Common.{◌++◌, length, get_or, refl, sym, ap, ◌∙◌, inl, inr, arith}
use Rattle.std.proofs.lemmas.Bool.{cases_lt, false≢true}
use Rattle.std.proofs.lemmas.List.{get_or_append_left, get_or_push, length_push}
use Rattle.pg_undo.specs.Links.{slot, stands, Follows, AreLinks, is_left}

-- the arrays with the links of all numbers below i
pub record AreFilled (n i : ℕ) (next previous : List ℕ) : Type 0 where
  pub next_count : length next ≡ i
  pub previous_count : length previous ≡ i + 1
  pub forth : (k : ℕ) → k < i → get_or next k 0 ≡ k + 1
  pub start : get_or previous 0 0 ≡ n
  pub back : (k : ℕ) → k < i → get_or previous (k + 1) 0 ≡ k

pub filled-more : (n i : ℕ) (next previous : List ℕ)
    → AreFilled n i next previous
    → AreFilled n (i + 1) (next ++ (i + 1) ∷ []) (previous ++ i ∷ [])
filled-more n i next previous h =
    let next_len : length next ≡ i = h.next_count in
    let previous_len : length previous ≡ i + 1 = h.previous_count in
    record {
      next_count = length_push next (i + 1) ∙ ap (λ k. k + 1) next_len;
      previous_count = length_push previous i ∙ ap (λ k. k + 1) previous_len;
      forth = λ k low. elim (cases_lt k i) [
        | inl lt ↦ get_or_append_left next ((i + 1) ∷ []) 0 k (omega arith) ∙ h.forth k lt
        | inr ge ↦ let same : k ≡ i = omega arith in rw same (get_or_push next (i + 1) 0 i next_len)
      ];
      start = get_or_append_left previous (i ∷ []) 0 0 (omega arith) ∙ h.start;
      back = λ k low. elim (cases_lt k i) [
        | inl lt ↦ get_or_append_left previous (i ∷ []) 0 (k + 1) (omega arith) ∙ h.back k lt
        | inr ge ↦
            let same : k ≡ i = omega arith in
            rw same (get_or_push previous i 0 (i + 1) previous_len)
      ];
    }

pub filled-none : (n : ℕ) → AreFilled n 0 [] (n ∷ [])
filled-none n = record {
  next_count = refl;
  previous_count = refl;
  forth = λ k low. absurd (omega arith);
  start = refl;
  back = λ k low. absurd (omega arith);
}

all-stand : (n : ℕ) (k : ℕ) → k ≤ n + 1 → stands n (is_left []) k ≡ true
unfolding stands is_left
all-stand n zero h = refl
all-stand n (suc k) h = refl

forth_at : (n : ℕ) (next previous : List ℕ)
    → AreFilled n n next previous
    → (i : ℕ) → i ≤ n
    → get_or (next ++ 0 ∷ []) (slot n i) 0 ≡ slot n (suc i)
unfolding slot
forth_at n next previous h zero low = get_or_push next 0 0 n h.next_count
forth_at n next previous h (suc k) low =
    get_or_append_left next (0 ∷ []) 0 k (omega (arith, h.next_count))
    ∙ (h.forth k (omega arith) ∙ omega arith)

back_at : (n : ℕ) (next previous : List ℕ)
    → AreFilled n n next previous
    → (i : ℕ) → i ≤ n
    → get_or previous (slot n (suc i)) 0 ≡ slot n i
unfolding slot
back_at n next previous h zero low = h.start
back_at n next previous h (suc k) low =
    let at : suc k ≡ k + 1 = omega arith in
    ap (λ m. get_or previous m 0) at ∙ h.back k (omega arith)

-- all numbers are linked
pub links-start : (n : ℕ) (next previous : List ℕ)
    → AreFilled n n next previous
    → AreLinks n (next ++ 0 ∷ []) previous []
unfolding AreLinks
links-start n next previous h =
    let next_len : length next ≡ n = h.next_count in
    let one_on : (i j : ℕ) → Follows n (is_left []) i j → j ≡ suc i = λ i j f.
    let high : i < j = f.above in
    let within : j ≤ n + 1 = f.within in
    elim (cases_lt (suc i) j) [
      | inl lt ↦ absurd (false≢true
          (sym (f.between (suc i) (omega arith) lt) ∙ all-stand n (suc i) (omega arith)))
      | inr ge ↦ omega arith
    ] in
    record {
      next_count = length_push next 0 ∙ ap (λ k. k + 1) next_len;
      previous_count = h.previous_count;
      forth = λ i j f.
          let within : j ≤ n + 1 = f.within in
          let one = one_on i j f in
          rw one (forth_at n next previous h i (omega arith));
      back = λ i j f.
          let within : j ≤ n + 1 = f.within in
          let one = one_on i j f in
          rw one (back_at n next previous h i (omega arith));
    }
