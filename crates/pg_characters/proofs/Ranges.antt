-- Tests on the numbers of a range.
use Rattle.std.proofs.Common.{◌≡◌, ◌∙◌, ℕ, zero, suc, ◌+◌, ◌<◌, ◌≤◌, Bool, true, false, refl, sym}
use Rattle.std.proofs.Common.{ap, arith, true≢false, inl, inr}
use Rattle.std.specs.Prelude.{Some, None}
use Rattle.std.specs.List.{find, list_all, range_with_len}
use Rattle.std.proofs.Math.Arith.{lt_of_le-ne}
use Rattle.std.proofs.lemmas.Bool.{cases_Bool, cases_eq}
use Rattle.std.proofs.lemmas.Option.{none-some, same_Some}

module _ (p : ℕ → Bool) where
  -- all pass if each does
  pub all_pass : (a n : ℕ)
      → ((k : ℕ) → a ≤ k → k < a + n → p k ≡ true)
      → list_all p (range_with_len a n) ≡ true
  all_pass a zero h = refl
  all_pass a (suc n) h =
      rw (h a (omega arith) (omega arith))
      (all_pass (a + 1) n (λ k low high. h k (omega arith) (omega arith)))

  -- a number that fails isn't the first one that passes
  later : (a m : ℕ) → a ≤ m → p a ≡ true → p m ≡ false → a < m
  later a m low does fails_at =
      lt_of_le-ne low (λ (e : a ≡ m). true≢false (sym does ∙ ap p e ∙ fails_at))

  -- not all pass if one fails
  pub one_fails : (a n m : ℕ)
      → a ≤ m
      → m < a + n
      → p m ≡ false
      → list_all p (range_with_len a n) ≡ false
  one_fails a zero m low high fails_at = absurd (omega arith)
  one_fails a (suc n) m low high fails_at = elim (cases_Bool (p a)) [
    | inl does ↦
        let past = later a m low does fails_at in
        let on : a + 1 ≤ m = omega (arith, past) in
        rw does (one_fails (a + 1) n m on (omega arith) fails_at)
    | inr fails ↦ rw fails refl
  ]

  -- each passes if all do
  pub each_passes : (a n m : ℕ)
      → list_all p (range_with_len a n) ≡ true
      → a ≤ m
      → m < a + n
      → p m ≡ true
  each_passes a n m all low high = go (p m) refl where
    go : (b : Bool) → p m ≡ b → p m ≡ true
    go true is = is
    go false is = absurd (true≢false (sym all ∙ one_fails a n m low high is))

  -- none is found if none passes
  pub none_found : (a n : ℕ)
      → ((k : ℕ) → a ≤ k → k < a + n → p k ≡ false)
      → find p (range_with_len a n) ≡ None
  none_found a zero h = refl
  none_found a (suc n) h =
      rw (h a (omega arith) (omega arith))
      (none_found (a + 1) n (λ k low high. h k (omega arith) (omega arith)))

  -- the first that passes is found
  pub first_found : (a n m : ℕ)
      → a ≤ m
      → m < a + n
      → ((k : ℕ) → a ≤ k → k < m → p k ≡ false)
      → p m ≡ true
      → find p (range_with_len a n) ≡ Some m
  first_found a zero m low high before does = absurd (omega arith)
  first_found a (suc n) m low high before does = elim (cases_Bool (p a)) [
    | inl here ↦
        elim (cases_eq a m) [
          | inl e ↦ rw here (ap Some e)
          | inr ne ↦
              let on : a < m = lt_of_le-ne low ne in
              absurd (true≢false (sym here ∙ before a (omega arith) on))
        ]
    | inr fails ↦
        let past : a < m = elim (cases_eq a m) [
          | inl e ↦ absurd (true≢false (sym does ∙ sym (ap p e) ∙ fails))
          | inr ne ↦ lt_of_le-ne low ne
        ] in
        let on : a + 1 ≤ m = omega (arith, past) in
        rw fails
        (first_found (a + 1) n m on (omega arith) (λ k l h. before k (omega arith) h) does)
  ]

  -- what is found passes
  pub found_passes : (a n m : ℕ)
      → find p (range_with_len a n) ≡ Some m
      → (a ≤ m) × (m < a + n) × (p m ≡ true)
  found_passes a zero m is = absurd (none-some m is)
  found_passes a (suc n) m is = elim (cases_Bool (p a)) [
    | inl does ↦
        let first : find p (range_with_len a (suc n)) ≡ Some a = rw does refl in
        let same : a ≡ m = same_Some _ _ (sym first ∙ is) in
        (omega arith, omega arith, ap p (sym same) ∙ does)
    | inr fails_at ↦
        let rest : find p (range_with_len a (suc n)) ≡ find p (range_with_len (a + 1) n) =
        rw fails_at refl in
        let on = found_passes (a + 1) n m (sym rest ∙ is) in
        (omega (arith, on.0), omega (arith, on.1), on.2)
  ]
