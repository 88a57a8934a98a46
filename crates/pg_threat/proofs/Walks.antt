-- The lines without a point of a side, one after the other.
use Rattle.std.specs.Prelude.{Option, Some, None}
use Rattle.std.proofs.Common.{◌≡◌, ℕ, zero, suc, ◌+◌, ◌<◌, ◌≤◌, Bool, true, false, ◌&&◌, List, []}
use Rattle.std.proofs.Common.{◌∷◌, length, ltb, refl, sym, ap, ◌∙◌, subst, inl, inr, arith}
use Rattle.pg_threat.proofs.Common.{cases_Bool, cases_eq, and_parts, false≢true, lt-ltb, ltb-true}
use Rattle.pg_threat.proofs.Common.{length-range_with_len, get_or-range_with_len, Contains, find}
use Rattle.pg_threat.proofs.Common.{range_with_len, slice_get, Side, Game, Position, lines_of}
use Rattle.pg_threat.proofs.Common.{find_both, Contains-filter, live_lines, line_at}
use Rattle.pg_threat.specs.Lacking.{is_live, IsNextLive}

-- ---- the first number of a range that passes

record IsFirstAt (t : ℕ → Bool) (a end k : ℕ) : Type 0 where
  pub low : a ≤ k
  pub high : k < end
  pub on : t k ≡ true
  pub none : (j : ℕ) → a ≤ j → j < k → t j ≡ false

abbrev IsFirst : (ℕ → Bool) → ℕ → ℕ → Option ℕ → Type 0
IsFirst t a end None = (j : ℕ) → a ≤ j → j < end → t j ≡ false
IsFirst t a end (Some k) = IsFirstAt t a end k

one-lower : (t : ℕ → Bool) (a n : ℕ) (o : Option ℕ)
    → t a ≡ false
    → IsFirst t (a + 1) ((a + 1) + n) o
    → IsFirst t a (a + suc n) o
one-lower t a n None off h = λ j low high. elim (cases_eq j a) [
  | inl e ↦ ap t e ∙ off
  | inr ne ↦ h j (omega arith) (omega arith)
]
one-lower t a n (Some k) off h = record {
  low = omega (arith, h.low);
  high = omega (arith, h.high);
  on = h.on;
  none = λ j low high. elim (cases_eq j a) [
    | inl e ↦ ap t e ∙ off
    | inr ne ↦ h.none j (omega arith) high
  ];
}

first-in_range : (t : ℕ → Bool) (a n : ℕ) → IsFirst t a (a + n) (find t (range_with_len a n))
first-in_range t a zero = λ j low high. absurd (omega arith)
first-in_range t a (suc n) = elim (cases_Bool (t a)) [
  | inl on ↦
      let is : find t (range_with_len a (suc n)) ≡ Some a = rw on refl in
      subst (λ (o : Option ℕ). IsFirst t a (a + suc n) o) (sym is) (record {
        low = omega arith;
        high = omega arith;
        on = on;
        none = λ j low high. absurd (omega arith);
      })
  | inr off ↦
      let is : find t (range_with_len a (suc n)) ≡ find t (range_with_len (a + 1) n) =
      rw off refl in
      subst (λ (o : Option ℕ). IsFirst t a (a + suc n) o) (sym is)
      (one-lower t a n (find t (range_with_len (a + 1) n)) off (first-in_range t (a + 1) n))
]

-- ---- the walk

first-of_all : (xs : List ℕ) → slice_get xs 0 ≡ find (λ _. true) xs
first-of_all [] = refl
first-of_all (x ∷ xs) = refl

-- where the one test is passed, the other decides
left-off : (a b : Bool) → (a && b) ≡ false → b ≡ true → a ≡ false
left-off true b h on = absurd (false≢true (sym h ∙ on))
left-off false b h on = refl

module _ (g : Game) (p : Position) (side : Side) where
  abbrev live : ℕ → Bool
  live i = is_live p side (line_at g i)

  -- the lines from a number on whose numbers all pass, by the two tests together
  both-first : (t : ℕ → Bool) (from : ℕ) (o : Option ℕ)
      → ((j : ℕ) → from ≤ j → t j ≡ true)
      → ((j : ℕ) → t j ≡ true → from ≤ j)
      → IsFirst (λ i. live i && t i) 0 (length (lines_of g)) o
      → IsNextLive g p side from o
  both-first t from None pass only h =
      λ j low high. left-off (live j) (t j) (h j (omega arith) high) (pass j low)
  both-first t from (Some k) pass only h =
      let parts = and_parts (live k) (t k) h.on in record {
        from_on = only k parts.1;
        within = h.high;
        live = parts.0;
        none_before =
            λ j low high. left-off (live j) (t j) (h.none j (omega arith) high) (pass j low);
      }

  found-live : (t : ℕ → Bool) (from : ℕ)
      → ((j : ℕ) → from ≤ j → t j ≡ true)
      → ((j : ℕ) → t j ≡ true → from ≤ j)
      → IsNextLive g p side from (find t (live_lines g p side))
  unfolding live_lines
  found-live t from pass only =
      let both = find_both t live (range_with_len 0 (length (lines_of g))) in
      let n = length (lines_of g) in
      let end : 0 + n ≡ n = omega arith in
      let first = subst
      (λ (m : ℕ). IsFirst (λ i. live i && t i) 0 m (find (λ i. live i && t i) (range_with_len 0 n)))
      end (first-in_range (λ i. live i && t i) 0 n) in
      subst (λ (o : Option ℕ). IsNextLive g p side from o) (sym both)
      (both-first t from
      (find (λ i. live i && t i) (range_with_len 0 (length (lines_of g)))) pass only first)

  pub first-live : (o : Option ℕ) → o ≡ slice_get (live_lines g p side) 0 → IsNextLive g p side 0 o
  first-live o is = subst (λ (n : Option ℕ). IsNextLive g p side 0 n)
      (sym (is ∙ first-of_all (live_lines g p side)))
      (found-live (λ _. true) 0 (λ j low. refl) (λ j on. omega arith))

  pub next-live : (line : ℕ) (o : Option ℕ)
      → o ≡ find (ltb line) (live_lines g p side)
      → IsNextLive g p side (line + 1) o
  next-live line o is = subst (λ (n : Option ℕ). IsNextLive g p side (line + 1) n) (sym is)
      (found-live (ltb line) (line + 1) (λ j low. lt-ltb line j (omega arith))
      (λ j on. let lt = ltb-true line j on in omega (arith, lt)))

  -- a line without a point of the side is one of them
  pub live-listed : (line : ℕ)
      → line < length (lines_of g)
      → is_live p side (line_at g line) ≡ true
      → Contains (live_lines g p side) line
  unfolding live_lines
  live-listed line within on =
      let n = length (lines_of g) in
      let count = length-range_with_len 0 n in
      let here : line < length (range_with_len 0 n) = omega (arith, count) in
      let same : 0 + line ≡ line = omega arith in
      Contains-filter live (range_with_len 0 n) line
      (line, here, get_or-range_with_len 0 n line line within ∙ same) on
