-- Where counts alone show that not each line meant can have two free points of its own.
use Rattle.std.proofs.Common.{◌≡◌, ◌≢◌, ℕ, ◌*◌, ◌<◌, ◌≤◌, Bool, true, false, cond, not, ◌&&◌, refl}
use Rattle.std.proofs.Common.{List, [], ◌∷◌, length, filter, ltb, sym, ap, ◌∙◌, subst, inl, inr}
use Rattle.std.proofs.Common.{arith, eqb-true}
use Rattle.pg_leaf.proofs.Common.{and_parts, false_from_ne_true, ltb-true, All, Contains, count_by}
use Rattle.pg_leaf.proofs.Common.{list_any, range_with_len, All-contains, All-filter, count, minus}
use Rattle.pg_leaf.proofs.Common.{Pair, Side, Game, Position, is_free, points_of, lines_of}
use Rattle.pg_leaf.proofs.Common.{free_points, is_touched, point_count, has_private_pairs}
use Rattle.pg_leaf.proofs.Common.{lines_meant, pairs_exist, avoider_can_pair, has_lines}
use Rattle.pg_leaf.proofs.Common.{lines-range, breaker_of, Contains-head, Contains-tail}
use Rattle.pg_leaf.proofs.Common.{Contains-filter, member-from_any, line_at, live_lines, live_with}
use Rattle.pg_leaf.proofs.Common.{is_live_with}
use Rattle.std.proofs.lemmas.List.Sums.{length-filter, sum_by-cons}
use Rattle.pg_base.proofs.SetLemmas.{minus_from, minus_parts, count_minus}
use Rattle.pg_board.proofs.Digits.{count-all}
use Rattle.pg_match.proofs.PrivateLaws.{IsPassingPair, Contains-parts, filter_member}
use Rattle.pg_match.proofs.LeafLaws.{length-passed}

-- two points of the first list, and private pairs of the others among the rest
record Begins (test : ℕ → Bool) (line : List ℕ) (lines : List (List ℕ)) : Type 0 where
  pub pair : Pair
  pub passing : IsPassingPair test line pair
  pub rest : has_private_pairs lines (minus (minus test pair.a) pair.b) ≡ true

begins : (test : ℕ → Bool) (line : List ℕ) (lines : List (List ℕ))
    → has_private_pairs (line ∷ lines) test ≡ true
    → Begins test line lines
unfolding has_private_pairs
begins test line lines h =
    let first = member-from_any
    (λ a. list_any (λ b. ltb a b && has_private_pairs lines (minus (minus test a) b))
    (filter test line)) (filter test line) h in
    let second =
    member-from_any (λ b. ltb first.0 b && has_private_pairs lines (minus (minus test first.0) b))
    (filter test line) first.2 in
    let parts = and_parts (ltb first.0 second.0)
    (has_private_pairs lines (minus (minus test first.0) second.0)) second.2 in
    let a_in = filter_member test line first.0 first.1 in
    let b_in = filter_member test line second.0 second.1 in
    record {
      pair = record { a = first.0; b = second.0 };
      passing = record {
        first = a_in.0;
        second = b_in.0;
        first_passes = a_in.1;
        second_passes = b_in.1;
        lower = ltb-true first.0 second.0 parts.0;
      };
      rest = parts.1;
    }

-- so many points pass as two for each list
private-many : (test : ℕ → Bool) (n : ℕ) (lines : List (List ℕ))
    → ((line : List ℕ) (v : ℕ) → Contains lines line → Contains line v → v < n)
    → has_private_pairs lines test ≡ true
    → 2 * length lines ≤ count test n
private-many test n [] range h = omega arith
private-many test n (line ∷ lines) range h =
    let b = begins test line lines h in
    let s = b.pair in
    let lower = b.passing.lower in
    let apart : s.b ≢ s.a = λ e. omega (arith, lower, e) in
    let turned : s.a ≢ s.b = λ e. omega (arith, lower, e) in
    let rest = private-many (minus (minus test s.a) s.b) n lines
    (λ l v c. range l v (Contains-tail line l lines c)) b.rest in
    let one = count_minus test s.a n b.passing.first_passes
    (range line s.a (Contains-head line lines) b.passing.first) in
    let two =
    count_minus (minus test s.a) s.b n (minus_from test s.a s.b b.passing.second_passes turned)
    (range line s.b (Contains-head line lines) b.passing.second) in
    omega (arith, rest, one, two)

-- each list has two points that pass
private-each : (test : ℕ → Bool) (lines : List (List ℕ))
    → has_private_pairs lines test ≡ true
    → (line : List ℕ) → Contains lines line
    → (s : Pair) × IsPassingPair test line s
private-each test [] h line c = absurd (omega (arith, c.1))
private-each test (first ∷ lines) h line c =
    let b = begins test first lines h in
    elim (Contains-parts first line lines c) [
      | inl e ↦ (b.pair, subst (λ (l : List ℕ). IsPassingPair test l b.pair) e b.passing)
      | inr later ↦
          let found = private-each (minus (minus test b.pair.a) b.pair.b) lines b.rest line later in
          (found.0, wider test b.pair line found.0 found.1)
    ]
  where
    wider : (test : ℕ → Bool) (s : Pair) (line : List ℕ) (t : Pair)
        → IsPassingPair (minus (minus test s.a) s.b) line t
        → IsPassingPair test line t
    wider test s line t h =
        let a = minus_parts (minus test s.a) s.b t.a h.first_passes in
        let b = minus_parts (minus test s.a) s.b t.b h.second_passes in
        record {
          first = h.first;
          second = h.second;
          first_passes = (minus_parts test s.a t.a a.0).0;
          second_passes = (minus_parts test s.a t.b b.0).0;
          lower = h.lower;
        }

-- two different members
two-members : (xs : List ℕ) (a b : ℕ) → Contains xs a → Contains xs b → a < b → 2 ≤ length xs
two-members [] a b c d lt = absurd (omega (arith, c.1))
two-members (x ∷ []) a b c d lt = elim (Contains-parts x a [] c) [
  | inr none ↦ absurd (omega (arith, none.1))
  | inl e ↦ elim (Contains-parts x b [] d) [
    | inr none ↦ absurd (omega (arith, none.1))
    | inl f ↦ absurd (omega (arith, e, f, lt))
  ]
]
two-members (x ∷ (y ∷ xs)) a b c d lt = omega arith

two-counted : (test : ℕ → Bool) (line : List ℕ) (s : Pair)
    → IsPassingPair test line s
    → 2 ≤ count_by test line
two-counted test line s h =
    let two =
    two-members (filter test line) s.a s.b (Contains-filter test line s.a h.first h.first_passes)
    (Contains-filter test line s.b h.second h.second_passes) h.lower in
    omega (arith, two, length-filter test line)

pub none-counted : {X : Type 0} (t : X → Bool) (xs : List X)
    → ((x : X) → Contains xs x → t x ≡ false)
    → count_by t xs ≡ 0
none-counted t [] each = refl
none-counted t (x ∷ xs) each =
    let rest = none-counted t xs (λ y c. each y (Contains-tail x y xs c)) in
    let here : ◌≡◌ {A = ℕ} (cond (t x) 1 0) 0 =
    ap (λ b. cond b 1 0) (each x (Contains-head x xs)) in
    omega (arith, here, rest, sum_by-cons (λ y. cond (t y) 1 0) x xs)

-- ---- at a position

module _ (g : Game) (p : Position) (side : Side) (exist : pairs_exist g p side ≡ true) where
  private_exist : has_private_pairs (lines_meant g p side) (is_free p) ≡ true
  unfolding pairs_exist
  private_exist =
      (and_parts (avoider_can_pair g.kind g p) _ (and_parts (has_lines g.kind) _ exist).1).1

  is_meant : List ℕ → Bool
  is_meant line = not (is_touched (points_of p (breaker_of g.kind side)) line)

  meant-length : length (live_lines g p (breaker_of g.kind side)) ≡ length (lines_meant g p side)
  unfolding live_lines
  meant-length =
      length-filter (λ i. not (is_touched (points_of p (breaker_of g.kind side)) (line_at g i)))
      (range_with_len 0 (length (lines_of g)))
      ∙ count-all (λ i. not (is_touched (points_of p (breaker_of g.kind side)) (line_at g i)))
      (λ line. not (is_touched (points_of p (breaker_of g.kind side)) line)) (lines_of g)
      (λ i low. refl)
      ∙ sym (length-filter (λ line. not (is_touched (points_of p (breaker_of g.kind side)) line))
      (lines_of g))

  meant-range : (line : List ℕ) (v : ℕ)
      → Contains (lines_meant g p side) line
      → Contains line v
      → v < point_count g
  meant-range line v c d =
      let all = All-filter (λ l. not (is_touched (points_of p (breaker_of g.kind side)) l))
      (All (λ u. u < point_count g)) (lines_of g) (lines-range g) in
      All-contains (λ u. u < point_count g) line v
      (All-contains (All (λ u. u < point_count g)) (lines_meant g p side) line all c) d

  -- there are at most half as many lines meant as free points
  pub few-lines : 2 * length (live_lines g p (breaker_of g.kind side)) ≤ length (free_points g p)
  unfolding free_points
  few-lines =
      let many =
      private-many (is_free p) (point_count g) (lines_meant g p side) meant-range private_exist in
      omega (arith, many, meant-length, length-passed (is_free p) (point_count g))

  -- and none with fewer than two free points
  pub none-short : (k : ℕ) → k < 2 → live_with g p (breaker_of g.kind side) k ≡ 0
  unfolding live_with
  none-short k few = none-counted (is_live_with p (breaker_of g.kind side) k) (lines_of g)
      (λ line c. false_from_ne_true (is_live_with p (breaker_of g.kind side) k line) (λ on.
      let parts = and_parts (not (is_touched (points_of p (breaker_of g.kind side)) line)) _ on in
      let meant = Contains-filter (λ l. not (is_touched (points_of p (breaker_of g.kind side)) l))
      (lines_of g) line c parts.0 in
      let found = private-each (is_free p) (lines_meant g p side) private_exist line meant in
      let two = two-counted (is_free p) line found.0 found.1 in
      let count = eqb-true _ _ parts.1 in
      omega (arith, two, count, few)))
