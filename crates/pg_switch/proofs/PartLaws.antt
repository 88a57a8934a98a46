-- Parts force Breaker's win in a connectivity game.
use Rattle.std.proofs.Common.{◌≡◌, ◌≢◌, ℕ, ◌+◌, ◌*◌, ◌<◌, ◌≤◌, zero, suc, Bool, true, false, ◌&&◌}
use Rattle.std.proofs.Common.{refl, inl, inr, sym, ap, subst, arith}
use Rattle.pg_switch.proofs.Common.{cases_Bool, both_ways, and_parts, and_from, false_from_ne_true}
use Rattle.pg_switch.proofs.Common.{not-true, contains, plus, minus, below, count, IsWithin, Win}
use Rattle.pg_switch.proofs.Common.{Side, Y, below_parts, below_from, find_below, minus_parts}
use Rattle.pg_switch.proofs.Common.{minus_from, plus_cases, plus_old, plus_new, count_le}
use Rattle.pg_switch.proofs.Common.{count_plus, count_minus, one_if-false, joins, joins_more}
use Rattle.pg_switch.proofs.Common.{Position, is_free, ForcesBy}
use Rattle.pg_switch.specs.Claims.{IsMonotone, IsPlace}
use Rattle.pg_switch.specs.Span.{joins_below, joins_pairs, joins_all, connectivity_rules, image}
use Rattle.pg_switch.specs.Span.{crosses, crossing, spare, AreParts}
use Rattle.pg_switch.proofs.ClaimLaws.{CanAnswer, next, free-next, x-plus, x-same, y_wins}
use Rattle.pg_switch.proofs.ClaimLaws.{forces-ready}
use Rattle.pg_switch.proofs.PartLemmas.{crossing_many}

module _ (a b : ℕ → ℕ) (m : ℕ) (label : ℕ → ℕ) where
  abbrev marks : (ℕ → Bool) → ℕ → Bool
  marks set f = set f && crosses a b label f

  pub crossing-less : (s t : ℕ → Bool)
      → ((f : ℕ) → f < m → s f ≡ true → t f ≡ true)
      → crossing a b m label s ≤ crossing a b m label t
  crossing-less s t w = count_le (marks s) (marks t) m (λ f l h.
      let p : (s f ≡ true) × (crosses a b label f ≡ true) =
      and_parts (s f) (crosses a b label f) h in
      and_from _ _ (w f l p.0) p.1)

  pub crossing-minus : (s t : ℕ → Bool) (v : ℕ)
      → IsWithin t (minus s v)
      → s v ≡ true
      → crosses a b label v ≡ true
      → v < m
      → crossing a b m label t + 1 ≤ crossing a b m label s
  crossing-minus s t v w sv cv l =
      let one : count (minus (marks s) v) m + 1 ≡ count (marks s) m =
      count_minus (marks s) v m (and_from _ _ sv cv) l in
      let less : count (marks t) m ≤ count (minus (marks s) v) m =
      count_le (marks t) (minus (marks s) v) m (λ f k h.
      let p : (t f ≡ true) × (crosses a b label f ≡ true) =
      and_parts (t f) (crosses a b label f) h in
      let q : (s f ≡ true) × (v ≢ f) = minus_parts s v f (w f p.0) in
      minus_from (marks s) v f (and_from _ _ q.0 p.1) q.1) in
      omega arith

  pub crossing-plus : (s t : ℕ → Bool) (v : ℕ)
      → IsWithin t (plus s v)
      → s v ≡ false
      → v < m
      → crossing a b m label t ≤ crossing a b m label s + 1
  crossing-plus s t v w sv l =
      let one : count (plus (marks s) v) m ≡ count (marks s) m + 1 = count_plus (marks s) v m
      (false_from_ne_true _ (λ h. both_ways _ sv (and_parts (s v) (crosses a b label v) h).0)) l in
      let less : count (marks t) m ≤ count (plus (marks s) v) m =
      count_le (marks t) (plus (marks s) v) m (λ f k h.
      let p : (t f ≡ true) × (crosses a b label f ≡ true) =
      and_parts (t f) (crosses a b label f) h in
      elim (plus_cases s v f (w f p.0)) [
        | inl q ↦ plus_old (marks s) v f (and_from _ _ q p.1)
        | inr e ↦ plus_new (marks s) v f e
      ]) in
      omega arith

  pub crossing-plus_off : (s t : ℕ → Bool) (v : ℕ)
      → IsWithin t (plus s v)
      → crosses a b label v ≡ false
      → crossing a b m label t ≤ crossing a b m label s
  crossing-plus_off s t v w off = count_le (marks t) (marks s) m (λ f k h.
      let p : (t f ≡ true) × (crosses a b label f ≡ true) =
      and_parts (t f) (crosses a b label f) h in
      elim (plus_cases s v f (w f p.0)) [
        | inl q ↦ and_from _ _ q p.1
        | inr e ↦
            absurd (both_ways _ off (subst (λ (j : ℕ). crosses a b label j ≡ true) (sym e) p.1))
      ])

  pub crossing-none : (s : ℕ → Bool) (k : ℕ)
      → ((f : ℕ) → f < k → (s f && crosses a b label f) ≡ false)
      → count (marks s) k ≤ 0
  unfolding count
  crossing-none s zero none = omega arith
  crossing-none s (suc k) none =
      let here = one_if-false (marks s k) (none k (omega arith)) in
      let rest = crossing-none s k (λ f l. none f (omega arith)) in
      omega arith

-- ---- more edges join more

module _ (a b : ℕ → ℕ) (m n : ℕ) where
  more_below : (s t : ℕ → Bool) (u k : ℕ)
      → IsWithin s t
      → joins_below a b m s u k ≡ true
      → joins_below a b m t u k ≡ true
  unfolding joins_below
  more_below s t u zero w h = refl
  more_below s t u (suc k) w h =
      let p = and_parts (joins a b s m u k) (joins_below a b m s u k) h in
      and_from _ _ (joins_more a b s t m u k (λ f l i. w f i) p.0) (more_below s t u k w p.1)

  more_pairs : (s t : ℕ → Bool) (k : ℕ)
      → IsWithin s t
      → joins_pairs a b m n s k ≡ true
      → joins_pairs a b m n t k ≡ true
  unfolding joins_pairs
  more_pairs s t zero w h = refl
  more_pairs s t (suc k) w h =
      let p = and_parts (joins_below a b m s k n) (joins_pairs a b m n s k) h in
      and_from _ _ (more_below s t k n w p.0) (more_pairs s t k w p.1)

  pub joins_all-more : IsMonotone (joins_all a b m n)
  joins_all-more s t w h = more_pairs s t n w h

-- ---- Breaker's answers

module _ (a b : ℕ → ℕ) (m n bound : ℕ) (label : ℕ → ℕ) where
  abbrev all : (ℕ → Bool) → Bool
  all set = joins_all a b m n set

  abbrev taken : Position → ℕ
  taken p = crossing a b m label (contains p.x)

  abbrev open_edges : Position → ℕ
  open_edges p = crossing a b m label (is_free p)

  abbrev parts : ℕ
  parts = count (image label n) bound

  -- with so many edges to spare
  record Stands (extra : ℕ) (p : Position) : Type 0 where
    pub few_taken : taken p + 2 ≤ parts
    pub few_free : open_edges p + 2 * taken p + 4 ≤ 2 * parts + extra

  free_in : (p : Position) (v : ℕ)
      → IsWithin (below (is_free (next m all p v)) m) (minus (below (is_free p) m) v)
  free_in p v z h = subst (λ (s : ℕ → Bool). s z ≡ true) (free-next m all p v) h

  -- the free crossing edges after a move
  open-next : (p : Position) (v : ℕ) → open_edges (next m all p v) ≤ open_edges p
  open-next p v = crossing-less a b m label (is_free (next m all p v)) (is_free p) (λ f l h.
      (below_parts (is_free p) m f (minus_parts (below (is_free p) m) v f
      (free_in p v f (below_from (is_free (next m all p v)) m f h l))).0).0)

  open-less : (p : Position) (v : ℕ)
      → v < m
      → is_free p v ≡ true
      → crosses a b label v ≡ true
      → open_edges (next m all p v) + 1 ≤ open_edges p
  open-less p v l free cross =
      let first : open_edges (next m all p v)
      ≤ crossing a b m label (below (is_free (next m all p v)) m) =
      crossing-less a b m label _ _ (λ f k h. below_from (is_free (next m all p v)) m f h k) in
      let one : crossing a b m label (below (is_free (next m all p v)) m) + 1
      ≤ crossing a b m label (below (is_free p) m) =
      crossing-minus a b m label (below (is_free p) m) (below (is_free (next m all p v)) m) v
      (free_in p v) (below_from (is_free p) m v free l) cross l in
      let last : crossing a b m label (below (is_free p) m) ≤ open_edges p =
      crossing-less a b m label _ _ (λ f k h. (below_parts (is_free p) m f h).0) in
      omega arith

  part_answers : CanAnswer m all Y (Stands 0) (Stands 1)
  part_answers = record {
    owed = λ p s. record { few_taken = s.few_taken; few_free = omega (arith, s.few_free) };
    ends = λ p place s over. y_wins m all p (false_from_ne_true _ (λ h.
        let many = crossing_many a b (contains p.x) label n bound m h in
        omega (arith, many, s.few_taken)));
    own = λ p place s mine z fz.
        let q = below_parts (is_free p) m z fz in
        elim (find_below (λ f. is_free p f && crosses a b label f) m) [
          | inl w ↦
              let c : (is_free p w.0 ≡ true) × (crosses a b label w.0 ≡ true) =
              and_parts (is_free p w.0) (crosses a b label w.0) w.2 in
              let same : taken (next m all p w.0) ≡ taken p =
              ap (λ (t : ℕ → Bool). crossing a b m label t) (x-same m all p w.0 mine) in
              let less = open-less p w.0 w.1 c.0 c.1 in (
                w.0,
                below_from (is_free p) m w.0 c.0 w.1,
                record {
                  few_taken = omega (arith, same, s.few_taken);
                  few_free = omega (arith, same, less, s.few_free);
                },
              )
          | inr none ↦
              let same : taken (next m all p z) ≡ taken p =
              ap (λ (t : ℕ → Bool). crossing a b m label t) (x-same m all p z mine) in
              let less = open-next p z in
              let zero_open : open_edges p ≤ 0 = crossing-none a b m label (is_free p) m none in (
                z,
                fz,
                record {
                  few_taken = omega (arith, same, s.few_taken);
                  few_free = omega (arith, same, less, zero_open, s.few_taken);
                },
              )
        ];
    theirs = λ p place s yours v fv.
        let q = below_parts (is_free p) m v fv in
        let x : contains (next m all p v).x ≡ plus (contains p.x) v = x-plus m all p v yours in
        let inside : IsWithin (contains (next m all p v).x) (plus (contains p.x) v) =
        λ f h. subst (λ (t : ℕ → Bool). t f ≡ true) x h in
        let out : contains p.x v ≡ false = not-true _ (and_parts _ _ q.0).0 in
        elim (cases_Bool (crosses a b label v)) [
          | inl on ↦
              let more = crossing-plus a b m label (contains p.x)
              (contains (next m all p v).x) v inside out q.1 in
              let less = open-less p v q.1 q.0 on in
              record {
                few_taken = omega (arith, more, less, s.few_taken, s.few_free);
                few_free = omega (arith, more, less, s.few_free);
              }
          | inr off ↦
              let more = crossing-plus_off a b m label (contains p.x)
              (contains (next m all p v).x) v inside off in
              let less = open-next p v in
              record {
                few_taken = omega (arith, more, s.few_taken);
                few_free = omega (arith, more, less, s.few_free);
              }
        ];
  }

  -- parts force Y's win
  pub ForcesBy-parts : (p : Position)
      → IsPlace m p
      → AreParts a b m n bound label p
      → ForcesBy (connectivity_rules a b m n) p Y Win
  ForcesBy-parts p place t = forces-ready m all (joins_all-more a b m n) Y (Stands 0)
      (Stands 1) part_answers p place (λ mine. record {
        few_taken = t.few_taken;
        few_free = subst (λ (s : Side). open_edges p + 2 * taken p + 4 ≤ 2 * parts + spare s) mine
            t.few_free;
      }) (λ yours. record {
        few_taken = t.few_taken;
        few_free = subst (λ (s : Side). open_edges p + 2 * taken p + 4 ≤ 2 * parts + spare s) yours
            t.few_free;
      })
