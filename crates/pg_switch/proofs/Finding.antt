-- The lowest edges that pass a test, as they are found and as they are said.
use Rattle.std.proofs.Common.{◌≡◌, ℕ, ◌<◌, ◌≤◌, ◌+◌, zero, suc, Bool, true, false, not, ◌&&◌, ◌||◌}
use Rattle.std.proofs.Common.{◌⊎◌, Option, Some, None, inl, inr, refl, sym, ap, ◌∙◌, subst, arith}
use Rattle.std.specs.Prelude.{IfSome, IfNone, unwrap_or}
use Rattle.pg_switch.proofs.Common.{cases_Bool, cases_eq, both_ways, and_parts, and_from}
use Rattle.pg_switch.proofs.Common.{false_from_ne_true, true_from_ne_false, not-true}
use Rattle.pg_switch.proofs.Common.{not_from_false, find, range_with_len, FinSet, contains, remove}
use Rattle.pg_switch.proofs.Common.{nat_cmp, minus, remove-self, remove-other, remove-old}
use Rattle.pg_switch.proofs.Common.{minus_self, minus_same, Graph, edge_count, first_end_of}
use Rattle.pg_switch.proofs.Common.{second_end_of, joins_in, AreEdges, Crosses, crosses, Parts}
use Rattle.pg_switch.proofs.Common.{parts, IsLowest, joins, joins_same, joins_in-complete, Position}
use Rattle.pg_switch.proofs.Common.{is_free, IsFreeEdge, differ, lowest_crossing, lowest_parting}
use Rattle.pg_switch.proofs.Common.{lowest_free_edge}
use Rattle.pg_graph.proofs.EdgeTests.{crosses-sound, crosses-complete, parts-sound, parts-complete}
use Rattle.pg_game.proofs.Lowest.{first_from, none_from}
use Rattle.pg_switch.proofs.EdgeSets.{minus-agree}

-- ---- the lowest number below n that passes

pub first_below : (t : ℕ → Bool) (v n : ℕ)
    → v < n
    → t v ≡ true
    → ((w : ℕ) → w < v → t w ≡ false)
    → find t (range_with_len 0 n) ≡ Some v
first_below t v n high on none =
    first_from t v 0 n (omega arith) (omega arith) on (λ w above below. none w below)

pub none_below : (t : ℕ → Bool) (n : ℕ)
    → ((w : ℕ) → w < n → t w ≡ false)
    → find t (range_with_len 0 n) ≡ None
none_below t n none = none_from t 0 n (λ w above below. none w (omega arith))

-- either a number below n passes, and the lowest is found, or none is
pub record Found (t : ℕ → Bool) (n : ℕ) : Type 0 where
  pub number : ℕ
  pub low : number < n
  pub passes : t number ≡ true
  pub is : find t (range_with_len 0 n) ≡ Some number

find_from : (t : ℕ → Bool) (a n : ℕ)
    → ((v : ℕ) × (v < a + n) × (t v ≡ true) × (find t (range_with_len a n) ≡ Some v))
    ⊎ (((w : ℕ) → a ≤ w → w < a + n → t w ≡ false) × (find t (range_with_len a n) ≡ None))
find_from t a zero = inr (λ w above below. absurd (omega arith), refl)
find_from t a (suc n) = elim (cases_Bool (t a)) [
  | inl on ↦ inl (a, omega arith, on, rw on refl)
  | inr off ↦ elim (find_from t (a + 1) n) [
    | inl w ↦ inl (w.0, omega (arith, w.1), w.2, rw off w.3)
    | inr none ↦ inr (
      λ w above below. elim (cases_eq w a) [
        | inl e ↦ ap t e ∙ off
        | inr ne ↦ none.0 w (omega arith) (omega arith)
      ],
      rw off none.1,
    )
  ]
]

pub find_below-cases : (t : ℕ → Bool) (n : ℕ)
    → Found t n ⊎ (((w : ℕ) → w < n → t w ≡ false) × (find t (range_with_len 0 n) ≡ None))
find_below-cases t n = elim (find_from t 0 n) [
  | inl w ↦ inl (record { number = w.0; low = omega (arith, w.1); passes = w.2; is = w.3 })
  | inr none ↦ inr (λ w low. none.0 w (omega arith) (omega arith), none.1)
]

-- ---- free numbers

abbrev pub lowest_free : ℕ → Position → ℕ
lowest_free n p = unwrap_or (find (is_free p) (range_with_len 0 n)) 0

-- where some number below n is free, the lowest is one
pub free-free : (n : ℕ) (p : Position) (z : ℕ)
    → z < n
    → is_free p z ≡ true
    → (lowest_free n p < n) × (is_free p (lowest_free n p) ≡ true)
free-free n p z low free = elim (find_below-cases (is_free p) n) [
  | inl found ↦
      let e : found.number ≡ lowest_free n p =
      sym (ap (λ (r : Option ℕ). unwrap_or r 0) found.is) in
      subst (λ (v : ℕ). (v < n) × (is_free p v ≡ true)) e (found.low, found.passes)
  | inr none ↦ absurd (both_ways _ (none.0 z low) free)
]

pub lowest_free-free : (h : Graph) (p : Position) (z : ℕ)
    → IsFreeEdge h p z
    → IsFreeEdge h p (lowest_free_edge h p)
lowest_free-free h p z free = free-free (edge_count h) p z free.0 free.1

-- no answer is above n
pub free-bound : (n : ℕ) (p : Position) → lowest_free n p ≤ n
free-bound n p = elim (find_below-cases (is_free p) n) [
  | inl found ↦
      let e : lowest_free n p ≡ found.number = ap (λ (r : Option ℕ). unwrap_or r 0) found.is in
      omega (arith, e, found.low)
  | inr none ↦
      let e : lowest_free n p ≡ 0 = ap (λ (r : Option ℕ). unwrap_or r 0) none.1 in
      omega (arith, e)
]

-- so for what is found, or the lowest free number
pub found-bound : (t : ℕ → Bool) (n : ℕ) (p : Position)
    → unwrap_or (find t (range_with_len 0 n)) (lowest_free n p) ≤ n
found-bound t n p = elim (find_below-cases t n) [
  | inl found ↦
      let e : unwrap_or (find t (range_with_len 0 n)) (lowest_free n p) ≡ found.number =
      ap (λ (r : Option ℕ). unwrap_or r (lowest_free n p)) found.is in
      omega (arith, e, found.low)
  | inr none ↦
      let e : unwrap_or (find t (range_with_len 0 n)) (lowest_free n p) ≡ lowest_free n p =
      ap (λ (r : Option ℕ). unwrap_or r (lowest_free n p)) none.1 in
      let low = free-bound n p in
      omega (arith, e, low)
]

-- ---- candidates without e

candidate-edge : (h : Graph) (c others : FinSet nat_cmp) (k : ℕ)
    → AreEdges h (contains c)
    → others ≡ remove c (edge_count h)
    → contains others k ≡ true
    → (contains c k ≡ true) × (k < edge_count h)
candidate-edge h c others k small is on =
    let there = subst (λ (s : FinSet nat_cmp). contains s k ≡ true) is on in
    let old = remove-old c (edge_count h) k there in
    let bound = small k old in (
      old,
      elim (cases_eq k (edge_count h)) [
        | inl e ↦ absurd (both_ways _ (remove-self c (edge_count h))
            (subst (λ (z : ℕ). contains (remove c (edge_count h)) z ≡ true) e there))
        | inr ne ↦ omega arith
      ],
    )

candidate-back : (h : Graph) (c others : FinSet nat_cmp) (k : ℕ)
    → others ≡ remove c (edge_count h)
    → k < edge_count h
    → contains c k ≡ true
    → contains others k ≡ true
candidate-back h c others k is low on = subst (λ (s : FinSet nat_cmp). contains s k ≡ true) (sym is)
    (remove-other c (edge_count h) k (λ e. omega arith) ∙ on)

-- the first candidate with a fact, found by a test that decides it
lowest-found : (h : Graph) (c others : FinSet nat_cmp) (t : ℕ → Bool) (Fact : ℕ → Type 0)
    (r : Option ℕ)
    → AreEdges h (contains c)
    → others ≡ remove c (edge_count h)
    → ((k : ℕ) → t k ≡ true → Fact k)
    → ((k : ℕ) → Fact k → t k ≡ true)
    → IfSome r (λ k. IsLowest (contains others) Fact k)
    → IfNone r ((k : ℕ) → contains others k ≡ true → Fact k → ⊥)
    → r ≡ find (λ k. contains c k && t k) (range_with_len 0 (edge_count h))
lowest-found h c others t Fact (Some k) small is sound complete lowest none =
    let here = candidate-edge h c others k small is lowest.candidate in
    sym
    (first_below (λ q. contains c q && t q) k (edge_count h) here.1
    (and_from _ _ here.0 (complete k lowest.fact)) (λ w under. false_from_ne_true _ (λ on.
    let q = and_parts _ _ on in
    lowest.lowest w under (candidate-back h c others w is (omega (arith, here.1)) q.0)
    (sound w q.1))))
lowest-found h c others t Fact None small is sound complete lowest none =
    sym (none_below (λ q. contains c q && t q) (edge_count h) (λ w low. false_from_ne_true _ (λ on.
    let q = and_parts _ _ on in none w (candidate-back h c others w is low q.0) (sound w q.1))))

-- ---- crossing

differ-crosses : (h : Graph) (set : ℕ → Bool) (u k : ℕ)
    → differ (joins_in h set u (first_end_of h k)) (joins_in h set u (second_end_of h k))
    ≡ crosses h set u k
unfolding crosses
differ-crosses h set u k =
    by (joins_in h set u (first_end_of h k)) (joins_in h set u (second_end_of h k))
  where
    by : (a b : Bool) → differ a b ≡ ((a && not b) || (not a && b))
    by true true = refl
    by true false = refl
    by false true = refl
    by false false = refl

pub crossing-found : (h : Graph) (set : ℕ → Bool) (u : ℕ) (c others : FinSet nat_cmp) (r : Option ℕ)
    → AreEdges h set
    → AreEdges h (contains c)
    → others ≡ remove c (edge_count h)
    → IfSome r (λ k. IsLowest (contains others) (Crosses h set u) k)
    → IfNone r ((k : ℕ) → contains others k ≡ true → Crosses h set u k → ⊥)
    → r ≡ lowest_crossing h set u c
crossing-found h set u c others r edges small is lowest none = lowest-found h c others
    (λ k. differ (joins_in h set u (first_end_of h k)) (joins_in h set u (second_end_of h k)))
    (Crosses h set u) r small is
    (λ k on. crosses-sound h set u k edges (sym (differ-crosses h set u k) ∙ on))
    (λ k fact. differ-crosses h set u k ∙ crosses-complete h set u k edges fact) lowest none

-- the edge that is found crosses
pub crossing-cases : (h : Graph) (set : ℕ → Bool) (u : ℕ) (c : FinSet nat_cmp)
    → AreEdges h set
    → ((k : ℕ) × (k < edge_count h)
    × (contains c k ≡ true)
    × Crosses h set u k
    × (lowest_crossing h set u c ≡ Some k))
    ⊎ (((k : ℕ) → k < edge_count h → contains c k ≡ true → Crosses h set u k → ⊥)
    × (lowest_crossing h set u c ≡ None))
crossing-cases h set u c edges = elim (find_below-cases (λ k. contains c k
    && differ (joins_in h set u (first_end_of h k)) (joins_in h set u (second_end_of h k)))
    (edge_count h)) [
      | inl found ↦
          let q = and_parts _ _ found.passes in
          inl (
            found.number,
            found.low,
            q.0,
            crosses-sound h set u found.number edges
                (sym (differ-crosses h set u found.number) ∙ q.1),
            found.is,
          )
      | inr none ↦ inr (
        λ k low on fact. both_ways _ (none.0 k low)
            (and_from _ _ on (differ-crosses h set u k ∙ crosses-complete h set u k edges fact)),
        none.1,
      )
    ]

-- ---- parting

-- a test of parting over what agrees on the edges
parting-test : (h : Graph) (x y : ℕ → Bool) (u v k : ℕ)
    → ((z : ℕ) → z < suc (edge_count h) → x z ≡ y z)
    → joins_in h (minus x k) u v ≡ joins_in h (minus y k) u v
parting-test h x y u v k same = joins_same (first_end_of h) (second_end_of h) (minus x k)
    (minus y k) (suc (edge_count h)) u v (minus-agree x y k (suc (edge_count h)) same)

pub joins-agree : (h : Graph) (x y : ℕ → Bool) (u v : ℕ)
    → ((z : ℕ) → z < suc (edge_count h) → x z ≡ y z)
    → joins_in h x u v ≡ joins_in h y u v
joins-agree h x y u v same =
    joins_same (first_end_of h) (second_end_of h) x y (suc (edge_count h)) u v same

-- an edge without which the set joins no longer is one of the set
parting-member : (set : ℕ → Bool) (a b : ℕ → ℕ) (n u v k : ℕ)
    → joins a b set n u v ≡ true
    → joins a b (minus set k) n u v ≡ false
    → set k ≡ true
parting-member set a b n u v k on off = true_from_ne_false _
    (λ out. both_ways _ off (joins_same a b (minus set k) set n u v (λ z low. elim (cases_eq k z) [
      | inl e ↦ subst (λ (q : ℕ). minus set k q ≡ set q) e (minus_self set k ∙ sym out)
      | inr ne ↦ minus_same set k z ne
    ])
    ∙ on))

parting-sound : (h : Graph) (set wide : ℕ → Bool) (u v k : ℕ)
    → AreEdges h set
    → ((z : ℕ) → z < suc (edge_count h) → wide z ≡ set z)
    → joins_in h wide u v ≡ true
    → joins_in h (minus wide k) u v ≡ false
    → Parts h set u v k
unfolding parts
parting-sound h set wide u v k edges same on out =
    let off = sym (parting-test h wide set u v k same) ∙ out in
    let here = sym (joins-agree h wide set u v same) ∙ on in
    parts-sound h set u v k edges
    (and_from _ _
    (parting-member set (first_end_of h) (second_end_of h) (suc (edge_count h)) u v k here off)
    (and_from _ _ here (not_from_false _ off)))

parting-complete : (h : Graph) (set : ℕ → Bool) (u v k : ℕ)
    → AreEdges h set
    → Parts h set u v k
    → joins_in h (minus set k) u v ≡ false
unfolding parts
parting-complete h set u v k edges fact =
    not-true _ (and_parts _ _ (and_parts _ _ (parts-complete h set u v k edges fact)).1).1

parting-nowhere : (h : Graph) (set wide candidates : ℕ → Bool) (u v : ℕ) (r : Option ℕ)
    → AreEdges h set
    → joins_in h wide u v ≡ joins_in h set u v
    → joins_in h wide u v ≡ false
    → IfSome r (λ k. IsLowest candidates (Parts h set u v) k)
    → r ≡ None
parting-nowhere h set wide candidates u v None edges whole off lowest = refl
parting-nowhere h set wide candidates u v (Some k) edges whole off lowest =
    absurd (both_ways _ (sym whole ∙ off) (joins_in-complete h set u v edges lowest.fact.joined))

pub parting-found : (h : Graph) (set wide : ℕ → Bool) (u v : ℕ) (c others : FinSet nat_cmp)
    (r : Option ℕ)
    → AreEdges h set
    → AreEdges h (contains c)
    → others ≡ remove c (edge_count h)
    → ((z : ℕ) → z < suc (edge_count h) → wide z ≡ set z)
    → IfSome r (λ k. IsLowest (contains others) (Parts h set u v) k)
    → IfNone r ((k : ℕ) → contains others k ≡ true → Parts h set u v k → ⊥)
    → r ≡ lowest_parting h wide u v c
parting-found h set wide u v c others r edges small is same lowest none =
    elim (cases_Bool (joins_in h wide u v)) [
      | inl on ↦
          lowest-found h c others (λ k. not (joins_in h (minus wide k) u v)) (Parts h set u v) r
          small is (λ k out. parting-sound h set wide u v k edges same on (not-true _ out))
          (λ k fact. not_from_false _
          (parting-test h wide set u v k same ∙ parting-complete h set u v k edges fact)) lowest
          none
          ∙ sym (rw on refl)
      | inr off ↦ parting-nowhere h set wide (contains others) u v r edges
          (joins-agree h wide set u v same) off lowest
          ∙ sym (rw off refl)
    ]

-- the edge that is found parts
pub parting-cases : (h : Graph) (set : ℕ → Bool) (u v : ℕ) (c : FinSet nat_cmp)
    → joins_in h set u v ≡ true
    → ((k : ℕ) × (k < edge_count h)
    × (contains c k ≡ true)
    × (joins_in h (minus set k) u v ≡ false)
    × (lowest_parting h set u v c ≡ Some k))
    ⊎ ((k : ℕ) → k < edge_count h → contains c k ≡ true → joins_in h (minus set k) u v ≡ true)
parting-cases h set u v c on = elim (find_below-cases (λ k.
    contains c k && not (joins_in h (minus set k) u v)) (edge_count h)) [
      | inl found ↦
          let q = and_parts _ _ found.passes in
          inl (found.number, found.low, q.0, not-true _ q.1, rw on found.is)
      | inr none ↦ inr (λ k low in_c. true_from_ne_false _
          (λ off. both_ways _ (none.0 k low) (and_from _ _ in_c (not_from_false _ off))))
    ]

pub parting-apart : (h : Graph) (set : ℕ → Bool) (u v : ℕ) (c : FinSet nat_cmp)
    → joins_in h set u v ≡ false
    → lowest_parting h set u v c ≡ None
parting-apart h set u v c off = rw off refl
