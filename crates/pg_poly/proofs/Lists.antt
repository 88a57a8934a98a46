-- Lists of lists in order.
use Rattle.std.proofs.Common.{◌≡◌, ◌∙◌, ℕ, zero, suc, ◌+◌, ◌<◌, ◌≤◌, Bool, true, false, cond, ◌||◌}
use Rattle.std.proofs.Common.{List, [], ◌∷◌, ◌++◌, map, length, refl, sym, subst, ap, ap₂, arith}
use Rattle.std.proofs.Common.{inl, inr, true≢false}
use Rattle.std.specs.Prelude.{◌⊎◌, ⊤, filter}
use Rattle.pg_poly.proofs.Common.{AllPairs, Contains, list_any, remove, IsPermutation}
use Rattle.pg_poly.proofs.Common.{IsStrictlyIncreasing, cases_Bool, cases_eq, or_cases}
use Rattle.pg_poly.proofs.Common.{Contains-append_cases, Contains-append_left}
use Rattle.pg_poly.proofs.Common.{Contains-append_right, Contains-get_or, AllPairs-cons}
use Rattle.pg_poly.proofs.Common.{AllPairs-from_increasing, IsPermutation-cons, IsPermutation-refl}
use Rattle.pg_poly.proofs.Common.{IsPermutation-remove, IsPermutation-sym, IsPermutation-trans}
use Rattle.pg_poly.proofs.Common.{Contains-permutation, length_permutation}
use Rattle.pg_poly.specs.Placements.{IsBefore}
use Rattle.pg_poly.specs.Listed.{lists_from}

module _ {X : Type 0} where
  pub here : (x : X) (xs : List X) → Contains (x ∷ xs) x
  here x xs = (0, omega arith, refl)

  pub later : (x y : X) (xs : List X) → Contains xs y → Contains (x ∷ xs) y
  later x y xs (k, lt, e) = (suc k, omega arith, e)

  pub either : (x y : X) (xs : List X) → Contains (x ∷ xs) y → (x ≡ y) ⊎ Contains xs y
  either x y xs (zero, lt, e) = inl e
  either x y xs (suc k, lt, e) = inr (k, omega arith, e)

  pub none : (y : X) → Contains [] y → ⊥
  none y (k, lt, e) = omega arith

  pub any_from : (p : X → Bool) (xs : List X)
      → list_any p xs ≡ true
      → (x : X) × Contains xs x × (p x ≡ true)
  any_from p [] h = absurd (true≢false (sym h))
  any_from p (x ∷ xs) h = elim (or_cases (p x) (list_any p xs) h) [
    | inl e ↦ (x, here x xs, e)
    | inr rest ↦ let found = any_from p xs rest in (found.0, later x found.0 xs found.1, found.2)
  ]

  pub any_to : (p : X → Bool) (xs : List X) (x : X)
      → Contains xs x
      → p x ≡ true
      → list_any p xs ≡ true
  any_to p [] x h e = absurd (none x h)
  any_to p (y ∷ ys) x h e = elim (either y x ys h) [
    | inl same ↦ ap (λ b. b || list_any p ys) (ap p same ∙ e)
    | inr rest ↦ last (p y) (list_any p ys) (any_to p ys x rest e)
  ]
    where
      last : (a b : Bool) → b ≡ true → (a || b) ≡ true
      last true b h = refl
      last false b h = h

  pub filter_from : (p : X → Bool) (xs : List X) (x : X)
      → Contains (filter p xs) x
      → Contains xs x × (p x ≡ true)
  filter_from p [] x h = absurd (none x h)
  filter_from p (y ∷ ys) x h = elim (cases_Bool (p y)) [
    | inl passes ↦ elim (either y x (filter p ys)
        (subst (λ b. Contains (cond b (y ∷ filter p ys) (filter p ys)) x) passes h)) [
          | inl same ↦ (subst (Contains (y ∷ ys)) same (here y ys), sym (ap p same) ∙ passes)
          | inr rest ↦ let found = filter_from p ys x rest in (later y x ys found.0, found.1)
        ]
    | inr fails ↦
        let found = filter_from p ys x
        (subst (λ b. Contains (cond b (y ∷ filter p ys) (filter p ys)) x) fails h) in
        (later y x ys found.0, found.1)
  ]

  pub filter_to : (p : X → Bool) (xs : List X) (x : X)
      → Contains xs x
      → p x ≡ true
      → Contains (filter p xs) x
  filter_to p [] x h e = h
  filter_to p (y ∷ ys) x h e = elim (either y x ys h) [
    | inl same ↦ subst (λ b. Contains (cond b (y ∷ filter p ys) (filter p ys)) x)
        (sym (ap p same ∙ e)) (subst (Contains (y ∷ filter p ys)) same (here y (filter p ys)))
    | inr rest ↦ wider (p y) (filter_to p ys x rest e)
  ]
    where
      wider : (b : Bool)
          → Contains (filter p ys) x
          → Contains (cond b (y ∷ filter p ys) (filter p ys)) x
      wider true c = later y x (filter p ys) c
      wider false c = c

  pub pairs_rest : (R : X → X → Type 0) (x : X) (xs : List X) → AllPairs R (x ∷ xs) → AllPairs R xs
  pairs_rest R x xs h i j d before inside = h (suc i) (suc j) d (omega arith) (omega arith)

  pub pairs_first : (R : X → X → Type 0) (x y : X) (xs : List X)
      → AllPairs R (x ∷ xs)
      → Contains xs y
      → R x y
  pairs_first R x y xs h (k, lt, e) = subst (R x) e (h 0 (suc k) y (omega arith) (omega arith))

  pub pairs_cons : (R : X → X → Type 0) (x : X) (xs : List X)
      → ((y : X) → Contains xs y → R x y)
      → AllPairs R xs
      → AllPairs R (x ∷ xs)
  pairs_cons R x xs first h = AllPairs-cons R x xs (λ k d lt. first _ (Contains-get_or xs k d lt)) h

  pub pairs_append : (R : X → X → Type 0) (xs ys : List X)
      → ((x y : X) → Contains xs x → Contains ys y → R x y)
      → AllPairs R xs
      → AllPairs R ys
      → AllPairs R (xs ++ ys)
  pairs_append R [] ys cross h k = k
  pairs_append R (x ∷ xs) ys cross h k =
      pairs_cons R x (xs ++ ys) (λ y c. elim (Contains-append_cases xs ys y c) [
        | inl left ↦ pairs_first R x y xs h left
        | inr right ↦ cross x y (here x xs) right
      ]) (pairs_append R xs ys (λ a b c d. cross a b (later x a xs c) d) (pairs_rest R x xs h) k)

-- ---- lists in order that have the same members are equal

module _ {X : Type 0} (R : X → X → Type 0) (not_both : (x y : X) → R x y → R y x → ⊥) where
  not_self : (x : X) → R x x → ⊥
  not_self x h = not_both x x h h

  pub one_order : (xs ys : List X)
      → AllPairs R xs
      → AllPairs R ys
      → ((x : X) → Contains xs x → Contains ys x)
      → ((x : X) → Contains ys x → Contains xs x)
      → xs ≡ ys
  one_order [] [] h k there back = refl
  one_order [] (y ∷ ys) h k there back = absurd (none y (back y (here y ys)))
  one_order (x ∷ xs) [] h k there back = absurd (none x (there x (here x xs)))
  one_order (x ∷ xs) (y ∷ ys) h k there back =
      ap₂ (λ l ls. l ∷ ls) first (one_order xs ys (pairs_rest R x xs h) (pairs_rest R y ys k)
      (λ v c. elim (either y v ys (there v (later x v xs c))) [
        | inl e ↦ absurd (not_self x (subst (R x) (sym (first ∙ e)) (pairs_first R x v xs h c)))
        | inr rest ↦ rest
      ])
      (λ v c. elim (either x v xs (back v (later y v ys c))) [
        | inl e ↦ absurd (not_self y (subst (R y) (sym e ∙ first) (pairs_first R y v ys k c)))
        | inr rest ↦ rest
      ]))
    where
      first : x ≡ y
      first = elim (either y x ys (there x (here x xs))) [
        | inl e ↦ sym e
        | inr right ↦ elim (either x y xs (back y (here y ys))) [
          | inl e ↦ e
          | inr left ↦
              absurd (not_both x y (pairs_first R x y xs h left) (pairs_first R y x ys k right))
        ]
      ]

-- of points in two orders that both ascend
pub one_order_of_points : (xs ys : List ℕ)
    → IsPermutation xs ys
    → IsStrictlyIncreasing xs
    → IsStrictlyIncreasing ys
    → ys ≡ xs
one_order_of_points xs ys moved rising risen = one_order (λ x y. x < y) (λ x y h k. omega arith) ys
    xs (AllPairs-from_increasing ys risen) (AllPairs-from_increasing xs rising)
    (λ v c. Contains-permutation ys xs v (IsPermutation-sym xs ys moved) c)
    (λ v c. Contains-permutation xs ys v moved c)

not_both_before : (xs ys : List ℕ) → IsBefore xs ys → IsBefore ys xs → ⊥
not_both_before [] [] h k = h
not_both_before [] (y ∷ ys) h k = k
not_both_before (x ∷ xs) [] h k = h
not_both_before (x ∷ xs) (y ∷ ys) (inl lt) (inl gt) = omega arith
not_both_before (x ∷ xs) (y ∷ ys) (inl lt) (inr (e, k)) = omega arith
not_both_before (x ∷ xs) (y ∷ ys) (inr (e, h)) (inl gt) = omega arith
not_both_before (x ∷ xs) (y ∷ ys) (inr (e, h)) (inr (f, k)) = not_both_before xs ys h k

pub one_order_of_lists : (xs ys : List (List ℕ))
    → AllPairs IsBefore xs
    → AllPairs IsBefore ys
    → ((line : List ℕ) → Contains xs line → Contains ys line)
    → ((line : List ℕ) → Contains ys line → Contains xs line)
    → xs ≡ ys
one_order_of_lists xs ys h k there back = one_order IsBefore not_both_before xs ys h k there back

-- ---- the ascending lists of the next numbers

-- numbers from a on and below e, ascending
abbrev pub Rises : ℕ → ℕ → List ℕ → Type 0
Rises a e [] = ⊤
Rises a e (x ∷ xs) = (a ≤ x) × (x < e) × Rises (x + 1) e xs

pub rises_earlier : (a b e : ℕ) (xs : List ℕ) → b ≤ a → Rises a e xs → Rises b e xs
rises_earlier a b e [] le h = tt
rises_earlier a b e (x ∷ xs) le h = let low = h.0 in (omega arith, h.1, h.2)

map_to : (a : ℕ) (xss : List (List ℕ)) (xs : List ℕ)
    → Contains xss xs
    → Contains (map (λ ys. a ∷ ys) xss) (a ∷ xs)
map_to a [] xs h = absurd (none xs h)
map_to a (ys ∷ xss) xs h = elim (either ys xs xss h) [
  | inl same ↦ subst (λ zs. Contains (map (λ ys. a ∷ ys) (ys ∷ xss)) (a ∷ zs)) same
      (here (a ∷ ys) (map (λ ys. a ∷ ys) xss))
  | inr rest ↦ later (a ∷ ys) (a ∷ xs) (map (λ ys. a ∷ ys) xss) (map_to a xss xs rest)
]

map_from : (a : ℕ) (xss : List (List ℕ)) (line : List ℕ)
    → Contains (map (λ ys. a ∷ ys) xss) line
    → (xs : List ℕ) × Contains xss xs × (a ∷ xs ≡ line)
map_from a [] line h = absurd (none line h)
map_from a (ys ∷ xss) line h = elim (either (a ∷ ys) line (map (λ ys. a ∷ ys) xss) h) [
  | inl same ↦ (ys, here ys xss, same)
  | inr rest ↦
      let found = map_from a xss line rest in
      (found.0, later ys found.0 xss found.1, found.2)
]

pub lists_rise : (a k e : ℕ) (line : List ℕ)
    → a + k ≡ e
    → Contains (lists_from a k) line
    → (0 < length line) × Rises a e line
lists_rise a zero e line is h = absurd (none line h)
lists_rise a (suc k) e line is h = elim (either (a ∷ []) line
    (map (λ xs. a ∷ xs) (lists_from (a + 1) k) ++ lists_from (a + 1) k) h) [
      | inl same ↦ subst (λ l. (0 < length l) × Rises a e l) same
          (omega arith, (omega arith, omega arith, tt))
      | inr rest ↦ elim (Contains-append_cases (map (λ xs. a ∷ xs) (lists_from (a + 1) k))
          (lists_from (a + 1) k) line rest) [
            | inl longer ↦
                let found = map_from a (lists_from (a + 1) k) line longer in
                let inner = lists_rise (a + 1) k e found.0 (omega arith) found.1 in
                subst (λ l. (0 < length l) × Rises a e l) found.2
                (omega arith, (omega arith, omega arith, inner.1))
            | inr other ↦
                let inner = lists_rise (a + 1) k e line (omega arith) other in
                (inner.0, rises_earlier (a + 1) a e line (omega arith) inner.1)
          ]
    ]

pub lists_whole : (a k e : ℕ) (line : List ℕ)
    → a + k ≡ e
    → 0 < length line
    → Rises a e line
    → Contains (lists_from a k) line
lists_whole a k e [] is some h = absurd (omega arith)
lists_whole a zero e (x ∷ xs) is some h = let low = h.0 in let high = h.1 in absurd (omega arith)
lists_whole a (suc k) e (x ∷ xs) is some h = elim (cases_eq a x) [
  | inl same ↦ begins xs
      (λ some. lists_whole (a + 1) k e xs (omega arith) some
      (subst (λ b. Rises (b + 1) e xs) (sym same) h.2)) same
  | inr other ↦ let low = h.0 in
      later (a ∷ []) (x ∷ xs) (map (λ ys. a ∷ ys) (lists_from (a + 1) k) ++ lists_from (a + 1) k)
      (Contains-append_right (map (λ ys. a ∷ ys) (lists_from (a + 1) k)) (lists_from (a + 1) k)
      (x ∷ xs) (lists_whole (a + 1) k e (x ∷ xs) (omega arith) some (omega arith, h.1, h.2)))
]
  where
    begins : (ys : List ℕ)
        → (0 < length ys → Contains (lists_from (a + 1) k) ys)
        → a ≡ x
        → Contains (lists_from a (suc k)) (x ∷ ys)
    begins [] r same = subst (λ b. Contains (lists_from a (suc k)) (b ∷ [])) same
        (here (a ∷ []) (map (λ ys. a ∷ ys) (lists_from (a + 1) k) ++ lists_from (a + 1) k))
    begins (y ∷ ys) r same = subst (λ b. Contains (lists_from a (suc k)) (b ∷ y ∷ ys)) same
        (later (a ∷ []) (a ∷ y ∷ ys)
        (map (λ ys. a ∷ ys) (lists_from (a + 1) k) ++ lists_from (a + 1) k)
        (Contains-append_left (map (λ ys. a ∷ ys) (lists_from (a + 1) k)) (lists_from (a + 1) k)
        (a ∷ y ∷ ys) (map_to a (lists_from (a + 1) k) (y ∷ ys) (r (omega arith)))))

map_ordered : (a : ℕ) (xss : List (List ℕ))
    → AllPairs IsBefore xss
    → AllPairs IsBefore (map (λ xs. a ∷ xs) xss)
map_ordered a [] h = λ i j d before inside. absurd (omega arith)
map_ordered a (xs ∷ xss) h = pairs_cons IsBefore (a ∷ xs) (map (λ ys. a ∷ ys) xss) (λ line c.
    let found = map_from a xss line c in
    subst (IsBefore (a ∷ xs)) found.2 (inr (refl, pairs_first IsBefore xs found.0 xss h found.1)))
    (map_ordered a xss (pairs_rest IsBefore xs xss h))

starts_before : (a e : ℕ) (xs ys : List ℕ)
    → 0 < length ys
    → Rises (a + 1) e ys
    → IsBefore (a ∷ xs) ys
starts_before a e xs [] some h = absurd (omega arith)
starts_before a e xs (y ∷ ys) some h = let low = h.0 in inl (omega arith)

longer_after : (a : ℕ) (ys : List ℕ) → 0 < length ys → IsBefore (a ∷ []) (a ∷ ys)
longer_after a [] some = absurd (omega arith)
longer_after a (y ∷ ys) some = inr (refl, tt)

pub lists_ordered : (a k : ℕ) → AllPairs IsBefore (lists_from a k)
lists_ordered a zero = λ i j d before inside. absurd (omega arith)
lists_ordered a (suc k) =
    let rest = lists_from (a + 1) k in
    let longer = map (λ xs. a ∷ xs) rest in
    pairs_cons IsBefore (a ∷ []) (longer ++ rest)
    (λ line c. elim (Contains-append_cases longer rest line c) [
      | inl left ↦
          let found = map_from a rest line left in
          subst (IsBefore (a ∷ [])) found.2
          (longer_after a found.0 (lists_rise (a + 1) k (a + 1 + k) found.0 refl found.1).0)
      | inr right ↦
          let rises = lists_rise (a + 1) k (a + 1 + k) line refl right in
          starts_before a (a + 1 + k) [] line rises.0 rises.1
    ]) (pairs_append IsBefore longer rest (λ x y c d.
    let found = map_from a rest x c in
    let rises = lists_rise (a + 1) k (a + 1 + k) y refl d in
    subst (λ l. IsBefore l y) found.2 (starts_before a (a + 1 + k) found.0 y rises.0 rises.1))
    (map_ordered a rest (lists_ordered (a + 1) k)) (lists_ordered (a + 1) k))

-- ---- ascending points

pub rises_pairs : (a e : ℕ) (xs : List ℕ) → Rises a e xs → AllPairs (λ x y. x < y) xs
rises_pairs a e [] h = λ i j d before inside. absurd (omega arith)
rises_pairs a e (x ∷ xs) h = pairs_cons (λ x y. x < y) x xs
    (λ y c. let le = above (x + 1) xs y h.2 c in omega arith) (rises_pairs (x + 1) e xs h.2)
  where
    above : (b : ℕ) (ys : List ℕ) (y : ℕ) → Rises b e ys → Contains ys y → b ≤ y
    above b [] y r c = absurd (none y c)
    above b (z ∷ ys) y r c = elim (either z y ys c) [
      | inl same ↦ let low = r.0 in omega arith
      | inr rest ↦ let low = r.0 in let le = above (z + 1) ys y r.2 rest in omega arith
    ]

pub increasing_from_rises : (a e : ℕ) (xs : List ℕ) → Rises a e xs → IsStrictlyIncreasing xs
increasing_from_rises a e xs h k inside = rises_pairs a e xs h k (k + 1) 0 (omega arith) inside

pub rises_from_pairs : (a e : ℕ) (xs : List ℕ)
    → AllPairs (λ x y. x < y) xs
    → ((x : ℕ) → Contains xs x → (a ≤ x) × (x < e))
    → Rises a e xs
rises_from_pairs a e [] h within = tt
rises_from_pairs a e (x ∷ xs) h within =
    let own = within x (here x xs) in (
      own.0,
      own.1,
      rises_from_pairs (x + 1) e xs (pairs_rest (λ x y. x < y) x xs h) (λ y c.
          let lt = pairs_first (λ x y. x < y) x y xs h c in
          let inside = within y (later x y xs c) in (omega arith, inside.1)),
    )

-- different numbers, as many as the points, all of which are points, are the points
pub permuted : (points line : List ℕ)
    → AllPairs (λ x y. x < y) line
    → length line ≡ length points
    → ((v : ℕ) → Contains line v → Contains points v)
    → IsPermutation points line
permuted [] [] h count all = IsPermutation-refl []
permuted (p ∷ points) [] h count all = absurd (omega arith)
permuted points (x ∷ line) h count all =
    let at = all x (here x line) in
    let rest = remove points at.0 in
    let moved = IsPermutation-remove points at.0 x at.1 (sym at.2) in
    let lens = length_permutation points (x ∷ rest) moved in
    IsPermutation-trans points (x ∷ rest) (x ∷ line) moved
    (IsPermutation-cons x rest line
    (permuted rest line (pairs_rest (λ x y. x < y) x line h) (omega arith) (λ v c. elim (either x v
    rest (Contains-permutation points (x ∷ rest) v moved (all v (later x v line c)))) [
      | inl same ↦ let lt = pairs_first (λ x y. x < y) x v line h c in absurd (omega arith)
      | inr other ↦ other
    ])))
