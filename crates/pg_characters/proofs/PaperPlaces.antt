-- The places of the edges of a Bridg-It board on paper.
use Rattle.std.proofs.Common.{◌≡◌, ◌∙◌, ℕ, ◌+◌, ◌-◌, ◌*◌, ◌/◌, ◌%◌, ◌<◌, ◌≤◌, true, false}
use Rattle.std.proofs.Common.{refl}
use Rattle.std.proofs.Common.{suc, sym, ap, ap₂, arith, inl, inr, true≢false, eq-eqb, ne_eqb}
use Rattle.std.specs.Prelude.{◌==◌, nat_lt, Some, None}
use Rattle.std.proofs.Math.Nat.{mul-le-mul_right, suc-mul}
use Rattle.std.proofs.lemmas.Bool.{cases_Bool, cases_eq, cases_lt, eqb-true, or_parts}
use Rattle.std.proofs.lemmas.Bool.Decides.{nat_tests}
use Rattle.std.proofs.lemmas.Nat.{div-add-mod', div-mul-add, mod-mul-add, mod_below}
use Rattle.std.proofs.lemmas.Option.{none-some, same_Some}
use Rattle.pg_characters.specs.Spots.{edge_column, edge_of, edge_row, edges_on, is_odd, is_outer}
use Rattle.pg_characters.specs.Spots.{span_of, spot_at}

odd : (k : ℕ) → is_odd (2 * k + 1) ≡ true
odd k = let rest : (2 * k + 1) % 2 ≡ 1 = omega arith in eq-eqb _ _ rest

even : (k : ℕ) → is_odd (2 * k + 2) ≡ false
even k = ne_eqb _ _ (λ (e : (2 * k + 2) % 2 ≡ 1). omega (arith, e))

inner : (r k : ℕ) → k + 1 < r → is_outer r (2 * k + 2) ≡ false
inner r k low =
    let some : (2 * k + 2 == 0) ≡ false = ne_eqb _ _ (λ (e : 2 * k + 2 ≡ 0). omega (arith, e)) in
    let few : (2 * k + 2 == 2 * r) ≡ false =
    ne_eqb _ _ (λ (e : 2 * k + 2 ≡ 2 * r). omega (arith, e, low)) in
    rw (some, few) refl

half : (k : ℕ) → (2 * k + 1) / 2 ≡ k
half k = omega arith

half_less : (k : ℕ) → (2 * k + 2) / 2 - 1 ≡ k
half_less k = omega arith

along : (r e : ℕ) → edge_of (spot_at r (2 * (e / r) + 1) (2 * (e % r) + 1)) ≡ Some e
along r e = rw (odd (e / r), odd (e % r))
    (ap Some (ap₂ (λ (a b : ℕ). a * r + b) (half (e / r)) (half (e % r)) ∙ div-add-mod' e r))

between : (r f : ℕ)
    → f < (r - 1) * (r - 1)
    → 1 < r
    → edge_of (spot_at r (2 * (f / (r - 1)) + 2) (2 * (f % (r - 1)) + 2)) ≡ Some (r * r + f)
between r f inside some =
    let column : f % (r - 1) < r - 1 = mod_below f (r - 1) (omega arith) in
    let row : f / (r - 1) < r - 1 = quotient_below f (r - 1) inside in
    rw (
      even (f / (r - 1)),
      even (f % (r - 1)),
      inner r (f / (r - 1)) (omega (arith, row)),
      inner r (f % (r - 1)) (omega (arith, column)),
    ) (ap Some (ap (λ (k : ℕ). r * r + k)
    (ap₂ (λ (a b : ℕ). a * (r - 1) + b) (half_less (f / (r - 1))) (half_less (f % (r - 1)))
    ∙ div-add-mod' f (r - 1)))) where
      quotient_below : (f n : ℕ) → f < n * n → f / n < n
      quotient_below f n inside = elim (cases_lt (f / n) n) [
        | inl low ↦ low
        | inr high ↦
            let much : n * n ≤ f / n * n = mul-le-mul_right n high in
            let whole = div-add-mod' f n in
            absurd (omega arith)
      ]

pub somewhere : (r e : ℕ)
    → 1 ≤ r
    → e < edges_on r
    → edge_of (spot_at r (edge_row r e) (edge_column r e)) ≡ Some e
somewhere r e some inside = elim (cases_Bool (nat_lt e (r * r))) [
  | inl first ↦ rw first (along r e)
  | inr beyond ↦
      let past : r * r ≤ e = grind (arith, nat_tests, beyond) in
      let few : e - r * r < (r - 1) * (r - 1) = omega arith in
      let more : 1 < r = elim (cases_lt 1 r) [
        | inl high ↦ high
        | inr low ↦
            let one : r ≡ 1 = omega arith in
            let none : (r - 1) * (r - 1) ≡ 0 = ap (λ (k : ℕ). (k - 1) * (k - 1)) one in
            absurd (omega (arith, none, few))
      ] in
      let whole : r * r + (e - r * r) ≡ e = omega (arith, past) in
      rw beyond (between r (e - r * r) few more ∙ ap Some whole)
]

-- ---- no second place

-- the number of an edge along a row of dots, and its parts
row_parts : (r a b e : ℕ)
    → b < r
    → a < r
    → a * r + b ≡ e
    → (nat_lt e (r * r) ≡ true) × (e / r ≡ a) × (e % r ≡ b)
row_parts r a b e left low is =
    let rows : suc a * r ≤ r * r = mul-le-mul_right r (omega arith) in
    let one = suc-mul a r in
    let inside : e < r * r = omega arith in (
      grind (arith, nat_tests, inside),
      ap (λ (k : ℕ). k / r) (sym is) ∙ div-mul-add a r b left,
      ap (λ (k : ℕ). k % r) (sym is) ∙ mod-mul-add a r b left,
    )

place_along : (r row column e : ℕ)
    → row < span_of r
    → column < span_of r
    → is_odd row ≡ true
    → is_odd column ≡ true
    → row / 2 * r + column / 2 ≡ e
    → (row ≡ edge_row r e) × (column ≡ edge_column r e)
place_along r row column e low left a b is =
    let down : row % 2 ≡ 1 = eqb-true _ _ a in
    let over : column % 2 ≡ 1 = eqb-true _ _ b in
    let parts = row_parts r (row / 2) (column / 2) e (omega (arith, over, left))
    (omega (arith, down, low)) is in
    rw parts.0 (
      (let same = parts.1 in omega (arith, down, same)),
      (let same = parts.2 in omega (arith, over, same)),
    )

place_between : (r row column e : ℕ)
    → row < span_of r
    → column < span_of r
    → is_odd row ≡ false
    → is_odd column ≡ false
    → is_outer r row ≡ false
    → is_outer r column ≡ false
    → r * r + ((row / 2 - 1) * (r - 1) + (column / 2 - 1)) ≡ e
    → (row ≡ edge_row r e) × (column ≡ edge_column r e)
place_between r row column e low left a b c d is =
    let down : row % 2 ≡ 0 = even_rest row a in
    let over : column % 2 ≡ 0 = even_rest column b in
    let rows = within row c in
    let columns = within column d in
    let beyond : nat_lt e (r * r) ≡ false =
    let past : r * r ≤ e = omega (arith, is) in grind (arith, nat_tests, past) in
    let rest : e - r * r ≡ (row / 2 - 1) * (r - 1) + (column / 2 - 1) = omega (arith, is) in
    let few : column / 2 - 1 < r - 1 =
    let most = columns.1 in let some = columns.0 in omega (arith, over, left, most, some) in
    let quotient : (e - r * r) / (r - 1) ≡ row / 2 - 1 = ap (λ (k : ℕ). k / (r - 1)) rest
    ∙ div-mul-add (row / 2 - 1) (r - 1) (column / 2 - 1) few in
    let remainder : (e - r * r) % (r - 1) ≡ column / 2 - 1 = ap (λ (k : ℕ). k % (r - 1)) rest
    ∙ mod-mul-add (row / 2 - 1) (r - 1) (column / 2 - 1) few in
    rw (beyond, quotient, remainder) (
      (let some = rows.0 in omega (arith, down, some)),
      (let some = columns.0 in omega (arith, over, some)),
    ) where
      even_rest : (k : ℕ) → is_odd k ≡ false → k % 2 ≡ 0
      even_rest k not =
          let apart : k % 2 ≡ 1 → ⊥ = λ e. true≢false (sym (eq-eqb _ _ e) ∙ not) in
          elim (cases_eq (k % 2) 1) [
            | inl one ↦ absurd (apart one)
            | inr other ↦ let few = mod_below k 2 (omega arith) in omega (arith, few, other)
          ]

      within : (k : ℕ) → is_outer r k ≡ false → (k ≡ 0 → ⊥) × (k ≡ 2 * r → ⊥)
      within k inside =
          let parts = or_parts _ _ inside in (
            (λ e. true≢false (sym (eq-eqb _ _ e) ∙ parts.0)),
            (λ e. true≢false (sym (eq-eqb _ _ e) ∙ parts.1)),
          )

pub once : (r row column e : ℕ)
    → row < span_of r
    → column < span_of r
    → edge_of (spot_at r row column) ≡ Some e
    → (row ≡ edge_row r e) × (column ≡ edge_column r e)
once r row column e low left is = elim (cases_Bool (is_odd row)) [
  | inl a ↦ elim (cases_Bool (is_odd column)) [
    | inl b ↦
        let found : edge_of (spot_at r row column) ≡ Some (row / 2 * r + column / 2) =
        rw (a, b) refl in
        place_along r row column e low left a b (same_Some _ _ (sym found ∙ is))
    | inr b ↦
        let none : edge_of (spot_at r row column) ≡ None = rw (a, b) refl in
        absurd (none-some e (sym none ∙ is))
  ]
  | inr a ↦ elim (cases_Bool (is_odd column)) [
    | inl b ↦
        let none : edge_of (spot_at r row column) ≡ None = rw (a, b) refl in
        absurd (none-some e (sym none ∙ is))
    | inr b ↦ elim (cases_Bool (is_outer r row)) [
      | inl c ↦ elim (cases_Bool (is_outer r column)) [
        | inl d ↦
            let none : edge_of (spot_at r row column) ≡ None = rw (a, b, c, d) refl in
            absurd (none-some e (sym none ∙ is))
        | inr d ↦
            let none : edge_of (spot_at r row column) ≡ None = rw (a, b, c, d) refl in
            absurd (none-some e (sym none ∙ is))
      ]
      | inr c ↦ elim (cases_Bool (is_outer r column)) [
        | inl d ↦
            let none : edge_of (spot_at r row column) ≡ None = rw (a, b, c, d) refl in
            absurd (none-some e (sym none ∙ is))
        | inr d ↦
            let found : edge_of (spot_at r row column)
            ≡ Some (r * r + ((row / 2 - 1) * (r - 1) + (column / 2 - 1))) =
            rw (a, b, c, d) refl in
            place_between r row column e low left a b c d (same_Some _ _ (sym found ∙ is))
      ]
    ]
  ]
]
