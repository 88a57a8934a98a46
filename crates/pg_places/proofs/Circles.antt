-- Different members of a circle lie at different places.
use Rattle.std.proofs.Common.{◌≡◌, ◌∙◌, ℕ, zero, suc, ◌+◌, ◌*◌, ◌-◌, ◌/◌, ◌%◌, ◌<◌, ◌≤◌, Bool, true}
use Rattle.std.proofs.Common.{inl, inr, sym, ap, arith, refl, subst}
use Rattle.std.specs.Prelude.{max, nat_le, ◌&&◌, ◌==◌, slice_index, if◌then◌else◌}
use Rattle.pg_places.proofs.Common.{add-mul-div_right, div-le_of_le-mul, div-lt_iff_lt-mul}
use Rattle.pg_places.proofs.Common.{div-mul-le_self, lt-div-mul-add, mul-add, mul-le-mul_left}
use Rattle.pg_places.proofs.Common.{and_parts, cases_Bool, cases_lt, nat_tests, div-add-mod'}
use Rattle.pg_places.proofs.Common.{le-div, mod_below, mul-le, MAX_VERTICES, Place}
use Rattle.pg_places.specs.Places.{at, part_of, place_after, place_on_circle, place_on_ring}
use Rattle.pg_places.specs.Places.{radius_of}
use Rattle.pg_places.specs.declared.measures.TheConstants.{MAX_ON_RING, ROW}
use Rattle.pg_places.specs.declared.sines.TheConstants.{SINES}
use Rattle.pg_places.proofs.Apart.{cells_apart}

-- ---- the table

abbrev sine : ℕ → ℕ
sine k = slice_index SINES k

-- from one entry to the next the sine grows, and by how much the sine grows and the cosine falls is
-- at least 123
abbrev grows : ℕ → Bool
grows k =
    (nat_le (sine k) (sine (k + 1))
    && nat_le (sine k + sine (127 - k) + 123) (sine (k + 1) + sine (128 - k)))
    && (nat_le 123 (sine (k + 1)) && nat_le (sine (k + 1)) 10000)

unfoldable grow : ℕ → Bool
grow zero = true
grow (suc k) = grows k && grow k

all_grow : grow 128 ≡ true
unfolding grow
all_grow = refl

grows_at : (n k : ℕ) → grow n ≡ true → k < n → grows k ≡ true
unfolding grow
grows_at zero k all lt = absurd (omega arith)
grows_at (suc n) k all lt =
    elim (cases_lt k n) [
      | inl below ↦ grows_at n k (and_parts (grows n) (grow n) all).1 below
      | inr above ↦
          let last : n ≡ k = omega arith in
          subst (λ (j : ℕ). grows j ≡ true) last (and_parts (grows n) (grow n) all).0
    ]

record Grows (k : ℕ) : Type 0 where
  rises : sine k ≤ sine (k + 1)
  turns : sine k + sine (127 - k) + 123 ≤ sine (k + 1) + sine (128 - k)
  some : 123 ≤ sine (k + 1)
  few : sine (k + 1) ≤ 10000

table : (k : ℕ) → k < 128 → Grows k
table k lt =
    let all = and_parts (nat_le (sine k) (sine (k + 1))
    && nat_le (sine k + sine (127 - k) + 123) (sine (k + 1) + sine (128 - k)))
    (nat_le 123 (sine (k + 1)) && nat_le (sine (k + 1)) 10000) (grows_at 128 k all_grow lt) in
    let first = and_parts (nat_le (sine k) (sine (k + 1)))
    (nat_le (sine k + sine (127 - k) + 123) (sine (k + 1) + sine (128 - k))) all.0 in
    let second = and_parts (nat_le 123 (sine (k + 1))) (nat_le (sine (k + 1)) 10000) all.1 in
    record {
      rises = grind (arith, nat_tests, first.0);
      turns = grind (arith, nat_tests, first.1);
      some = grind (arith, nat_tests, second.0);
      few = grind (arith, nat_tests, second.1);
    }

-- from one entry to one d further
turned : (a d : ℕ)
    → a + d ≤ 128
    → sine a + sine (128 - (a + d)) + 123 * d ≤ sine (a + d) + sine (128 - a)
turned a zero le =
    let same : a + 0 ≡ a = omega arith in
    rw same (omega arith)
turned a (suc d) le =
    let before = turned a d (omega arith) in
    let step = (table (a + d) (omega arith)).turns in
    let next = ap sine (let e : a + d + 1 ≡ a + suc d = omega arith in e) in
    let rest = ap sine (let e : 127 - (a + d) ≡ 128 - (a + suc d) = omega arith in e) in
    omega arith

-- ---- parts of a radius

-- equal parts are those of sines that are near
near : (r a b : ℕ) → part_of r a ≡ part_of r b → r * sine b < r * sine a + 10000
near r a b same =
    let low = div-mul-le_self (r * sine a) 10000 in
    let high = lt-div-mul-add {a = r * sine b} {b = 10000} (omega arith) in
    let products : part_of r a * 10000 ≡ part_of r b * 10000 = ap (λ q. q * 10000) same in
    omega arith

-- no two places of one quarter are one that are far enough apart
apart_within : (r a d : ℕ)
    → a + d ≤ 128
    → 163 ≤ r * d
    → part_of r a ≡ part_of r (a + d)
    → part_of r (128 - a) ≡ part_of r (128 - (a + d))
    → ⊥
apart_within r a d le far sines cosines =
    let first = near r a (a + d) sines in
    let second = near r (128 - (a + d)) (128 - a) (sym cosines) in
    let product = mul-le-mul_left r (turned a d le) in
    let left = mul-add r (sine a + sine (128 - (a + d))) (123 * d) in
    let both = mul-add r (sine a) (sine (128 - (a + d))) in
    let right = mul-add r (sine (a + d)) (sine (128 - a)) in
    let last : r * (123 * d) ≡ 123 * (r * d) = grind arith in
    omega arith

few_sines : (k : ℕ) → k ≤ 128 → sine k ≤ 10000
few_sines zero le = omega arith
few_sines (suc k) le =
    let few = (table k (omega arith)).few in
    let same : k + 1 ≡ suc k = omega arith in
    subst (λ (j : ℕ). sine j ≤ 10000) same few

some_sines : (k : ℕ) → 1 ≤ k → k ≤ 128 → 123 ≤ sine k
some_sines zero some le = absurd (omega arith)
some_sines (suc k) some le =
    let least = (table k (omega arith)).some in
    let same : k + 1 ≡ suc k = omega arith in
    subst (λ (j : ℕ). 123 ≤ sine j) same least

pub part_fits : (r k : ℕ) → k ≤ 128 → part_of r k ≤ r
part_fits r k le =
    let product = mul-le-mul_left r (few_sines k le) in
    div-le_of_le-mul 10000 (omega (arith, product))

part_some : (r k : ℕ) → 100 ≤ r → 1 ≤ k → k ≤ 128 → 1 ≤ part_of r k
part_some r k large some le =
    let product = mul-le 100 123 r (sine k) large (some_sines k some le) in
    le-div 1 (r * sine k) 10000 (omega arith) (omega (arith, product))

-- ---- quarters

-- the place in a quarter
abbrev pub place_in : ℕ → ℕ → ℕ → ℕ → Place
place_in r q s c =
    if q == 0 then at (48 + r + s) (72 + r - c)
    else if q == 1 then at (48 + r + c) (72 + r + s)
    else if q == 2 then at (48 + r - s) (72 + r + c)
    else at (48 + r - c) (72 + r - s)

same_quarter : (r q s c p t d : ℕ)
    → q < 4
    → p < 4
    → s ≤ r
    → t ≤ r
    → 1 ≤ c
    → c ≤ r
    → 1 ≤ d
    → d ≤ r
    → place_in r q s c ≡ place_in r p t d
    → (q ≡ p) × (s ≡ t) × (c ≡ d)
same_quarter r zero s c zero t d qs ps sr tr c1 cr d1 dr same =
    let across = ap (λ (p : Place). p.across) same in
    let down = ap (λ (p : Place). p.down) same in
    (refl, omega (arith, across, down), omega (arith, across, down))
same_quarter r zero s c (suc zero) t d qs ps sr tr c1 cr d1 dr same =
    let across = ap (λ (p : Place). p.across) same in
    let down = ap (λ (p : Place). p.down) same in
    absurd (omega (arith, across, down))
same_quarter r zero s c (suc (suc zero)) t d qs ps sr tr c1 cr d1 dr same =
    let across = ap (λ (p : Place). p.across) same in
    let down = ap (λ (p : Place). p.down) same in
    absurd (omega (arith, across, down))
same_quarter r zero s c (suc (suc (suc zero))) t d qs ps sr tr c1 cr d1 dr same =
    let across = ap (λ (p : Place). p.across) same in
    let down = ap (λ (p : Place). p.down) same in
    absurd (omega (arith, across, down))
same_quarter r (suc zero) s c zero t d qs ps sr tr c1 cr d1 dr same =
    let across = ap (λ (p : Place). p.across) same in
    let down = ap (λ (p : Place). p.down) same in
    absurd (omega (arith, across, down))
same_quarter r (suc zero) s c (suc zero) t d qs ps sr tr c1 cr d1 dr same =
    let across = ap (λ (p : Place). p.across) same in
    let down = ap (λ (p : Place). p.down) same in
    (refl, omega (arith, across, down), omega (arith, across, down))
same_quarter r (suc zero) s c (suc (suc zero)) t d qs ps sr tr c1 cr d1 dr same =
    let across = ap (λ (p : Place). p.across) same in
    let down = ap (λ (p : Place). p.down) same in
    absurd (omega (arith, across, down))
same_quarter r (suc zero) s c (suc (suc (suc zero))) t d qs ps sr tr c1 cr d1 dr same =
    let across = ap (λ (p : Place). p.across) same in
    let down = ap (λ (p : Place). p.down) same in
    absurd (omega (arith, across, down))
same_quarter r (suc (suc zero)) s c zero t d qs ps sr tr c1 cr d1 dr same =
    let across = ap (λ (p : Place). p.across) same in
    let down = ap (λ (p : Place). p.down) same in
    absurd (omega (arith, across, down))
same_quarter r (suc (suc zero)) s c (suc zero) t d qs ps sr tr c1 cr d1 dr same =
    let across = ap (λ (p : Place). p.across) same in
    let down = ap (λ (p : Place). p.down) same in
    absurd (omega (arith, across, down))
same_quarter r (suc (suc zero)) s c (suc (suc zero)) t d qs ps sr tr c1 cr d1 dr same =
    let across = ap (λ (p : Place). p.across) same in
    let down = ap (λ (p : Place). p.down) same in
    (refl, omega (arith, across, down), omega (arith, across, down))
same_quarter r (suc (suc zero)) s c (suc (suc (suc zero))) t d qs ps sr tr c1 cr d1 dr same =
    let across = ap (λ (p : Place). p.across) same in
    let down = ap (λ (p : Place). p.down) same in
    absurd (omega (arith, across, down))
same_quarter r (suc (suc (suc zero))) s c zero t d qs ps sr tr c1 cr d1 dr same =
    let across = ap (λ (p : Place). p.across) same in
    let down = ap (λ (p : Place). p.down) same in
    absurd (omega (arith, across, down))
same_quarter r (suc (suc (suc zero))) s c (suc zero) t d qs ps sr tr c1 cr d1 dr same =
    let across = ap (λ (p : Place). p.across) same in
    let down = ap (λ (p : Place). p.down) same in
    absurd (omega (arith, across, down))
same_quarter r (suc (suc (suc zero))) s c (suc (suc zero)) t d qs ps sr tr c1 cr d1 dr same =
    let across = ap (λ (p : Place). p.across) same in
    let down = ap (λ (p : Place). p.down) same in
    absurd (omega (arith, across, down))
same_quarter r (suc (suc (suc zero))) s c (suc (suc (suc zero))) t d qs ps sr tr c1 cr d1 dr same =
    let across = ap (λ (p : Place). p.across) same in
    let down = ap (λ (p : Place). p.down) same in
    (refl, omega (arith, across, down), omega (arith, across, down))
same_quarter r (suc (suc (suc (suc q)))) s c p t d qs ps sr tr c1 cr d1 dr same =
    absurd (omega arith)
same_quarter r zero s c (suc (suc (suc (suc p)))) t d qs ps sr tr c1 cr d1 dr same =
    absurd (omega arith)
same_quarter r (suc zero) s c (suc (suc (suc (suc p)))) t d qs ps sr tr c1 cr d1 dr same =
    absurd (omega arith)
same_quarter r (suc (suc zero)) s c (suc (suc (suc (suc p)))) t d qs ps sr tr c1 cr d1 dr same =
    absurd (omega arith)
same_quarter r (suc (suc (suc zero))) s c
    (suc (suc (suc (suc p)))) t d qs ps sr tr c1 cr d1 dr same = absurd (omega arith)

-- ---- members of a circle

-- two steps of the circle at which the same place lies
steps_apart : (r a b : ℕ)
    → 100 ≤ r
    → a < b
    → b < 512
    → 163 ≤ r * (b - a)
    → place_after r a ≡ place_after r b
    → ⊥
steps_apart r a b large lt within far same =
    let x = a % 128 in
    let y = b % 128 in
    let small = mod_below a 128 (omega arith) in
    let low = mod_below b 128 (omega arith) in
    let whole = div-add-mod' a 128 in
    let entire = div-add-mod' b 128 in
    let quarter : a / 128 < 4 = omega arith in
    let other : b / 128 < 4 = omega arith in
    let parts = same_quarter r (a / 128) (part_of r x) (part_of r (128 - x)) (b / 128) (part_of r y)
    (part_of r (128 - y)) quarter other (part_fits r x (omega arith)) (part_fits r y (omega arith))
    (part_some r (128 - x) large (omega arith) (omega arith)) (part_fits r (128 - x) (omega arith))
    (part_some r (128 - y) large (omega arith) (omega arith))
    (part_fits r (128 - y) (omega arith)) same in
    let further : y ≡ x + (b - a) = omega (arith, parts.0) in
    let few : x + (b - a) ≤ 128 = omega arith in
    apart_within r x (b - a) few far (parts.1 ∙ ap (part_of r) further)
    (parts.2 ∙ ap (λ k. part_of r (128 - k)) further)

-- how far apart the steps of two members are
steps_between : (count u v k : ℕ)
    → 0 < count
    → k * count ≤ 512
    → u < v
    → u * 512 / count + k ≤ v * 512 / count
steps_between count u v k some few lt =
    let more : u * 512 / count + k ≡ (u * 512 + k * count) / count =
    sym (add-mul-div_right (u * 512) k some) in
    let below : u * 512 + k * count ≤ v * 512 = omega arith in
    rw more
    (le-div ((u * 512 + k * count) / count) (v * 512) count some
    (let low = div-mul-le_self (u * 512 + k * count) count in omega arith))

far_enough : (count u v : ℕ)
    → 0 < count
    → count ≤ MAX_VERTICES
    → u < v
    → (u * 512 / count < v * 512 / count)
    × (163 ≤ radius_of count * (v * 512 / count - u * 512 / count))
far_enough count u v some few lt =
    elim (cases_lt count 21) [
      | inl low ↦
          let steps = steps_between count u v 2 some (omega arith) lt in
          let product = mul-le 100 2 (radius_of count) (v * 512 / count - u * 512 / count)
          (omega arith) (omega arith) in
          (omega arith, omega arith)
      | inr high ↦
          let steps = steps_between count u v 1 some (omega arith) lt in
          let product = mul-le 168 1 (radius_of count) (v * 512 / count - u * 512 / count)
          (omega arith) (omega arith) in
          (omega arith, omega arith)
    ]

apart_below : (count u v : ℕ)
    → count ≤ MAX_VERTICES
    → u < v
    → v < count
    → place_on_circle count u ≡ place_on_circle count v
    → ⊥
unfolding place_on_circle
apart_below count u v few lt within same =
    let some : 0 < count = omega arith in
    let whole : max count 1 ≡ count = omega arith in
    let far = far_enough count u v some few lt in
    let last : v * 512 / count < 512 =
    (div-lt_iff_lt-mul {k = count} {x = v * 512} {y = 512} some).1 (omega arith) in
    steps_apart (radius_of count) (u * 512 / count) (v * 512 / count) (omega arith) far.0 last far.1
    (subst (λ (n : ℕ). place_after (radius_of count) (u * 512 / n)
    ≡ place_after (radius_of count) (v * 512 / n)) whole same)

pub members_apart : (count u v : ℕ)
    → count ≤ MAX_VERTICES
    → u < count
    → v < count
    → place_on_circle count u ≡ place_on_circle count v
    → u ≡ v
members_apart count u v few low within same =
    elim (cases_lt u v) [
      | inl lt ↦ absurd (apart_below count u v few lt within same)
      | inr ge ↦ elim (cases_lt v u) [
        | inl lt ↦ absurd (apart_below count v u few lt low (sym same))
        | inr le ↦ omega arith
      ]
    ]

pub ring_apart : (points u v : ℕ)
    → u < points
    → v < points
    → place_on_ring points u ≡ place_on_ring points v
    → u ≡ v
ring_apart points u v low within same =
    elim (cases_Bool (nat_le points MAX_ON_RING)) [
      | inl few ↦ members_apart points u v (let most : points ≤ 48 = grind (
        arith,
        nat_tests,
      ) in omega arith) low within (rw few at same)
      | inr many ↦ cells_apart ROW u v (rw many at same)
    ]
