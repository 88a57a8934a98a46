-- Different points of a layout lie a cell apart.
use Rattle.std.proofs.Common.{◌≡◌, ◌≢◌, ◌⊎◌, ℕ, ◌+◌, ◌*◌, ◌<◌, ◌≤◌, false, inl, inr, get_or}
use Rattle.std.proofs.Common.{length, Option, ap, arith}
use Rattle.std.specs.Prelude.{nat_lt}
use Rattle.std.specs.Int.{abs_diff}
use Rattle.std.proofs.lemmas.Bool.{and_cases, cases_lt, ltb-false}
use Rattle.std.proofs.lemmas.Option.{slice_get-get_or}
use Rattle.pg_layout.specs.Layouts.{corner, is_near}
use Rattle.pg_places.proofs.Common.{Chart, IsLayout, Spot, spots_of}
use Rattle.pg_places.specs.Places.{IsCellApart, place_of_spot, place_on_chart, spot_or_corner}

far_across : (a b : ℕ) → 4 ≤ abs_diff a b
    → (48 + 12 * a + 48 ≤ 48 + 12 * b) ⊎ (48 + 12 * b + 48 ≤ 48 + 12 * a)
far_across a b far = elim (cases_lt a b) [
  | inl less ↦ inl (omega (arith, far, less))
  | inr more ↦ inr (omega (arith, far, more))
]

far_down : (a b : ℕ) → 2 ≤ abs_diff a b
    → (72 + 24 * a + 48 ≤ 72 + 24 * b) ⊎ (72 + 24 * b + 48 ≤ 72 + 24 * a)
far_down a b far = elim (cases_lt a b) [
  | inl less ↦ inl (omega (arith, far, less))
  | inr more ↦ inr (omega (arith, far, more))
]

spots_apart : (a b : Spot)
    → is_near a b ≡ false
    → IsCellApart (place_of_spot a) (place_of_spot b)
unfolding place_of_spot
spots_apart a b clear =
    elim (and_cases (nat_lt (abs_diff a.column b.column) 4) (nat_lt (abs_diff a.line b.line) 2)
    clear) [
      | inl wide ↦
          inl (far_across a.column b.column (ltb-false (abs_diff a.column b.column) 4 wide))
      | inr high ↦ inr (far_down a.line b.line (ltb-false (abs_diff a.line b.line) 2 high))
    ]

-- a point's place
place_is : (chart : Chart) (u : ℕ)
    → u < length (spots_of chart)
    → place_on_chart chart u ≡ place_of_spot (get_or (spots_of chart) u corner)
place_is chart u lt =
    ap (λ (o : Option Spot). spot_or_corner o) (slice_get-get_or (spots_of chart) u corner lt)

pub layouts_apart : (chart : Chart) (points u v : ℕ)
    → IsLayout points (spots_of chart)
    → u < points
    → v < points
    → u ≢ v
    → IsCellApart (place_on_chart chart u) (place_on_chart chart v)
layouts_apart chart points u v layout one two other =
    let first = place_is chart u (omega (arith, one, layout.count)) in
    let second = place_is chart v (omega (arith, two, layout.count)) in
    rw (first, second)
    (spots_apart (get_or (spots_of chart) u corner) (get_or (spots_of chart) v corner)
    (layout.apart u v one two other))
