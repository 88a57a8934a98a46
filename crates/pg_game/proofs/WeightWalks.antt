-- The steps of the walk over the lines.
use Rattle.std.proofs.Common.{◌≡◌, ℕ, ◌+◌, ◌^◌, ◌<◌, ◌≤◌, max, Bool, true, false, ◌||◌, ◌==◌}
use Rattle.std.proofs.Common.{if◌then◌else◌, List, length, get_or, take, drop, set, eq-eqb, ne_eqb}
use Rattle.std.proofs.Common.{refl, sym, ap, ◌∙◌, inl, inr, arith, get_or-take, length-take-le}
use Rattle.pg_game.proofs.Common.{cases_eq, at_drop_more, get_or_default, get_or-set_same}
use Rattle.pg_game.proofs.Common.{get_or-set_other, list_any_more, sum_by, IsStrictlyIncreasing}
use Rattle.pg_game.proofs.Common.{FinSet, nat_cmp}
use Rattle.std.proofs.lemmas.List.Kept.{AllPairs-from_increasing}
use Rattle.pg_game.specs.declared.position.Position.{Position}
use Rattle.pg_game.specs.declared.game.Game.{Game}
use Rattle.pg_game.specs.Game.{lines_of}
use Rattle.pg_game.specs.Potential.{greatest_length, is_on, line_weight}
use Rattle.pg_game.specs.Weights.{AreWeights}
use Rattle.pg_game.proofs.LineSums.{weight_on, total-all, point-all}
use Rattle.pg_game.proofs.Members.{list_any-none}

-- ---- the weights of the points of a line

-- a later point of an ascending line isn't among the earlier ones
pub not_before : (line : List ℕ) (i : ℕ)
    → IsStrictlyIncreasing line
    → i < length line
    → is_on (get_or line i 0) (take i line) ≡ false
not_before line i ascending lt = list_any-none (λ q. q == get_or line i 0) (take i line) (λ q c.
    let place : c.0 < i = omega (arith, c.1, length-take-le i line (omega arith)) in
    let at : get_or line c.0 0 ≡ q = get_or_default line c.0 0 q (omega (arith, place, lt))
    ∙ sym (get_or-take i line c.0 q place)
    ∙ c.2 in
    let less = AllPairs-from_increasing line ascending c.0 i 0 place lt in
    ne_eqb q (get_or line i 0) (λ e. omega (arith, less, at, e)))

-- what the points weigh after a part of the line
abbrev Added : List ℕ → List ℕ → List ℕ → ℕ → Type 0
Added old now line w =
    (v : ℕ) → v < 256 → get_or now v 0 ≡ get_or old v 0 + (if is_on v line then w else 0)

pub add-fits : (old now line : List ℕ) (i u w : ℕ)
    → IsStrictlyIncreasing line
    → i < length line
    → u ≡ get_or line i 0
    → u < 256
    → Added old now (take i line) w
    → ((v : ℕ) → v < 256 → get_or old v 0 + w < 2 ^ 128)
    → get_or now u 0 + w < 2 ^ 128
add-fits old now line i u w ascending lt is few added fits =
    let off : is_on u (take i line) ≡ false =
    ap (λ n. is_on n (take i line)) is ∙ not_before line i ascending lt in
    let here : get_or now u 0 ≡ get_or old u 0 + 0 =
    added u few ∙ ap (λ (b : Bool). get_or old u 0 + (if b then w else 0)) off in
    omega (arith, here, fits u few)

pub add-more : (old now line : List ℕ) (i u w : ℕ)
    → length now ≡ 256
    → IsStrictlyIncreasing line
    → i < length line
    → u ≡ get_or line i 0
    → u < 256
    → Added old now (take i line) w
    → Added old (set now u (get_or now u 0 + w)) (take (i + 1) line) w
add-more old now line i u w count ascending lt is few added v small =
    let on_more = list_any_more (λ q. q == v) line i 0 lt in
    elim (cases_eq v u) [
      | inl e ↦
          let off : is_on v (take i line) ≡ false =
          ap (λ n. is_on n (take i line)) (e ∙ is) ∙ not_before line i ascending lt in
          let before : get_or now u 0 ≡ get_or old v 0 + 0 = ap (λ n. get_or now n 0) (sym e)
          ∙ added v small
          ∙ ap (λ (b : Bool). get_or old v 0 + (if b then w else 0)) off in
          let on : is_on v (take (i + 1) line) ≡ true = on_more
          ∙ ap (λ b. b || (get_or line i 0 == v)) off
          ∙ eq-eqb (get_or line i 0) v (sym (e ∙ is)) in
          let set_here : get_or (set now u (get_or now u 0 + w)) v 0 ≡ get_or now u 0 + w =
          ap (λ n. get_or (set now u (get_or now u 0 + w)) n 0) e
          ∙ get_or-set_same now u (get_or now u 0 + w) 0 (omega (arith, count, few)) in
          let goal : get_or old v 0 + (if is_on v (take (i + 1) line) then w else 0)
          ≡ get_or old v 0 + w = ap (λ (b : Bool). get_or old v 0 + (if b then w else 0)) on in
          omega (arith, set_here, goal, before)
      | inr ne ↦
          let same : is_on v (take (i + 1) line) ≡ is_on v (take i line) = on_more
          ∙ ap (λ b. is_on v (take i line) || b)
          (ne_eqb (get_or line i 0) v (λ e. ne (sym (is ∙ e))))
          ∙ or_no (is_on v (take i line)) in
          get_or-set_other now u v (get_or now u 0 + w) 0 ne
          ∙ added v small
          ∙ ap (λ (b : Bool). get_or old v 0 + (if b then w else 0)) (sym same)
    ]
  where
    or_no : (b : Bool) → (b || false) ≡ b
    or_no true = refl
    or_no false = refl

-- ---- all lines

pub weights-all : (base : ℕ) (g : Game) (own : FinSet nat_cmp) (p : Position)
    (lines : List (List ℕ)) (k i total : ℕ) (points : List ℕ)
    → lines ≡ lines_of g
    → k ≡ greatest_length (lines_of g)
    → length lines ≤ i
    → total ≡ sum_by (line_weight base k own p) (take i lines)
    → length points ≡ 256
    → ((v : ℕ) → v < 256 → get_or points v 0 ≡ sum_by (weight_on base k own p v) (take i lines))
    → AreWeights base g own p (record { total = total; points = points })
weights-all base g own p lines k i total points same longest end is_total count each = record {
  total = total-all base g own p lines k i total same longest end is_total;
  count = count;
  points = λ v small. point-all base g own p v lines k i (get_or points v 0) same longest end
      (each v small);
}
