-- Parts of vertices: what a reply and the answer to it keep.
use Rattle.std.proofs.Common.{◌≡◌, ℕ, ◌+◌, ◌<◌, ◌≤◌, Bool, true, false, ◌&&◌, ◌⊎◌, Option}
use Rattle.std.proofs.Common.{refl, inl, inr, sym, ap, ◌∙◌, subst, arith}
use Rattle.std.specs.Prelude.{unwrap_or, List, slice_index}
use Rattle.pg_span.proofs.Common.{cases_Bool, and_parts}
use Rattle.pg_span.proofs.Common.{not-true, contains, plus, minus, below, IsWithin, Side, X}
use Rattle.pg_span.proofs.Common.{Y, other, below_parts, below_from, minus_parts}
use Rattle.pg_span.proofs.Common.{Graph, edge_count, first_end_of, second_end_of, Position, is_free}
use Rattle.pg_span.proofs.Common.{IsFreeEdge, lowest_free_edge, IsPlace, joins_all, crosses}
use Rattle.pg_span.proofs.Common.{crossing, spare, AreParts, next, turn-next, free-next, x-plus}
use Rattle.pg_span.proofs.Common.{x-same, crossing-less, crossing-minus, crossing-none}
use Rattle.pg_span.proofs.Common.{crossing-plus, crossing-plus_off, find_below-cases}
use Rattle.pg_span.proofs.Common.{lowest_free-free}
use Rattle.pg_span.specs.Answers.{parts_edge}

module _ (a b : ℕ → ℕ) (m n bound : ℕ) (label : ℕ → ℕ) where
  abbrev all : (ℕ → Bool) → Bool
  all set = joins_all a b m n set

  abbrev after : Position → ℕ → Position
  after p v = next m all p v

  free_in : (p : Position) (v : ℕ)
      → IsWithin (below (is_free (after p v)) m) (minus (below (is_free p) m) v)
  free_in p v z h = subst (λ (s : ℕ → Bool). s z ≡ true) (free-next m all p v) h

  -- the free crossing edges after a move
  open-next : (p : Position) (v : ℕ)
      → crossing a b m label (is_free (after p v)) ≤ crossing a b m label (is_free p)
  open-next p v = crossing-less a b m label (is_free (after p v)) (is_free p) (λ f l h.
      (below_parts (is_free p) m f (minus_parts (below (is_free p) m) v f
      (free_in p v f (below_from (is_free (after p v)) m f h l))).0).0)

  open-less : (p : Position) (v : ℕ)
      → v < m
      → is_free p v ≡ true
      → crosses a b label v ≡ true
      → crossing a b m label (is_free (after p v)) + 1 ≤ crossing a b m label (is_free p)
  open-less p v l free cross =
      let first : crossing a b m label (is_free (after p v))
      ≤ crossing a b m label (below (is_free (after p v)) m) =
      crossing-less a b m label _ _ (λ f k h. below_from (is_free (after p v)) m f h k) in
      let one : crossing a b m label (below (is_free (after p v)) m) + 1 ≤ crossing a b m label
      (below (is_free p) m) = crossing-minus a b m label (below (is_free p) m)
      (below (is_free (after p v)) m) v (free_in p v) (below_from (is_free p) m v free l) cross l in
      let last : crossing a b m label (below (is_free p) m) ≤ crossing a b m label (is_free p) =
      crossing-less a b m label _ _ (λ f k h. (below_parts (is_free p) m f h).0) in
      omega arith

  spare-of : (p : Position) (side : Side) (k : ℕ)
      → p.turn ≡ side
      → spare side ≡ k
      → spare p.turn ≡ k
  spare-of p side k turn is = ap spare turn ∙ is

  -- Y claims a free crossing edge, or where there is none any edge
  pub parts-claimed : (p : Position) (v : ℕ)
      → IsPlace m p
      → p.turn ≡ Y
      → v < m
      → is_free p v ≡ true
      → (crosses a b label v ≡ true)
      ⊎ ((f : ℕ) → f < m → (is_free p f && crosses a b label f) ≡ false)
      → AreParts a b m n bound label p
      → AreParts a b m n bound label (after p v)
  parts-claimed p v place mine low free which t =
      let same : crossing a b m label (contains (after p v).x) ≡ crossing a b m label
      (contains p.x) = ap (λ (s : ℕ → Bool). crossing a b m label s) (x-same m all p v mine) in
      let before : spare p.turn ≡ 1 = spare-of p Y 1 mine refl in
      let later : spare (after p v).turn ≡ 0 =
      spare-of (after p v) X 0 (turn-next m all p v place ∙ ap other mine) refl in
      elim which [
        | inl cross ↦
            let less = open-less p v low free cross in
            record {
              few_taken = omega (arith, same, t.few_taken);
              few_free = omega (arith, same, less, before, later, t.few_free, t.few_taken);
            }
        | inr none ↦
            let less = open-next p v in
            let closed : crossing a b m label (is_free p) ≤ 0 =
            crossing-none a b m label (is_free p) m none in
            record {
              few_taken = omega (arith, same, t.few_taken);
              few_free = omega (arith, same, less, closed, before, later, t.few_taken);
            }
      ]

  -- X claims any free edge
  pub parts-replied : (p : Position) (v : ℕ)
      → IsPlace m p
      → p.turn ≡ X
      → v < m
      → is_free p v ≡ true
      → AreParts a b m n bound label p
      → AreParts a b m n bound label (after p v)
  parts-replied p v place yours low free t =
      let x : contains (after p v).x ≡ plus (contains p.x) v = x-plus m all p v yours in
      let inside : IsWithin (contains (after p v).x) (plus (contains p.x) v) =
      λ f h. subst (λ (s : ℕ → Bool). s f ≡ true) x h in
      let out : contains p.x v ≡ false = not-true _ (and_parts _ _ free).0 in
      let before : spare p.turn ≡ 0 = spare-of p X 0 yours refl in
      let later : spare (after p v).turn ≡ 1 =
      spare-of (after p v) Y 1 (turn-next m all p v place ∙ ap other yours) refl in
      elim (cases_Bool (crosses a b label v)) [
        | inl on ↦
            let more =
            crossing-plus a b m label (contains p.x) (contains (after p v).x) v inside out low in
            let less = open-less p v low free on in
            record {
              few_taken = omega (arith, more, less, before, t.few_taken, t.few_free);
              few_free = omega (arith, more, less, before, later, t.few_free);
            }
        | inr off ↦
            let more =
            crossing-plus_off a b m label (contains p.x) (contains (after p v).x) v inside off in
            let less = open-next p v in
            record {
              few_taken = omega (arith, more, t.few_taken);
              few_free = omega (arith, more, less, before, later, t.few_free);
            }
      ]

-- the answer by parts is free, and crosses where a free edge does
pub parts-edge : (h : Graph) (p : Position) (numbers : List ℕ) (z : ℕ)
    → IsFreeEdge h p z
    → IsFreeEdge h p (parts_edge h p numbers)
    × ((crosses (first_end_of h) (second_end_of h) (slice_index numbers) (parts_edge h p numbers)
    ≡ true)
    ⊎ ((f : ℕ) → f < edge_count h
    → (is_free p f && crosses (first_end_of h) (second_end_of h) (slice_index numbers) f) ≡ false))
parts-edge h p numbers z fz = elim (find_below-cases (λ f.
    is_free p f && crosses (first_end_of h) (second_end_of h) (slice_index numbers) f)
    (edge_count h)) [
      | inl found ↦
          let e : found.number ≡ parts_edge h p numbers =
          sym (ap (λ (r : Option ℕ). unwrap_or r (lowest_free_edge h p)) found.is) in
          let q = and_parts (is_free p found.number)
          (crosses (first_end_of h) (second_end_of h) (slice_index numbers) found.number)
          found.passes in (
            subst (λ (v : ℕ). IsFreeEdge h p v) e (found.low, q.0),
            inl (subst (λ (v : ℕ).
                crosses (first_end_of h) (second_end_of h) (slice_index numbers) v ≡ true) e q.1),
          )
      | inr none ↦
          let e : lowest_free_edge h p ≡ parts_edge h p numbers =
          sym (ap (λ (r : Option ℕ). unwrap_or r (lowest_free_edge h p)) none.1) in
          (subst (λ (v : ℕ). IsFreeEdge h p v) e (lowest_free-free h p z fz), inr none.0)
    ]
