-- The lines through each point, gathered line by line.
use Rattle.std.proofs.Common.{◌≡◌, ℕ, ◌+◌, ◌<◌, Bool, true, false, ◌||◌, List, [], ◌∷◌, ◌++◌}
use Rattle.std.proofs.Common.{length, get_or, set, take, map, replicate, eqb, if◌then◌else◌, refl}
use Rattle.std.proofs.Common.{sym, ap, ◌∙◌, arith, inl, inr}
use Rattle.pg_board.proofs.Common.{cases_Bool, cases_eq, eq-eqb, ne_eqb, get_or-set_same}
use Rattle.pg_board.proofs.Common.{get_or-set_other, length-set, take_more, take_all, append-nil}
use Rattle.pg_board.proofs.Common.{same_lists, get_or_default, get_or-replicate, length-replicate}
use Rattle.pg_board.proofs.Common.{length-map-range_with_len, get_or-map-range_with_len}
use Rattle.pg_board.proofs.Common.{list_any-append, filter, range_with_len, IsStrictlyIncreasing}
use Rattle.pg_board.proofs.Common.{is_on}
use Rattle.pg_board.specs.Shape.{lines_holding}
use Rattle.pg_board.specs.Gathered.{AreGathered, holds}
use Rattle.pg_board.proofs.Ranges.{not_before, filter-on, filter-off}

-- a row with the line's number once the walk along the line has come to the point
abbrev pub with_line : List (List ℕ) → ℕ → List ℕ → ℕ → List ℕ
with_line lines i walked v =
    filter (holds lines v) (range_with_len 0 i) ++ (if is_on v walked then i ∷ [] else [])

-- the rows while a line is walked
pub record AreGathering (lines : List (List ℕ)) (i j points : ℕ)
    (rows : List (List ℕ)) : Type 0 where
  pub count : length rows ≡ points
  pub rows_are : (v : ℕ)
      → v < points
      → get_or rows v [] ≡ with_line lines i (take j (get_or lines i [])) v

or-none : (b : Bool) → (b || false) ≡ b
or-none true = refl
or-none false = refl

pub gathering-start : (lines : List (List ℕ)) (i points : ℕ) (rows : List (List ℕ))
    → length rows ≡ points
    → AreGathered lines i rows
    → AreGathering lines i 0 points rows
gathering-start lines i points rows count before = record {
  count = count;
  rows_are = λ v low. before.gathered v (omega arith)
      ∙ sym (append-nil (filter (holds lines v) (range_with_len 0 i)));
}

pub gathering-step : (lines : List (List ℕ)) (i j points : ℕ) (rows : List (List ℕ)) (u : ℕ)
    → IsStrictlyIncreasing (get_or lines i [])
    → j < length (get_or lines i [])
    → u ≡ get_or (get_or lines i []) j 0
    → u < points
    → AreGathering lines i j points rows
    → AreGathering lines i (j + 1) points (set rows u (get_or rows u [] ++ i ∷ []))
gathering-step lines i j points rows u up low is below so_far = record {
  count = length-set rows u _ ∙ so_far.count;
  rows_are = λ v under. elim (cases_eq u v) [
    | inl e ↦
        let fresh : is_on v (take j line) ≡ false =
        ap (λ q. is_on q (take j line)) (sym e ∙ is) ∙ not_before line j up low in
        let now : is_on v (take (j + 1) line) ≡ true =
        walked v ∙ (λ k. fresh k || eqb u v) ∙ eq-eqb u v e in
        let old : get_or rows v [] ≡ filter (holds lines v) (range_with_len 0 i) ++ [] =
        so_far.rows_are v under
        ∙ ap (λ (b : Bool).
        filter (holds lines v) (range_with_len 0 i) ++ (if b then i ∷ [] else [])) fresh in
        let added = ap (λ q. get_or (set rows u (get_or rows u [] ++ i ∷ [])) q []) (sym e)
        ∙ (get_or-set_same rows u (get_or rows u [] ++ i ∷ []) [] (omega (arith, so_far.count))
        ∙ ap (λ q. get_or rows q [] ++ i ∷ []) e) in
        added
        ∙ (ap (λ xs. xs ++ i ∷ []) old
        ∙ (ap (λ xs. xs ++ i ∷ []) (append-nil (filter (holds lines v) (range_with_len 0 i)))
        ∙ ap (λ (b : Bool).
        filter (holds lines v) (range_with_len 0 i) ++ (if b then i ∷ [] else [])) (sym now)))
    | inr ne ↦
        let same : is_on v (take (j + 1) line) ≡ is_on v (take j line) = walked v
        ∙ (ap (λ b. is_on v (take j line) || b) (ne_eqb u v ne)
        ∙ or-none (is_on v (take j line))) in
        get_or-set_other rows u v _ [] (λ e. ne (sym e))
        ∙ (so_far.rows_are v under
        ∙ ap (λ (b : Bool).
        filter (holds lines v) (range_with_len 0 i) ++ (if b then i ∷ [] else [])) (sym same))
  ];
}
  where
    line : List ℕ
    line = get_or lines i []

    walked : (v : ℕ) → is_on v (take (j + 1) line) ≡ (is_on v (take j line) || eqb u v)
    walked v = ap (is_on v) (take_more line j 0 low)
        ∙ (list_any-append (λ q. eqb q v) (take j line) (get_or line j 0 ∷ [])
        ∙ ap (λ b. is_on v (take j line) || b)
        (or-none (eqb (get_or line j 0) v) ∙ ap (λ q. eqb q v) (sym is)))

pub gathering-end : (lines : List (List ℕ)) (i j points : ℕ) (rows : List (List ℕ))
    → j ≡ length (get_or lines i [])
    → AreGathering lines i j points rows
    → AreGathered lines (i + 1) rows
gathering-end lines i j points rows whole so_far = record {
  gathered = λ v low. (let line = get_or lines i [] in
      let all : take j line ≡ line = take_all j line (omega arith) in
      let is = so_far.rows_are v (omega (arith, so_far.count))
      ∙ ap (λ (xs : List ℕ). with_line lines i xs v) all in
      elim (cases_Bool (is_on v line)) [
        | inl on ↦ is
            ∙ (ap (λ (b : Bool).
            filter (holds lines v) (range_with_len 0 i) ++ (if b then i ∷ [] else [])) on
            ∙ sym (filter-on (holds lines v) 0 i i (omega arith) on))
        | inr off ↦ is
            ∙ (ap (λ (b : Bool).
            filter (holds lines v) (range_with_len 0 i) ++ (if b then i ∷ [] else [])) off
            ∙ (append-nil (filter (holds lines v) (range_with_len 0 i))
            ∙ sym (filter-off (holds lines v) 0 i i (omega arith) off)))
      ]);
}

-- all rows, once each line is walked
pub gathered-all : (lines : List (List ℕ)) (rows : List (List ℕ)) (points n : ℕ)
    → length rows ≡ points
    → n ≡ length lines
    → AreGathered lines n rows
    → rows ≡ map (lines_holding lines) (range_with_len 0 points)
unfolding lines_holding
gathered-all lines rows points n count whole done = same_lists rows
    (map (λ v. filter (holds lines v) (range_with_len 0 (length lines))) (range_with_len 0 points))
    (count
    ∙ sym (length-map-range_with_len (λ v. filter (holds lines v) (range_with_len 0 (length lines)))
    0 points)) (λ v d low. get_or_default rows v d [] low
    ∙ (done.gathered v low
    ∙ (ap (λ k. filter (holds lines v) (range_with_len 0 k)) whole
    ∙ sym (get_or-map-range_with_len (λ u. filter (holds lines u) (range_with_len 0 (length lines)))
    0 points v v d (omega arith) (omega arith)))))

pub gathered-none : (lines : List (List ℕ)) (points : ℕ) → AreGathered lines 0 (replicate points [])
gathered-none lines points = record {
  gathered = λ v low. get_or-replicate points v [] []
      (let count : length (replicate points []) ≡ points =
      length-replicate {A = List ℕ} points [] in
      omega arith);
}
