-- Points that are put into a set as they are read make the set of the list of these points.
use Rattle.std.proofs.Common.{◌≡◌, ◌∙◌, append_assoc, ℕ, ◌+◌, Bool, true, false, not, ◌&&◌, ◌||◌}
use Rattle.std.proofs.Common.{nat_lt, if◌then◌else◌, List, [], ◌∷◌, ◌++◌, Result, Ok, Err, refl}
use Rattle.std.proofs.Common.{sym, ap, inl, inr, arith}
use Rattle.std.specs.Prelude.{nat_le}
use Rattle.pg_cert_lines.proofs.Common.{FinSet, contains, contains-empty, empty, insert, from_list}
use Rattle.pg_cert_lines.proofs.Common.{from_list_push, nat_cmp-IsAntisymmetric, nat_cmp}
use Rattle.pg_cert_lines.proofs.Common.{cases_Bool, append-nil, nat_tests, and_then, onto, each_of}
use Rattle.pg_cert_lines.proofs.Common.{Bytes, ascend_from, is_touched, Body, Node}
use Rattle.std.specs.Cmp.{nat_cmp_total}
use Rattle.pg_cert_lines.specs.Form.{Shape}
use Rattle.pg_cert_lines.specs.NodeLine.{point_of, if_ascending, ascending_of, field_words}
use Rattle.pg_cert_lines.specs.NodeLine.{node_with}
use Rattle.pg_cert_lines.specs.Outline.{gathered_from, read_fields}
use Rattle.pg_cert_lines.specs.declared.fault.Fault.{Fault}
use Rattle.pg_cert_lines.specs.declared.fault.Fault.TheVariants as faults
use Rattle.pg_cert_lines.proofs.OnlyNumbers.{OnlyNumber, only_each, only_point}

-- the node of two sets and a body
abbrev node_is : Shape → Body → FinSet nat_cmp → FinSet nat_cmp → Result Node Fault
node_is shape body x y = Ok (record {
  x = x;
  y = y;
  turn = shape.turn.side;
  left = shape.turn.left;
  body = body;
})

-- points put into a set one after the other
abbrev put_all : FinSet nat_cmp → List ℕ → FinSet nat_cmp
put_all s [] = s
put_all s (p ∷ ps) = put_all (insert s p) ps

put_behind : (ps xs : List ℕ) → put_all (from_list xs) ps ≡ from_list (xs ++ ps)
put_behind [] xs = ap (λ (l : List ℕ). from_list {R = nat_cmp} l) (sym (append-nil xs))
put_behind (p ∷ ps) xs = ap (λ (s : FinSet nat_cmp). put_all s ps)
    (sym (from_list_push nat_cmp_total nat_cmp-IsAntisymmetric xs p))
    ∙ put_behind ps (xs ++ p ∷ [])
    ∙ ap (λ (l : List ℕ). from_list {R = nat_cmp} l) (append_assoc xs (p ∷ []) ps)

-- the set of points that ascend and aren't in the other set
abbrev chosen_set : FinSet nat_cmp → FinSet nat_cmp → ℕ → List ℕ → Result (FinSet nat_cmp) Fault
chosen_set other s least ps = if ascend_from least ps && not (is_touched other ps)
    then Ok (put_all s ps)
    else Err faults.Number

no_and : (a b : Bool) → b ≡ false → (a && b) ≡ false
no_and true b e = e
no_and false b e = refl

refused : (other s : FinSet nat_cmp) (least p : ℕ) (ps : List ℕ)
    → (nat_lt p least || contains other p) ≡ true
    → chosen_set other s least (p ∷ ps) ≡ Err faults.Number
refused other s least p ps on = elim (cases_Bool (nat_lt p least)) [
  | inl below ↦ let le : nat_le least p ≡ false = grind (arith, nat_tests, below) in rw le refl
  | inr above ↦ elim (cases_Bool (contains other p)) [
    | inl inside ↦
        let out : not (is_touched other (p ∷ ps)) ≡ false = rw inside refl in
        let off = no_and (ascend_from least (p ∷ ps)) (not (is_touched other (p ∷ ps))) out in
        ap (λ b. if b then Ok (put_all s (p ∷ ps)) else Err faults.Number) off
    | inr outside ↦ absurd (none above outside on)
  ]
]
  where
    none : nat_lt p least ≡ false
        → contains other p ≡ false
        → (nat_lt p least || contains other p) ≡ true
        → ⊥
    none above outside on = let e : false ≡ true = sym (rw (above, outside) refl) ∙ on in cc

taken : (other s : FinSet nat_cmp) (least p : ℕ) (ps : List ℕ)
    → (nat_lt p least || contains other p) ≡ false
    → chosen_set other s least (p ∷ ps) ≡ chosen_set other (insert s p) (p + 1) ps
taken other s least p ps off = elim (cases_Bool (nat_lt p least)) [
  | inl below ↦ let e : true ≡ false = sym (rw below refl) ∙ off in absurd cc
  | inr above ↦
      let le : nat_le least p ≡ true = grind (arith, nat_tests, above) in
      let outside : contains other p ≡ false = sym (rw above refl) ∙ off in
      rw (le, outside) refl
]

gathered-from : (other s : FinSet nat_cmp) (least : ℕ) (ws : List Bytes)
    → gathered_from other s least ws ≡ and_then (each_of point_of ws) (chosen_set other s least)
gathered-from other s least [] = refl
gathered-from other s least (w ∷ ws) = one (point_of w) (each_of point_of ws)
    (only_each point_of only_point ws) (λ p. gathered-from other (insert s p) (p + 1) ws)
  where
    one : (r : Result ℕ Fault) (rs : Result (List ℕ) Fault)
        → OnlyNumber rs
        → ((p : ℕ) → gathered_from other (insert s p) (p + 1) ws
        ≡ and_then rs (chosen_set other (insert s p) (p + 1)))
        → and_then r (λ p. if nat_lt p least || contains other p
        then Err faults.Number
        else gathered_from other (insert s p) (p + 1) ws)
        ≡ and_then (onto r rs) (chosen_set other s least)
    one (Err fault) rs only next = refl
    one (Ok p) (Err fault) only next = elim (cases_Bool (nat_lt p least || contains other p)) [
      | inl on ↦ rw on (ap Err (sym only))
      | inr off ↦ rw off (next p)
    ]
    one (Ok p) (Ok ps) only next = elim (cases_Bool (nat_lt p least || contains other p)) [
      | inl on ↦ rw on (sym (refused other s least p ps on))
      | inr off ↦ rw off (next p ∙ sym (taken other s least p ps off))
    ]

-- what is left of a list of points
abbrev apart_set : FinSet nat_cmp → List ℕ → Result (FinSet nat_cmp) Fault
apart_set other ps = if is_touched other ps then Err faults.Number else Ok (from_list ps)

gathered : (other : FinSet nat_cmp) (ws : List Bytes)
    → gathered_from other empty 0 ws ≡ and_then (ascending_of ws) (apart_set other)
gathered other ws = gathered-from other empty 0 ws ∙ each (each_of point_of ws)
  where
    listed : (ps : List ℕ)
        → chosen_set other empty 0 ps ≡ and_then (if_ascending ps ps) (apart_set other)
    listed ps = elim (cases_Bool (ascend_from 0 ps)) [
      | inl on ↦ elim (cases_Bool (is_touched other ps)) [
        | inl inside ↦ rw (on, inside) refl
        | inr outside ↦ rw (on, outside) (ap Ok (put_behind ps []))
      ]
      | inr off ↦ rw off refl
    ]

    each : (rs : Result (List ℕ) Fault)
        → and_then rs (chosen_set other empty 0)
        ≡ and_then (and_then rs (λ ps. if_ascending ps ps)) (apart_set other)
    each (Err fault) = refl
    each (Ok ps) = listed ps

touched-empty : (ps : List ℕ) → is_touched empty ps ≡ false
touched-empty [] = refl
touched-empty (p ∷ ps) = let none = contains-empty nat_cmp p in rw none (touched-empty ps)

gathered-first : (ws : List Bytes)
    → gathered_from empty empty 0 ws ≡ and_then (ascending_of ws) (λ ps. Ok (from_list ps))
gathered-first ws = gathered empty ws ∙ each (ascending_of ws)
  where
    each : (rs : Result (List ℕ) Fault)
        → and_then rs (apart_set empty) ≡ and_then rs (λ ps. Ok (from_list ps))
    each (Err fault) = refl
    each (Ok ps) = let none = touched-empty ps in rw none refl

-- ---- the node

both : (shape : Shape) (body : Body) (xs ys : List ℕ)
    → and_then (apart_set (from_list xs) ys) (λ y. node_is shape body (from_list xs) y)
    ≡ node_with shape xs ys (Ok body)
both shape body xs ys = elim (cases_Bool (is_touched (from_list xs) ys)) [
  | inl on ↦ rw on refl
  | inr off ↦ rw off refl
]

second : (shape : Shape) (body : Body) (xs : List ℕ) (gy : Result (FinSet nat_cmp) Fault)
    (ay : Result (List ℕ) Fault)
    → gy ≡ and_then ay (apart_set (from_list xs))
    → and_then gy (λ y. node_is shape body (from_list xs) y)
    ≡ and_then ay (λ ys. node_with shape xs ys (Ok body))
second shape body xs gy (Err fault) e = rw e refl
second shape body xs gy (Ok ys) e = rw e (both shape body xs ys)

first : (shape : Shape) (body : Body) (gx : Result (FinSet nat_cmp) Fault)
    (ax ay : Result (List ℕ) Fault)
    → gx ≡ and_then ax (λ ps. Ok (from_list ps))
    → ((xs : List ℕ) → gathered_from (from_list xs) empty 0 (field_words shape.y)
    ≡ and_then ay (apart_set (from_list xs)))
    → and_then gx
    (λ x. and_then (gathered_from x empty 0 (field_words shape.y)) (λ y. node_is shape body x y))
    ≡ and_then ax (λ xs. and_then ay (λ ys. node_with shape xs ys (Ok body)))
first shape body gx (Err fault) ay e h = rw e refl
first shape body gx (Ok xs) ay e h = rw e
    (second shape body xs (gathered_from (from_list xs) empty 0 (field_words shape.y)) ay (h xs))

-- so the node of a body is the same
pub fields_are : (shape : Shape) (body : Body)
    → read_fields shape body ≡ and_then (ascending_of (field_words shape.x))
    (λ xs. and_then (ascending_of (field_words shape.y)) (λ ys. node_with shape xs ys (Ok body)))
fields_are shape body = first shape body (gathered_from empty empty 0 (field_words shape.x))
    (ascending_of (field_words shape.x)) (ascending_of (field_words shape.y))
    (gathered-first (field_words shape.x)) (λ xs. gathered (from_list xs) (field_words shape.y))
