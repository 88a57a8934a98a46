-- A node that is read is within the limits.
use Rattle.std.proofs.Common.{◌≡◌, ℕ, suc, ◌-◌, ◌%◌, ◌<◌, ◌≤◌, Bool, true, false, cond, ◌⊎◌, inl}
use Rattle.std.proofs.Common.{inr, List, [], ◌∷◌, length, map, arith, refl, sym, ap, subst, ◌∙◌}
use Rattle.std.proofs.Common.{Option, Some, None, Result, Ok, Err}
use Rattle.std.specs.Prelude.{IfOk, nat_lt, nat_le, nat_eq, not, ◌&&◌, ◌==◌, codes}
use Rattle.pg_cert_lines.proofs.Common.{FinSet, contains, from_list, contains-from_list_nat}
use Rattle.pg_cert_lines.proofs.Common.{list_any, All, AllByRecursion, nat_cmp, bytes_eq}
use Rattle.pg_cert_lines.proofs.Common.{cases_Bool, ltb-true, or_cases, or_parts, false≢true}
use Rattle.pg_cert_lines.proofs.Common.{nat_tests, All-from_recursion, Vec, LineError, Gives}
use Rattle.pg_cert_lines.proofs.Common.{and_then, each_of, onto}
use Rattle.pg_base.specs.declared.side.Side.TheVariants as sides
use Rattle.pg_cert_lines.proofs.Common.{Pair, Bytes, Four, parts, pair_of, two_parts, four_parts}
use Rattle.pg_cert_lines.proofs.Common.{number, is_touched, ArePoints, IsReply, IsPair, IsBody}
use Rattle.pg_cert_lines.proofs.Common.{IsTurn, IsNode, has_body, ascend_from}
use Rattle.pg_cert_lines.specs.declared.signs.TheConstants.{COLON, HYPHEN}
use Rattle.pg_cert_lines.specs.declared.turn.TheConstants.{FEWEST, LETTER, MOST, ZERO}
use Rattle.pg_cert_lines.specs.Form.{several_of, turn_of, has_form, named_form, of_version, form_of}
use Rattle.pg_cert_lines.specs.Form.{only_word, are_odd, fits, Shape, with_form, with_body}
use Rattle.pg_cert_lines.specs.Form.{with_fields, shape_of, has_bar}
use Rattle.pg_cert_lines.specs.NodeLine.{below, point_of, child_of, both_of, if_ascending}
use Rattle.pg_cert_lines.specs.NodeLine.{ascending_of, field_words, reply_of, points_pair, move_of}
use Rattle.pg_cert_lines.specs.NodeLine.{weaker_of, word_reply, word_pair, replies_of}
use Rattle.pg_cert_lines.specs.NodeLine.{begins_with_e, after_e, before_slash, after_slash}
use Rattle.pg_cert_lines.specs.NodeLine.{edges_of, body_of, node_with, node_of, formed, node_line}
use Rattle.pg_cert_lines.specs.declared.fault.Fault.{Fault}
use Rattle.pg_cert_lines.specs.declared.fault.Fault.TheVariants as faults
use Rattle.pg_cert_lines.specs.declared.form.Form.{Form}
use Rattle.pg_cert_lines.specs.declared.form.Form.TheVariants as forms
use Rattle.pg_cert_lines.proofs.Common.{Version, One, Two, Body}
use Rattle.pg_cert.specs.declared.node.Body.TheVariants as bodies
use Rattle.pg_cert_lines.proofs.Common.{Node, Reply}
use Rattle.pg_cert_lines.specs.declared.turn.Turn.{Turn}
use Rattle.pg_cert_lines.specs.declared.values.Edges.{Edges}

abbrev pub done : {A : Type 0} → A → Result A Fault
done a = Ok a

abbrev value_or : {A : Type 0} → A → Result A Fault → A
value_or a (Ok b) = b
value_or a (Err fault) = a

pub ok_is : {A : Type 0} (a b : A) → done a ≡ Ok b → a ≡ b
ok_is a b e = ap (λ (r : Result _ Fault). value_or a r) e

pub err_not : {A : Type 0} (fault : Fault) (a : A) (P : Type 0) → Err fault ≡ done a → P
err_not fault a P e = absurd cc

pub then_ok : {A B : Type 0} (r : Result A Fault) (f : A → Result B Fault) (b : B)
    → and_then r f ≡ Ok b
    → (a : A) × (r ≡ Ok a) × (f a ≡ Ok b)
then_ok (Ok a) f b e = (a, refl, e)
then_ok (Err fault) f b e = absurd cc

-- an if-chain, by the way that the test went
pub chosen : {A : Type 0} (b : Bool) (x y z : A)
    → cond b x y ≡ z
    → ((b ≡ true) × (x ≡ z)) ⊎ ((b ≡ false) × (y ≡ z))
chosen true x y z e = inl (refl, e)
chosen false x y z e = inr (refl, e)

onto_ok : {A : Type 0} (P : A → Type 0) (r : Result A Fault) (rs : Result (List A) Fault)
    (found : List A)
    → ((a : A) → r ≡ Ok a → P a)
    → ((others : List A) → rs ≡ Ok others → AllByRecursion P others)
    → onto r rs ≡ Ok found
    → AllByRecursion P found
onto_ok P (Err fault) rs found h hs e = absurd cc
onto_ok P (Ok a) (Err fault) found h hs e = absurd cc
onto_ok P (Ok a) (Ok others) found h hs e =
    subst (AllByRecursion P) (ok_is (a ∷ others) found e) (h a refl, hs others refl)

each_ok : {A : Type 0} (read : Bytes → Result A Fault) (P : A → Type 0)
    → ((w : Bytes) (a : A) → read w ≡ Ok a → P a)
    → (ws : List Bytes) (found : List A) → each_of read ws ≡ Ok found
    → AllByRecursion P found
each_ok read P h [] found e = subst (AllByRecursion P) (ok_is [] found e) tt
each_ok read P h (w ∷ ws) found e =
    onto_ok P (read w) (each_of read ws) found (h w) (λ others f. each_ok read P h ws others f) e

onto_len : {A : Type 0} (r : Result A Fault) (rs : Result (List A) Fault) (found : List A) (n : ℕ)
    → ((others : List A) → rs ≡ Ok others → length others ≡ n)
    → onto r rs ≡ Ok found
    → length found ≡ suc n
onto_len (Err fault) rs found n h e = absurd cc
onto_len (Ok a) (Err fault) found n h e = absurd cc
onto_len (Ok a) (Ok others) found n h e =
    ap length (sym (ok_is (a ∷ others) found e)) ∙ ap suc (h others refl)

each_len : {A : Type 0} (read : Bytes → Result A Fault) (ws : List Bytes) (found : List A)
    → each_of read ws ≡ Ok found
    → length found ≡ length ws
each_len read [] found e = ap length (sym (ok_is [] found e))
each_len read (w ∷ ws) found e =
    onto_len (read w) (each_of read ws) found (length ws) (λ others f. each_len read ws others f) e

below_ok : (limit : ℕ) (o : Option ℕ) (n : ℕ) → below limit o ≡ Ok n → n < limit
below_ok limit None n e = absurd cc
below_ok limit (Some m) n e = elim (chosen (nat_lt m limit) (done m) (Err faults.Number) (Ok n) e) [
  | inl h ↦ subst (λ (k : ℕ). k < limit) (ok_is m n h.1) (ltb-true m limit h.0)
  | inr h ↦ err_not faults.Number n (n < limit) h.1
]

points_ok : (ws : List Bytes) (ps : List ℕ)
    → each_of point_of ws ≡ Ok ps
    → AllByRecursion (λ p. p < 1024) ps
points_ok ws ps e = each_ok point_of (λ p. p < 1024) (λ w p f. below_ok 1024 (number w) p f) ws ps e

-- the points that code reads
pub small_points : (r : Result (Vec ℕ) (LineError Fault)) (ws : List Bytes)
    → Gives (λ (v : Vec ℕ). v.items) r (each_of point_of ws)
    → IfOk r (λ v. All (λ p. p < 1024) v.items)
small_points (Ok v) ws h = All-from_recursion (λ p. p < 1024) v.items (points_ok ws v.items h)
small_points (Err e) ws h = tt

ascending_is : {A : Type 0} (ps : List ℕ) (a b : A)
    → if_ascending ps a ≡ Ok b
    → (ascend_from 0 ps ≡ true) × (a ≡ b)
ascending_is ps a b e = elim (chosen (ascend_from 0 ps) (done a) (Err faults.Number) (Ok b) e) [
  | inl h ↦ (h.0, ok_is a b h.1)
  | inr h ↦ err_not faults.Number b _ h.1
]

ascending_ok : (ws : List Bytes) (ps : List ℕ)
    → ascending_of ws ≡ Ok ps
    → AllByRecursion (λ p. p < 1024) ps
ascending_ok ws ps e =
    let t = then_ok (each_of point_of ws) (λ qs. if_ascending qs qs) ps e in
    let a = ascending_is t.0 t.0 ps t.2 in
    subst (AllByRecursion (λ p. p < 1024)) a.1 (points_ok ws t.0 t.1)

both_ok : {A : Type 0} (make : ℕ → ℕ → A) (P : A → Type 0) (r s : Result ℕ Fault) (found : A)
    → ((v j : ℕ) → r ≡ Ok v → s ≡ Ok j → P (make v j))
    → both_of make r s ≡ Ok found
    → P found
both_ok make P (Err fault) s found h e = absurd cc
both_ok make P (Ok v) (Err fault) found h e = absurd cc
both_ok make P (Ok v) (Ok j) found h e = subst P (ok_is (make v j) found e) (h v j refl refl)

reply_ok : (o : Option (Bytes × Bytes)) (r : Reply) → reply_of o ≡ Ok r → IsReply r
reply_ok None r e = absurd cc
reply_ok (Some p) r e =
    both_ok (λ v j. record { point = v; child = j }) IsReply (point_of p.0) (child_of p.1) r
    (λ v j a b. (below_ok 1024 (number p.0) v a, below_ok 100000 (number p.1) j b)) e

pair_ok : (o : Option (Bytes × Bytes)) (r : Pair) → points_pair o ≡ Ok r → IsPair r
pair_ok None r e = absurd cc
pair_ok (Some p) r e = both_ok (λ a b. record { a = a; b = b }) IsPair (point_of p.0)
    (point_of p.1) r (λ v j a b. (below_ok 1024 (number p.0) v a, below_ok 1024 (number p.1) j b)) e

move_ok : (o : Option (Bytes × Bytes)) (body : Body) → move_of o ≡ Ok body → IsBody body
move_ok None body e = absurd cc
move_ok (Some p) body e = both_ok (λ v j. bodies.Move v j) IsBody (point_of p.0) (child_of p.1) body
    (λ v j a b. (below_ok 1024 (number p.0) v a, below_ok 100000 (number p.1) j b)) e

weaker_ok : (o : Option Bytes) (body : Body) → weaker_of o ≡ Ok body → IsBody body
weaker_ok None body e = absurd cc
weaker_ok (Some word) body e =
    let t = then_ok (child_of word) (λ j. done (bodies.Weaker j)) body e in
    subst IsBody (ok_is (bodies.Weaker t.0) body t.2) (below_ok 100000 (number word) t.0 t.1)

abbrev points_of_replies : List Reply → List ℕ
points_of_replies rs = map (λ r. r.point) rs

replies_ok : (ws : List Bytes) (rs : List Reply)
    → replies_of ws ≡ Ok rs
    → All IsReply rs × (ascend_from 0 (points_of_replies rs) ≡ true)
replies_ok ws rs e =
    let t = then_ok (each_of word_reply ws) (λ qs. if_ascending (points_of_replies qs) qs) rs e in
    let a = ascending_is (points_of_replies t.0) t.0 rs t.2 in
    let each : AllByRecursion IsReply t.0 =
    each_ok word_reply IsReply (λ w r f. reply_ok (two_parts COLON w) r f) ws t.0 t.1 in
    subst (λ (qs : List Reply). All IsReply qs × (ascend_from 0 (points_of_replies qs) ≡ true)) a.1
    (All-from_recursion IsReply t.0 each, a.0)

-- ---- sets

same_number : (a b : ℕ) → nat_eq a b ≡ true → a ≡ b
same_number a b e = grind (arith, nat_tests)

in_list : (P : ℕ → Type 0) (ps : List ℕ) (v : ℕ)
    → AllByRecursion P ps
    → list_any (λ y. nat_eq y v) ps ≡ true
    → P v
in_list P [] v h e = absurd (false≢true e)
in_list P (p ∷ ps) v h e = elim (or_cases (nat_eq p v) (list_any (λ y. nat_eq y v) ps) e) [
  | inl t ↦ subst P (same_number p v t) h.0
  | inr t ↦ in_list P ps v h.1 t
]

abbrev pub set_from : List ℕ → FinSet nat_cmp
set_from ps = from_list ps

in_set : (P : ℕ → Type 0) (ps : List ℕ) (v : ℕ)
    → AllByRecursion P ps
    → contains (set_from ps) v ≡ true
    → P v
in_set P ps v h e = in_list P ps v h (sym (contains-from_list_nat ps v) ∙ e)

set_ok : (ps : List ℕ) → AllByRecursion (λ p. p < 1024) ps → ArePoints (set_from ps)
set_ok ps h = λ v e. in_set (λ p. p < 1024) ps v h e

not_met : (s : FinSet nat_cmp) (ys : List ℕ)
    → list_any (contains s) ys ≡ false
    → AllByRecursion (λ v. contains s v ≡ false) ys
not_met s [] e = tt
not_met s (y ∷ ys) e =
    let both = or_parts (contains s y) (list_any (contains s) ys) e in
    (both.0, not_met s ys both.1)

apart_ok : (s : FinSet nat_cmp) (ys : List ℕ)
    → is_touched s ys ≡ false
    → (v : ℕ) → contains s v ≡ true
    → contains (set_from ys) v ≡ false
apart_ok s ys e v on = elim (cases_Bool (contains (set_from ys) v)) [
  | inl there ↦ absurd
      (false≢true (sym (in_set (λ q. contains s q ≡ false) ys v (not_met s ys e) there) ∙ on))
  | inr off ↦ off
]

-- ---- bodies

edges_ok : (ws : List Bytes) (sets : Edges)
    → edges_of ws ≡ Ok sets
    → ArePoints sets.first × ArePoints sets.second
edges_ok ws sets e =
    let w = begins_with_e ws in
    let a = then_ok (ascending_of (before_slash (after_e ws)))
    (λ first. and_then (ascending_of (after_slash (after_e ws))) (λ second. done (record {
      with_e = w;
      first = from_list first;
      second = from_list second;
    }))) sets e in
    let b = then_ok (ascending_of (after_slash (after_e ws))) (λ second. done (record {
      with_e = w;
      first = from_list a.0;
      second = from_list second;
    })) sets a.2 in
    let made : Edges = record { with_e = w; first = from_list a.0; second = from_list b.0 } in
    subst (λ (s : Edges). ArePoints s.first × ArePoints s.second) (ok_is made sets b.2)
    (set_ok a.0 (ascending_ok _ a.0 a.1), set_ok b.0 (ascending_ok _ b.0 b.1))

not_true : (b : Bool) → not b ≡ true → b ≡ false
not_true true e = absurd cc
not_true false e = refl

not_false : (b : Bool) → not b ≡ false → b ≡ true
not_false true e = refl
not_false false e = absurd cc

pub odd_len : (ws : List Bytes)
    → (are_odd ws ≡ true → length ws % 2 ≡ 1) × (are_odd ws ≡ false → length ws % 2 ≡ 0)
odd_len [] = (λ e. absurd (false≢true e), λ e. refl)
odd_len (w ∷ ws) =
    let h = odd_len ws in (
      λ e. let even : length ws % 2 ≡ 0 = h.1 (not_true (are_odd ws) e) in omega arith,
      λ e. let odd : length ws % 2 ≡ 1 = h.0 (not_false (are_odd ws) e) in omega arith,
    )

body_ok : (form : Form) (ws : List Bytes) (body : Body)
    → fits form ws ≡ true
    → body_of form ws ≡ Ok body
    → IsBody body
body_ok forms.Over ws body fit e = subst IsBody (ok_is bodies.Over body e) tt
body_ok forms.Move ws body fit e = move_ok (pair_of ws) body e
body_ok forms.All ws body fit e =
    let t = then_ok (replies_of ws) (λ rs. done (bodies.All rs)) body e in
    subst IsBody (ok_is (bodies.All t.0) body t.2) (replies_ok ws t.0 t.1)
body_ok forms.Pairs ws body fit e =
    let t = then_ok (each_of word_pair ws) (λ ps. done (bodies.Pairs ps)) body e in
    subst IsBody (ok_is (bodies.Pairs t.0) body t.2)
    (All-from_recursion IsPair t.0
    (each_ok word_pair IsPair (λ w r f. pair_ok (two_parts HYPHEN w) r f) ws t.0 t.1))
body_ok forms.Potential ws body fit e = subst IsBody (ok_is bodies.Potential body e) tt
body_ok forms.Trees ws body fit e =
    let t = then_ok (edges_of ws) (λ s. done (bodies.Trees s.with_e s.first s.second)) body e in
    subst IsBody (ok_is (bodies.Trees t.0.with_e t.0.first t.0.second) body t.2)
    (edges_ok ws t.0 t.1)
body_ok forms.Cuts ws body fit e =
    let t = then_ok (edges_of ws) (λ s. done (bodies.Cuts s.with_e s.first s.second)) body e in
    subst IsBody (ok_is (bodies.Cuts t.0.with_e t.0.first t.0.second) body t.2)
    (edges_ok ws t.0 t.1)
body_ok forms.Threat ws body fit e =
    let t = then_ok (each_of point_of ws) (λ ps. done (bodies.Threat ps)) body e in
    let odd : length ws % 2 ≡ 1 = (odd_len ws).0 fit in
    let len = each_len point_of ws t.0 t.1 in
    subst IsBody (ok_is (bodies.Threat t.0) body t.2)
    (All-from_recursion (λ p. p < 1024) t.0 (points_ok ws t.0 t.1), ap (λ (n : ℕ). n % 2) len ∙ odd)
body_ok forms.Weaker ws body fit e = weaker_ok (only_word ws) body e

-- a body that the version has
abbrev pub HasBody : Version → Body → Type 0
HasBody version body = has_body version body ≡ true

-- a body of a form of the version
body_has : (version : Version) (form : Form) (ws : List Bytes) (body : Body)
    → has_form version form ≡ true
    → body_of form ws ≡ Ok body
    → HasBody version body
body_has Two form ws body has e = refl
body_has One forms.Over ws body has e = subst (HasBody One) (ok_is bodies.Over body e) refl
body_has One forms.Move ws body has e = move_has (pair_of ws) e
  where
    move_has : (o : Option (Bytes × Bytes)) → move_of o ≡ Ok body → HasBody One body
    move_has None e = absurd cc
    move_has (Some p) e = both_ok (λ v j. bodies.Move v j) (HasBody One) (point_of p.0)
        (child_of p.1) body (λ v j a b. refl) e
body_has One forms.All ws body has e =
    let t = then_ok (replies_of ws) (λ rs. done (bodies.All rs)) body e in
    subst (HasBody One) (ok_is (bodies.All t.0) body t.2) refl
body_has One forms.Pairs ws body has e =
    let t = then_ok (each_of word_pair ws) (λ ps. done (bodies.Pairs ps)) body e in
    subst (HasBody One) (ok_is (bodies.Pairs t.0) body t.2) refl
body_has One forms.Potential ws body has e =
    subst (HasBody One) (ok_is bodies.Potential body e) refl
body_has One forms.Trees ws body has e =
    let t = then_ok (edges_of ws) (λ s. done (bodies.Trees s.with_e s.first s.second)) body e in
    subst (HasBody One) (ok_is (bodies.Trees t.0.with_e t.0.first t.0.second) body t.2) refl
body_has One forms.Cuts ws body has e =
    let t = then_ok (edges_of ws) (λ s. done (bodies.Cuts s.with_e s.first s.second)) body e in
    subst (HasBody One) (ok_is (bodies.Cuts t.0.with_e t.0.first t.0.second) body t.2) refl
body_has One forms.Threat ws body has e =
    let t = then_ok (each_of point_of ws) (λ ps. done (bodies.Threat ps)) body e in
    subst (HasBody One) (ok_is (bodies.Threat t.0) body t.2) refl
body_has One forms.Weaker ws body has e = absurd (cc has)

-- ---- lines

some_is : {A : Type 0} (a b : A) → Some a ≡ Some b → a ≡ b
some_is a b e = cc

-- ---- turns

abbrev pub IsTold : Turn → Type 0
IsTold turn = IsTurn turn.side turn.left

several_ok : (word : Bytes) (turn : Turn) → several_of word ≡ Some turn → IsTold turn
several_ok [] turn e = absurd cc
several_ok (sign ∷ []) turn e = absurd cc
several_ok (sign ∷ digit ∷ []) turn e =
    let made : Turn = record { side = sides.Y; left = digit - ZERO } in
    elim (chosen (sign == LETTER && nat_le FEWEST digit && nat_le digit MOST) (Some made) None
    (Some turn) e) [
      | inl h ↦
          let low : 50 ≤ digit = grind (arith, nat_tests, h.0) in
          let high : digit ≤ 55 = grind (arith, nat_tests, h.0) in
          subst IsTold (some_is made turn h.1) (omega (arith, low), omega (arith, high))
      | inr h ↦ absurd (cc h.1)
    ]
several_ok (sign ∷ digit ∷ other ∷ others) turn e = absurd cc

pub turn_ok : (word : Bytes) (turn : Turn) → turn_of word ≡ Some turn → IsTold turn
turn_ok word turn e =
    let x : Turn = record { side = sides.X; left = 1 } in
    let y : Turn = record { side = sides.Y; left = 1 } in
    elim (chosen (bytes_eq word (codes "x")) (Some x)
    (cond (bytes_eq word (codes "y")) (Some y) (several_of word)) (Some turn) e) [
      | inl h ↦ subst IsTold (some_is x turn h.1) refl
      | inr h ↦
          elim (chosen (bytes_eq word (codes "y")) (Some y) (several_of word) (Some turn) h.1) [
            | inl k ↦ subst IsTold (some_is y turn k.1) (omega arith, omega arith)
            | inr k ↦ several_ok word turn k.1
          ]
    ]

-- a shape's words fit its body, a file can say its turn, and the version has its body
abbrev pub IsFit : Version → Shape → Type 0
IsFit version shape =
    (fits shape.form shape.words ≡ true) × IsTold shape.turn × (has_form version shape.form ≡ true)

form_ok : (version : Version) (o : Option Form) (form : Form)
    → of_version version o ≡ Some form
    → has_form version form ≡ true
form_ok version None form e = absurd cc
form_ok version (Some named) form e =
    elim (chosen (has_form version named) (Some named) None (Some form) e) [
      | inl h ↦ subst (λ (f : Form). has_form version f ≡ true) (some_is named form h.1) h.0
      | inr h ↦ absurd (cc h.1)
    ]

pub with_form_ok : (version : Version) (x y : Bytes) (turn : Turn) (form : Option Form)
    (ws : List Bytes) (shape : Shape)
    → IsTold turn
    → ((f : Form) → form ≡ Some f → has_form version f ≡ true)
    → with_form x y turn form ws ≡ Some shape
    → IsFit version shape
with_form_ok version x y turn None ws shape told has e = absurd cc
with_form_ok version x y turn (Some form) ws shape told has e =
    let made : Shape = record { x = x; y = y; turn = turn; form = form; words = ws } in
    elim (chosen (fits form ws) (Some made) None (Some shape) e) [
      | inl h ↦ subst (IsFit version) (some_is made shape h.1) (h.0, told, has form refl)
      | inr h ↦ absurd (cc h.1)
    ]

with_body_ok : (version : Version) (x y : Bytes) (turn : Option Turn) (ws : List Bytes)
    (shape : Shape)
    → ((t : Turn) → turn ≡ Some t → IsTold t)
    → with_body version x y turn ws ≡ Some shape
    → IsFit version shape
with_body_ok version x y None ws shape told e = absurd cc
with_body_ok version x y (Some turn) [] shape told e = absurd cc
with_body_ok version x y (Some turn) (name ∷ ws) shape told e =
    with_form_ok version x y turn (form_of version name) ws shape (told turn refl)
    (λ form is. form_ok version (named_form name) form is) e

with_fields_ok : (version : Version) (fields : Option Four) (shape : Shape)
    → with_fields version fields ≡ Some shape
    → IsFit version shape
with_fields_ok version None shape e = absurd cc
with_fields_ok version (Some f) shape e = with_body_ok version f.first f.second (turn_of f.third)
    (parts 32 f.fourth) shape (λ turn is. turn_ok f.third turn is) e

shape_ok : (version : Version) (line : Bytes) (shape : Shape)
    → shape_of version line ≡ Some shape
    → IsFit version shape
unfolding shape_of
shape_ok version line shape e = with_fields_ok version (four_parts 124 line) shape e

-- a node within the limits whose body the version has
abbrev pub IsRead : Version → Node → Type 0
IsRead version node = IsNode node × HasBody version node.body

with_ok : (version : Version) (shape : Shape) (x y : List ℕ) (r : Result Body Fault) (node : Node)
    → IsTold shape.turn
    → AllByRecursion (λ p. p < 1024) x
    → AllByRecursion (λ p. p < 1024) y
    → ((body : Body) → r ≡ Ok body → IsBody body × HasBody version body)
    → node_with shape x y r ≡ Ok node
    → IsRead version node
with_ok version shape x y (Err fault) node told hx hy h e = absurd cc
with_ok version shape x y (Ok body) node told hx hy h e =
    let made : Node = record {
      x = from_list x;
      y = from_list y;
      turn = shape.turn.side;
      left = shape.turn.left;
      body = body;
    } in
    elim (chosen (is_touched (from_list x) y) (Err faults.Number) (done made) (Ok node) e) [
      | inl bad ↦ err_not faults.Number node (IsRead version node) bad.1
      | inr good ↦
          let fit = h body refl in
          subst (IsRead version) (ok_is made node good.1) (
            record {
              x = set_ok x hx;
              y = set_ok y hy;
              apart = apart_ok (from_list x) y good.0;
              turn = told;
              body = fit.0;
            },
            fit.1,
          )
    ]

node_of_ok : (version : Version) (shape : Shape) (node : Node)
    → IsFit version shape
    → node_of shape ≡ Ok node
    → IsRead version node
node_of_ok version shape node fit e =
    let a = then_ok (ascending_of (field_words shape.x))
    (λ x. and_then (ascending_of (field_words shape.y))
    (λ y. node_with shape x y (body_of shape.form shape.words))) node e in
    let b = then_ok (ascending_of (field_words shape.y))
    (λ y. node_with shape a.0 y (body_of shape.form shape.words)) node a.2 in
    with_ok version shape a.0 b.0 (body_of shape.form shape.words) node fit.1
    (ascending_ok _ a.0 a.1) (ascending_ok _ b.0 b.1) (λ body f. (
      body_ok shape.form shape.words body fit.0 f,
      body_has version shape.form shape.words body fit.2 f,
    )) b.2

pub formed_ok : (version : Version) (o : Option Shape) (node : Node)
    → ((shape : Shape) → o ≡ Some shape → IsFit version shape)
    → formed o ≡ Ok node
    → IsRead version node
formed_ok version None node h e = absurd cc
formed_ok version (Some shape) node h e = node_of_ok version shape node (h shape refl) e

-- what a node line says
pub node_ok : (version : Version) (line : Bytes) (node : Node)
    → node_line version line ≡ Ok node
    → IsRead version node
unfolding node_line
node_ok version line node e = elim (chosen (not (has_bar line)) (Err faults.Place)
    (formed (shape_of version line)) (Ok node) e) [
      | inl h ↦ err_not faults.Place node (IsRead version node) h.1
      | inr h ↦ formed_ok version (shape_of version line) node
          (λ shape f. shape_ok version line shape f) h.1
    ]
