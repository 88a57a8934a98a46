-- A line of the right form can only have wrong numbers.
use Rattle.std.proofs.Common.{◌≡◌, ℕ, Bool, inl, inr, List, [], ◌∷◌, map, refl}
use Rattle.std.proofs.Common.{Option, Some, None, Result, Ok, Err}
use Rattle.std.specs.Prelude.{nat_lt}
use Rattle.pg_cert_lines.proofs.Common.{from_list, cases_Bool, and_then, each_of, onto, Bytes}
use Rattle.pg_cert_lines.proofs.Common.{pair_of, two_parts, number, ascend_from, is_touched, Body}
use Rattle.pg_cert.specs.declared.node.Body.TheVariants as bodies
use Rattle.pg_cert_lines.specs.declared.signs.TheConstants.{COLON, HYPHEN}
use Rattle.pg_cert_lines.specs.Form.{only_word, Shape}
use Rattle.pg_cert_lines.specs.NodeLine.{below, point_of, child_of, both_of, if_ascending}
use Rattle.pg_cert_lines.specs.NodeLine.{ascending_of, field_words, reply_of, points_pair, move_of}
use Rattle.pg_cert_lines.specs.NodeLine.{weaker_of, word_reply, word_pair, replies_of}
use Rattle.pg_cert_lines.specs.NodeLine.{begins_with_e, after_e, before_slash, after_slash}
use Rattle.pg_cert_lines.specs.NodeLine.{edges_with, edges_of, body_of, node_with, node_of}
use Rattle.pg_cert_lines.specs.declared.fault.Fault.{Fault}
use Rattle.pg_cert_lines.specs.declared.fault.Fault.TheVariants as faults
use Rattle.pg_cert_lines.specs.declared.form.Form.{Form}
use Rattle.pg_cert_lines.specs.declared.form.Form.TheVariants as forms

abbrev pub OnlyNumber : {A : Type 0} → Result A Fault → Type 0
OnlyNumber (Ok a) = Unit {0}
OnlyNumber (Err fault) = fault ≡ faults.Number

pub only_then : {A B : Type 0} (r : Result A Fault) (next : A → Result B Fault)
    → OnlyNumber r
    → ((a : A) → OnlyNumber (next a))
    → OnlyNumber (and_then r next)
only_then (Ok a) next h hs = hs a
only_then (Err fault) next h hs = h

only_onto : {A : Type 0} (r : Result A Fault) (rs : Result (List A) Fault)
    → OnlyNumber r
    → OnlyNumber rs
    → OnlyNumber (onto r rs)
only_onto (Err fault) rs h hs = h
only_onto (Ok a) (Err fault) h hs = hs
only_onto (Ok a) (Ok others) h hs = tt

pub only_each : {A : Type 0} (read : Bytes → Result A Fault)
    → ((w : Bytes) → OnlyNumber (read w))
    → (ws : List Bytes) → OnlyNumber (each_of read ws)
only_each read h [] = tt
only_each read h (w ∷ ws) = only_onto (read w) (each_of read ws) (h w) (only_each read h ws)

only_both : {A : Type 0} (make : ℕ → ℕ → A) (r s : Result ℕ Fault)
    → OnlyNumber r
    → OnlyNumber s
    → OnlyNumber (both_of make r s)
only_both make (Err fault) s h k = h
only_both make (Ok a) (Err fault) h k = k
only_both make (Ok a) (Ok b) h k = tt

only_below : (limit : ℕ) (n : Option ℕ) → OnlyNumber (below limit n)
only_below limit None = refl
only_below limit (Some n) = elim (cases_Bool (nat_lt n limit)) [
  | inl on ↦ rw on tt
  | inr off ↦ rw off refl
]

pub only_point : (w : Bytes) → OnlyNumber (point_of w)
only_point w = only_below 1024 (number w)

only_child : (w : Bytes) → OnlyNumber (child_of w)
only_child w = only_below 100000 (number w)

only_ascending : {A : Type 0} (ps : List ℕ) (a : A) → OnlyNumber (if_ascending ps a)
only_ascending ps a = elim (cases_Bool (ascend_from 0 ps)) [
  | inl on ↦ rw on tt
  | inr off ↦ rw off refl
]

pub only_points : (ws : List Bytes) → OnlyNumber (ascending_of ws)
only_points ws = only_then (each_of point_of ws) (λ ps. if_ascending ps ps)
    (only_each point_of only_point ws) (λ ps. only_ascending ps ps)

only_reply : (p : Option (Bytes × Bytes)) → OnlyNumber (reply_of p)
only_reply None = refl
only_reply (Some p) = only_both (λ v j. record {
  point = v;
  child = j;
}) (point_of p.0) (child_of p.1) (only_point p.0) (only_child p.1)

only_pair : (p : Option (Bytes × Bytes)) → OnlyNumber (points_pair p)
only_pair None = refl
only_pair (Some p) = only_both (λ a b. record {
  a = a;
  b = b;
}) (point_of p.0) (point_of p.1) (only_point p.0) (only_point p.1)

only_move : (p : Option (Bytes × Bytes)) → OnlyNumber (move_of p)
only_move None = refl
only_move (Some p) = only_both (λ v j. bodies.Move v j) (point_of p.0) (child_of p.1)
    (only_point p.0) (only_child p.1)

only_weaker : (word : Option Bytes) → OnlyNumber (weaker_of word)
only_weaker None = refl
only_weaker (Some word) = only_then (child_of word) _ (only_child word) (λ j. tt)

only_edges : (with_e : Bool) (ws : List Bytes) → OnlyNumber (edges_with with_e ws)
only_edges with_e ws = only_then (ascending_of (before_slash ws)) _ (only_points (before_slash ws))
    (λ first. only_then (ascending_of (after_slash ws)) _ (only_points (after_slash ws))
    (λ second. tt))

pub only_body : (form : Form) (ws : List Bytes) → OnlyNumber (body_of form ws)
only_body forms.Over ws = tt
only_body forms.Move ws = only_move (pair_of ws)
only_body forms.All ws = only_then (replies_of ws) _
    (only_then (each_of word_reply ws) _
    (only_each word_reply (λ w. only_reply (two_parts COLON w)) ws)
    (λ rs. only_ascending (map (λ r. r.point) rs) rs)) (λ rs. tt)
only_body forms.Pairs ws = only_then (each_of word_pair ws) _
    (only_each word_pair (λ w. only_pair (two_parts HYPHEN w)) ws) (λ ps. tt)
only_body forms.Potential ws = tt
only_body forms.Trees ws =
    only_then (edges_of ws) _ (only_edges (begins_with_e ws) (after_e ws)) (λ e. tt)
only_body forms.Cuts ws =
    only_then (edges_of ws) _ (only_edges (begins_with_e ws) (after_e ws)) (λ e. tt)
only_body forms.Threat ws =
    only_then (each_of point_of ws) _ (only_each point_of only_point ws) (λ ps. tt)
only_body forms.Weaker ws = only_weaker (only_word ws)

only_node_with : (shape : Shape) (x y : List ℕ) (body : Result Body Fault)
    → OnlyNumber body
    → OnlyNumber (node_with shape x y body)
only_node_with shape x y (Err fault) h = h
only_node_with shape x y (Ok body) h = elim (cases_Bool (is_touched (from_list x) y)) [
  | inl on ↦ rw on refl
  | inr off ↦ rw off tt
]

pub only_node : (shape : Shape) → OnlyNumber (node_of shape)
only_node shape =
    only_then (ascending_of (field_words shape.x)) _ (only_points (field_words shape.x))
    (λ x. only_then (ascending_of (field_words shape.y)) _ (only_points (field_words shape.y)) (λ y.
    only_node_with shape x y (body_of shape.form shape.words) (only_body shape.form shape.words)))
