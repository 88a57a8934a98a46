-- A printed node line is read again as the same node.
use Rattle.std.proofs.Common.{◌≡◌, ℕ, zero, suc, ◌+◌, ◌-◌, ◌%◌, ◌<◌, ◌≤◌, lit<, Bool, true, false}
use Rattle.std.proofs.Common.{inl, inr, List, [], ◌∷◌, ◌++◌, length, map, arith, refl, sym, ap}
use Rattle.std.proofs.Common.{subst, ◌∙◌, Option, Some, Result, Ok}
use Rattle.std.specs.Prelude.{◌==◌, nat_lt, nat_le, codes, is_some, slice_index}
use Rattle.pg_cert_lines.proofs.Common.{FinSet, contains, from_list, decimal, list_any}
use Rattle.pg_cert_lines.proofs.Common.{AllByRecursion, nat_cmp, cases_Bool, or_right, false≢true}
use Rattle.pg_cert_lines.proofs.Common.{nat_tests, length-map, length-append, All-from_recursion}
use Rattle.pg_cert_lines.proofs.Common.{recursion_from_All, and_then, Side}
use Rattle.std.specs.List.Sorted.{IsStrictlyIncreasing}
use Rattle.std.proofs.lemmas.Fmt.{decimal_is_IsNumeral, decimal_digit}
use Rattle.pg_base.specs.declared.side.Side.TheVariants as sides
use Rattle.pg_cert_lines.proofs.Common.{Pair, Bytes, Lacks, parts, two_parts, four_parts, spaced}
use Rattle.pg_cert_lines.proofs.Common.{behind_spaces, is_touched, ArePoints, IsReply, IsPair}
use Rattle.pg_cert_lines.proofs.Common.{IsBody, IsTurn, IsNode, has_body, ascend_from, side_word}
use Rattle.pg_cert_lines.proofs.Common.{set_words, reply_word, pair_word, edge_words, body_name}
use Rattle.pg_cert_lines.proofs.Common.{body_words, body_text, turn_word}
use Rattle.pg_base.specs.Points.{members}
use Rattle.pg_base.proofs.MemberLemmas.{points_below-each, points_below-small, points_below-ascend}
use Rattle.pg_base.proofs.MemberLemmas.{from_list-points_below}
use Rattle.pg_cert_lines.specs.Form.{has_form, named_form, of_version, form_of, are_odd}
use Rattle.pg_cert_lines.specs.Form.{each_has_one, is_slash, has_one_slash, fits, Shape}
use Rattle.pg_cert_lines.specs.Form.{with_fields, turn_of, shape_of}
use Rattle.pg_cert_lines.specs.NodeLine.{ascending_of, field_words, reply_of, points_pair}
use Rattle.pg_cert_lines.specs.NodeLine.{word_reply, word_pair, is_e, begins_with_e, after_e}
use Rattle.pg_cert_lines.specs.NodeLine.{before_slash, after_slash, edges_with, edges_of, body_of}
use Rattle.pg_cert_lines.specs.NodeLine.{node_of, node_line}
use Rattle.pg_cert_lines.specs.declared.fault.Fault.{Fault}
use Rattle.pg_cert_lines.specs.declared.form.Form.{Form}
use Rattle.pg_cert_lines.specs.declared.form.Form.TheVariants as forms
use Rattle.pg_cert_lines.proofs.Common.{Version, One, Two, Body}
use Rattle.pg_cert.specs.declared.node.Body.TheVariants as bodies
use Rattle.pg_cert_lines.proofs.Common.{Node, Reply, just_two, four_three, all_append, all_map}
use Rattle.pg_cert_lines.proofs.Common.{decimal_not, two_decimals, IsPlain, IsQuiet, IsWord}
use Rattle.pg_cert_lines.proofs.Common.{decimal_is_word, word_quiet, spaced_quiet, words_spaced}
use Rattle.pg_cert_lines.proofs.Common.{quiet_text}
use Rattle.pg_cert_lines.specs.declared.values.Edges.{Edges}
use Rattle.pg_cert_lines.proofs.NodeLimits.{odd_len, set_from, IsRead}
use Rattle.pg_cert_lines.proofs.Words.{lacks_bar, point_decimal, child_decimal, each_back}
use Rattle.pg_cert_lines.proofs.Words.{points_back}

-- ---- sets

-- numbers in strict order, none below the first that may stand there, ascend
ascends : (m : ℕ) (ps : List ℕ)
    → (0 < length ps → m ≤ slice_index ps 0)
    → IsStrictlyIncreasing ps
    → ascend_from m ps ≡ true
ascends m [] least up = refl
ascends m (p ∷ ps) least up =
    let here : nat_le m p ≡ true = grind (arith, nat_tests, least (omega arith)) in
    rw here
    (ascends (p + 1) ps (λ some. omega (arith, up 0 (omega (arith, some)))) (behind p ps up))
  where
    behind : (p : ℕ) (ps : List ℕ) → IsStrictlyIncreasing (p ∷ ps) → IsStrictlyIncreasing ps
    behind p ps up = λ k h.
        let e : suc k + 1 ≡ suc (k + 1) = omega arith in
        subst (λ i. slice_index ps k < slice_index (p ∷ ps) i) e (up (suc k) (omega (arith, h)))

points_are : (ps : List ℕ)
    → ascend_from 0 ps ≡ true
    → AllByRecursion (λ p. p < 1024) ps
    → ascending_of (map decimal ps) ≡ Ok ps
points_are ps e h = let read = points_back ps h in rw (read, e) refl

pub set_points : (s : FinSet nat_cmp) → ascending_of (set_words s) ≡ Ok (members s)
set_points s = points_are (members s)
    (ascends 0 (members s) (λ some. omega arith) (points_below-ascend s 1024))
    (points_below-small s 1024)

points_words : (ps : List ℕ)
    → AllByRecursion (λ p. p < 1024) ps
    → AllByRecursion IsWord (map decimal ps)
points_words ps h =
    all_map decimal (λ p. p < 1024) IsWord (λ p k. decimal_is_word p (omega arith)) ps h

pub set_are_words : (s : FinSet nat_cmp) → AllByRecursion IsWord (set_words s)
set_are_words s = points_words (members s) (points_below-small s 1024)

some_len : (t : Bytes) → 0 < length t → field_words t ≡ parts 32 t
some_len [] h = absurd (omega arith)
some_len (b ∷ bs) h = let t : (length (b ∷ bs) == 0) ≡ false = grind (arith, nat_tests) in rw t refl

field_word : (w : Bytes) (ws : List Bytes)
    → IsWord w
    → AllByRecursion IsWord ws
    → 0 < length w
    → field_words (spaced (w ∷ ws)) ≡ w ∷ ws
field_word w ws h k some =
    some_len (spaced (w ∷ ws)) (omega (arith, length-append w (behind_spaces ws)))
    ∙ words_spaced w ws h k

fields_of : (ps : List ℕ)
    → AllByRecursion (λ p. p < 1024) ps
    → field_words (spaced (map decimal ps)) ≡ map decimal ps
fields_of [] h = refl
fields_of (p ∷ ps) h =
    field_word (decimal p) (map decimal ps) (decimal_is_word p (omega (arith, h.0)))
    (points_words ps h.1) (decimal_is_IsNumeral p (omega (arith, h.0))).0.0

pub field_back : (s : FinSet nat_cmp)
    → ascending_of (field_words (spaced (set_words s))) ≡ Ok (members s)
field_back s = ap ascending_of (fields_of (members s) (points_below-small s 1024)) ∙ set_points s

none_met : (s : FinSet nat_cmp) (ys : List ℕ)
    → AllByRecursion (λ v. contains s v ≡ false) ys
    → list_any (contains s) ys ≡ false
none_met s [] h = refl
none_met s (y ∷ ys) h = rw h.0 (none_met s ys h.1)

not_in : (s t : FinSet nat_cmp) (v : ℕ)
    → (contains s v ≡ true → contains t v ≡ false)
    → contains t v ≡ true
    → contains s v ≡ false
not_in s t v h on = elim (cases_Bool (contains s v)) [
  | inl there ↦ absurd (false≢true (sym (h there) ∙ on))
  | inr off ↦ off
]

apart_back : (s t : FinSet nat_cmp)
    → ((v : ℕ) → contains s v ≡ true → contains t v ≡ false)
    → is_touched s (members t) ≡ false
apart_back s t h = none_met s (members t)
    (points_below-each (λ v. contains s v ≡ false) t 1024 (λ v on lt. not_in s t v (h v) on))

-- ---- bodies

abbrev form_is : Body → Form
form_is bodies.Over = forms.Over
form_is (bodies.Move v j) = forms.Move
form_is (bodies.All rs) = forms.All
form_is (bodies.Pairs ps) = forms.Pairs
form_is bodies.Potential = forms.Potential
form_is (bodies.Trees e a b) = forms.Trees
form_is (bodies.Cuts e a b) = forms.Cuts
form_is (bodies.Threat ps) = forms.Threat
form_is (bodies.Weaker j) = forms.Weaker

name_back : (body : Body) → named_form (body_name body) ≡ Some (form_is body)
name_back bodies.Over = refl
name_back (bodies.Move v j) = refl
name_back (bodies.All rs) = refl
name_back (bodies.Pairs ps) = refl
name_back bodies.Potential = refl
name_back (bodies.Trees e a b) = refl
name_back (bodies.Cuts e a b) = refl
name_back (bodies.Threat ps) = refl
name_back (bodies.Weaker j) = refl

form_has : (version : Version) (body : Body)
    → has_form version (form_is body) ≡ has_body version body
form_has Two body = refl
form_has One bodies.Over = refl
form_has One (bodies.Move v j) = refl
form_has One (bodies.All rs) = refl
form_has One (bodies.Pairs ps) = refl
form_has One bodies.Potential = refl
form_has One (bodies.Trees e a b) = refl
form_has One (bodies.Cuts e a b) = refl
form_has One (bodies.Threat ps) = refl
form_has One (bodies.Weaker j) = refl

form_back : (version : Version) (body : Body)
    → has_body version body ≡ true
    → form_of version (body_name body) ≡ Some (form_is body)
form_back version body has =
    let fits : has_form version (form_is body) ≡ true = form_has version body ∙ has in
    ap (of_version version) (name_back body) ∙ rw fits refl

plain_at : (b : ℕ) → 32 < b → b < 124 → IsPlain b
plain_at b low high = (low, high)

pub name_is_word : (body : Body) → IsWord (body_name body)
name_is_word bodies.Over =
    ((lit< tt, lit< tt), ((lit< tt, lit< tt), ((lit< tt, lit< tt), ((lit< tt, lit< tt), tt))))
name_is_word (bodies.Move v j) =
    ((lit< tt, lit< tt), ((lit< tt, lit< tt), ((lit< tt, lit< tt), ((lit< tt, lit< tt), tt))))
name_is_word (bodies.All rs) = ((lit< tt, lit< tt), ((lit< tt, lit< tt), ((lit< tt, lit< tt), tt)))
name_is_word (bodies.Pairs ps) = (
  (lit< tt, lit< tt),
  ((lit< tt, lit< tt), ((lit< tt, lit< tt), ((lit< tt, lit< tt), ((lit< tt, lit< tt), tt)))),
)
name_is_word bodies.Potential = (
  (lit< tt, lit< tt),
  (
    (lit< tt, lit< tt),
    (
      (lit< tt, lit< tt),
      (
        (lit< tt, lit< tt),
        (
          (lit< tt, lit< tt),
          (
            (lit< tt, lit< tt),
            ((lit< tt, lit< tt), ((lit< tt, lit< tt), ((lit< tt, lit< tt), tt))),
          ),
        ),
      ),
    ),
  ),
)
name_is_word (bodies.Trees e a b) = (
  (lit< tt, lit< tt),
  ((lit< tt, lit< tt), ((lit< tt, lit< tt), ((lit< tt, lit< tt), ((lit< tt, lit< tt), tt)))),
)
name_is_word (bodies.Cuts e a b) =
    ((lit< tt, lit< tt), ((lit< tt, lit< tt), ((lit< tt, lit< tt), ((lit< tt, lit< tt), tt))))
name_is_word (bodies.Threat ps) = (
  (lit< tt, lit< tt),
  (
    (lit< tt, lit< tt),
    ((lit< tt, lit< tt), ((lit< tt, lit< tt), ((lit< tt, lit< tt), ((lit< tt, lit< tt), tt)))),
  ),
)
name_is_word (bodies.Weaker j) = (
  (lit< tt, lit< tt),
  (
    (lit< tt, lit< tt),
    ((lit< tt, lit< tt), ((lit< tt, lit< tt), ((lit< tt, lit< tt), ((lit< tt, lit< tt), tt)))),
  ),
)

reply_is_word : (r : Reply) → IsReply r → IsWord (reply_word r)
reply_is_word r h = all_append IsPlain (decimal r.point) (58 ∷ decimal r.child)
    (decimal_is_word r.point (omega (arith, h.0)))
    ((lit< tt, lit< tt), decimal_is_word r.child (omega (arith, h.1)))

pair_is_word : (p : Pair) → IsPair p → IsWord (pair_word p)
pair_is_word p h =
    all_append IsPlain (decimal p.a) (45 ∷ decimal p.b) (decimal_is_word p.a (omega (arith, h.0)))
    ((lit< tt, lit< tt), decimal_is_word p.b (omega (arith, h.1)))

edges_are_words : (e : Bool) (a b : FinSet nat_cmp) → AllByRecursion IsWord (edge_words e a b)
edges_are_words true a b = (
  ((lit< tt, lit< tt), tt),
  all_append IsWord (set_words a) (codes "/" ∷ set_words b) (set_are_words a)
      (((lit< tt, lit< tt), tt), set_are_words b),
)
edges_are_words false a b = all_append IsWord (set_words a) (codes "/" ∷ set_words b)
    (set_are_words a) (((lit< tt, lit< tt), tt), set_are_words b)

pub body_are_words : (body : Body) → IsBody body → AllByRecursion IsWord (body_words body)
body_are_words bodies.Over h = tt
body_are_words (bodies.Move v j) h =
    (decimal_is_word v (omega (arith, h.0)), (decimal_is_word j (omega (arith, h.1)), tt))
body_are_words (bodies.All rs) h =
    all_map reply_word IsReply IsWord reply_is_word rs (recursion_from_All IsReply rs h.0)
body_are_words (bodies.Pairs ps) h =
    all_map pair_word IsPair IsWord pair_is_word ps (recursion_from_All IsPair ps h)
body_are_words bodies.Potential h = tt
body_are_words (bodies.Trees e a b) h = edges_are_words e a b
body_are_words (bodies.Cuts e a b) h = edges_are_words e a b
body_are_words (bodies.Threat ps) h = points_words ps (recursion_from_All (λ p. p < 1024) ps h.0)
body_are_words (bodies.Weaker j) h = (decimal_is_word j (omega (arith, h)), tt)

reply_parts : (r : Reply)
    → IsReply r
    → two_parts 58 (reply_word r) ≡ Some (decimal r.point, decimal r.child)
reply_parts r h =
    two_decimals 58 r.point r.child (omega (arith, h.0)) (omega (arith, h.1)) (inr (lit< tt))

pair_parts : (p : Pair) → IsPair p → two_parts 45 (pair_word p) ≡ Some (decimal p.a, decimal p.b)
pair_parts p h = two_decimals 45 p.a p.b (omega (arith, h.0)) (omega (arith, h.1)) (inl (lit< tt))

reply_back : (r : Reply) → IsReply r → word_reply (reply_word r) ≡ Ok r
reply_back r h =
    let cut = reply_parts r h in
    let v = point_decimal r.point h.0 in
    let j = child_decimal r.child h.1 in
    ap reply_of cut ∙ rw (v, j) refl

pair_back : (p : Pair) → IsPair p → word_pair (pair_word p) ≡ Ok p
pair_back p h =
    let cut = pair_parts p h in
    let a = point_decimal p.a h.0 in
    let b = point_decimal p.b h.1 in
    ap points_pair cut ∙ rw (a, b) refl

each_has : {A : Type 0} (sign : ℕ) (word : A → Bytes) (P : A → Type 0)
    → ((a : A) → P a → is_some (two_parts sign (word a)) ≡ true)
    → (all : List A) → AllByRecursion P all
    → each_has_one sign (map word all) ≡ true
each_has sign word P h [] k = refl
each_has sign word P h (a ∷ all) k = let here = h a k.0 in rw here (each_has sign word P h all k.1)

-- ---- sets of edges

abbrev slash : Bytes
slash = codes "/"

no_slashes : (ps : List ℕ)
    → AllByRecursion (λ p. p < 1024) ps
    → AllByRecursion (λ w. is_slash w ≡ false) (map decimal ps)
no_slashes ps h = all_map decimal (λ p. p < 1024) (λ w. is_slash w ≡ false)
    (λ p k. decimal_not 47 p (omega arith) (inl (lit< tt))) ps h

before_words : (ws vs : List Bytes)
    → AllByRecursion (λ w. is_slash w ≡ false) ws
    → before_slash (ws ++ slash ∷ vs) ≡ ws
before_words [] vs h = refl
before_words (w ∷ ws) vs h = rw h.0 (ap (λ (x : List Bytes). w ∷ x) (before_words ws vs h.1))

after_words : (ws vs : List Bytes)
    → AllByRecursion (λ w. is_slash w ≡ false) ws
    → after_slash (ws ++ slash ∷ vs) ≡ vs
after_words [] vs h = refl
after_words (w ∷ ws) vs h = rw h.0 (after_words ws vs h.1)

no_slash_in : (ws : List Bytes)
    → AllByRecursion (λ w. is_slash w ≡ false) ws
    → list_any is_slash ws ≡ false
no_slash_in [] h = refl
no_slash_in (w ∷ ws) h = rw h.0 (no_slash_in ws h.1)

one_slash : (ws vs : List Bytes)
    → AllByRecursion (λ w. is_slash w ≡ false) ws
    → AllByRecursion (λ w. is_slash w ≡ false) vs
    → has_one_slash (ws ++ slash ∷ vs) ≡ true
one_slash [] vs h k = let none = no_slash_in vs k in rw none refl
one_slash (w ∷ ws) vs h k = rw h.0 (one_slash ws vs h.1 k)

set_no_slashes : (s : FinSet nat_cmp) → AllByRecursion (λ w. is_slash w ≡ false) (set_words s)
set_no_slashes s = no_slashes (members s) (points_below-small s 1024)

edges_fit : (e : Bool) (a b : FinSet nat_cmp) → has_one_slash (edge_words e a b) ≡ true
edges_fit true a b = one_slash (set_words a) (set_words b) (set_no_slashes a) (set_no_slashes b)
edges_fit false a b = one_slash (set_words a) (set_words b) (set_no_slashes a) (set_no_slashes b)

begins_not : (ps : List ℕ) (vs : List Bytes)
    → AllByRecursion (λ p. p < 1024) ps
    → (begins_with_e (map decimal ps ++ slash ∷ vs) ≡ false)
    × (after_e (map decimal ps ++ slash ∷ vs) ≡ map decimal ps ++ slash ∷ vs)
begins_not [] vs h = (refl, refl)
begins_not (p ∷ ps) vs h =
    let no : is_e (decimal p) ≡ false = decimal_not 101 p (omega (arith, h.0)) (inr (lit< tt)) in
    (no, rw no refl)

edges_start : (e : Bool) (a b : FinSet nat_cmp)
    → (begins_with_e (edge_words e a b) ≡ e)
    × (after_e (edge_words e a b) ≡ set_words a ++ slash ∷ set_words b)
edges_start true a b = (refl, refl)
edges_start false a b = begins_not (members a) (set_words b) (points_below-small a 1024)

abbrev edges : Bool → FinSet nat_cmp → FinSet nat_cmp → Edges
edges e a b = record { with_e = e; first = a; second = b }

abbrev read_edges : Edges → Result Edges Fault
read_edges sets = Ok sets

abbrev read_body : Body → Result Body Fault
read_body body = Ok body

sets_back : (e : Bool) (a b : FinSet nat_cmp)
    → ArePoints a
    → ArePoints b
    → edges_with e (set_words a ++ slash ∷ set_words b) ≡ Ok (edges e a b)
sets_back e a b h k =
    let front : ascending_of (before_slash (set_words a ++ slash ∷ set_words b)) ≡ Ok (members a) =
    ap ascending_of (before_words (set_words a) (set_words b) (set_no_slashes a)) ∙ set_points a in
    let behind : ascending_of (after_slash (set_words a ++ slash ∷ set_words b)) ≡ Ok (members b) =
    ap ascending_of (after_words (set_words a) (set_words b) (set_no_slashes a)) ∙ set_points b in
    ap (λ (r : Result (List ℕ) Fault). and_then r
    (λ first. and_then (ascending_of (after_slash (set_words a ++ slash ∷ set_words b)))
    (λ second. Ok (edges e (from_list first) (from_list second))))) front
    ∙ ap (λ (r : Result (List ℕ) Fault).
    and_then r (λ second. Ok (edges e (from_list (members a)) (from_list second)))) behind
    ∙ ap (λ (s : FinSet nat_cmp). read_edges (edges e s (set_from (members b))))
    (from_list-points_below a 1024 h)
    ∙ ap (λ (s : FinSet nat_cmp). read_edges (edges e a s)) (from_list-points_below b 1024 k)

edges_back : (e : Bool) (a b : FinSet nat_cmp)
    → ArePoints a
    → ArePoints b
    → edges_of (edge_words e a b) ≡ Ok (edges e a b)
edges_back e a b h k =
    let start = edges_start e a b in
    ap (λ (x : Bool). edges_with x (after_e (edge_words e a b))) start.0
    ∙ ap (λ (ws : List Bytes). edges_with e ws) start.1
    ∙ sets_back e a b h k

-- ---- the whole body

odd_back : (ps : List ℕ) → length ps % 2 ≡ 1 → are_odd (map decimal ps) ≡ true
odd_back ps odd = elim (cases_Bool (are_odd (map decimal ps))) [
  | inl on ↦ on
  | inr off ↦
      let even : length (map decimal ps) % 2 ≡ 0 = (odd_len (map decimal ps)).1 off in
      absurd (omega (arith, length-map ps decimal))
]

some_test : {A : Type 0} (o : Option A) (a : A) → o ≡ Some a → is_some o ≡ true
some_test o a e = rw e refl

body_fits : (body : Body) → IsBody body → fits (form_is body) (body_words body) ≡ true
body_fits bodies.Over h = refl
body_fits (bodies.Move v j) h = refl
body_fits (bodies.All rs) h =
    each_has 58 reply_word IsReply (λ r k. some_test (two_parts 58 (reply_word r)) (
      decimal r.point,
      decimal r.child,
    ) (reply_parts r k)) rs (recursion_from_All IsReply rs h.0)
body_fits (bodies.Pairs ps) h = each_has 45 pair_word IsPair
    (λ p k. some_test (two_parts 45 (pair_word p)) (decimal p.a, decimal p.b) (pair_parts p k)) ps
    (recursion_from_All IsPair ps h)
body_fits bodies.Potential h = refl
body_fits (bodies.Trees e a b) h = edges_fit e a b
body_fits (bodies.Cuts e a b) h = edges_fit e a b
body_fits (bodies.Threat ps) h = odd_back ps h.1
body_fits (bodies.Weaker j) h = refl

body_back : (body : Body) → IsBody body → body_of (form_is body) (body_words body) ≡ Ok body
body_back bodies.Over h = refl
body_back (bodies.Move v j) h =
    let a = point_decimal v h.0 in
    let b = child_decimal j h.1 in
    rw (a, b) refl
body_back (bodies.All rs) h =
    let read =
    each_back word_reply reply_word IsReply reply_back rs (recursion_from_All IsReply rs h.0) in
    rw (read, h.1) refl
body_back (bodies.Pairs ps) h =
    let read = each_back word_pair pair_word IsPair pair_back ps (recursion_from_All IsPair ps h) in
    rw read refl
body_back bodies.Potential h = refl
body_back (bodies.Trees e a b) h = ap (λ (r : Result Edges Fault).
    and_then r (λ s. read_body (bodies.Trees s.with_e s.first s.second))) (edges_back e a b h.0 h.1)
body_back (bodies.Cuts e a b) h = ap (λ (r : Result Edges Fault).
    and_then r (λ s. read_body (bodies.Cuts s.with_e s.first s.second))) (edges_back e a b h.0 h.1)
body_back (bodies.Threat ps) h =
    let read = points_back ps (recursion_from_All (λ p. p < 1024) ps h.0) in
    rw read refl
body_back (bodies.Weaker j) h = let child = child_decimal j h in rw child refl

-- ---- the line

-- a node line without its line feed
abbrev pub node_line_text : Node → Bytes
node_line_text n = spaced (set_words n.x) ++ 124
    ∷ (spaced (set_words n.y) ++ 124 ∷ (turn_word n.turn n.left ++ 124 ∷ body_text n.body))

pub side_is_word : (side : Side) → IsWord (side_word side)
side_is_word sides.X = ((lit< tt, lit< tt), tt)
side_is_word sides.Y = ((lit< tt, lit< tt), tt)

-- a turn's word is a word, and it is read as the turn
turn_is_word : (side : Side) (left : ℕ) → IsTurn side left → IsWord (turn_word side left)
unfolding turn_word
turn_is_word sides.X left h =
    subst (λ (n : ℕ). IsWord (turn_word sides.X n)) (sym h) ((lit< tt, lit< tt), tt)
turn_is_word sides.Y left h = (
  (lit< tt, lit< tt),
  elim (cases_Bool (nat_lt 1 left)) [
    | inl more ↦ rw more (decimal_is_word left (omega (arith, h.1)))
    | inr one ↦ rw one tt
  ],
)

pub turn_back : (side : Side) (left : ℕ)
    → IsTurn side left
    → turn_of (turn_word side left) ≡ Some (record { side = side; left = left })
unfolding turn_word
turn_back sides.X left h = subst (λ (n : ℕ). turn_of (turn_word sides.X n) ≡ Some (record {
  side = sides.X;
  left = n;
})) (sym h) refl
turn_back sides.Y zero h = absurd (omega (arith, h.0))
turn_back sides.Y (suc zero) h = refl
turn_back sides.Y (suc (suc n)) h =
    let left : ℕ = suc (suc n) in
    let more : nat_lt 1 left ≡ true = grind (arith, nat_tests) in
    let digit = decimal_digit left (omega (arith, h.1)) in
    let low : nat_le 50 (48 + left) ≡ true = grind (arith, nat_tests) in
    let high : nat_le (48 + left) 55 ≡ true = grind (arith, nat_tests, h.1) in
    let same : 48 + left - 48 ≡ left = omega arith in
    rw (more, digit, low, high, same) refl

pub body_quiet : (body : Body) → IsBody body → AllByRecursion IsQuiet (body_text body)
body_quiet body h =
    spaced_quiet (body_name body ∷ body_words body) (name_is_word body, body_are_words body h)

abbrev pub shape_is : Node → Shape
shape_is n = record {
  x = spaced (set_words n.x);
  y = spaced (set_words n.y);
  turn = record { side = n.turn; left = n.left };
  form = form_is n.body;
  words = body_words n.body;
}

-- three fields with a body behind them, as a line
abbrev pub line_with : FinSet nat_cmp → FinSet nat_cmp → Side → ℕ → Bytes → Bytes
line_with x y turn left body = spaced (set_words x) ++ 124
    ∷ (spaced (set_words y) ++ 124 ∷ (turn_word turn left ++ 124 ∷ body))

-- it is cut at its bars
pub line_cut : (x y : FinSet nat_cmp) (turn : Side) (left : ℕ) (body : Bytes)
    → IsTurn turn left
    → AllByRecursion IsQuiet body
    → four_parts 124 (line_with x y turn left body) ≡ Some (record {
      first = spaced (set_words x);
      second = spaced (set_words y);
      third = turn_word turn left;
      fourth = body;
    })
line_cut x y turn left body told quiet =
    let last = turn_word turn left ++ 124 ∷ body in
    let others = spaced (set_words y) ++ 124 ∷ last in
    let two = just_two 124 last (turn_word turn left) body refl
    (lacks_bar (turn_word turn left)
    (word_quiet (turn_word turn left) (turn_is_word turn left told))) (lacks_bar body quiet) in
    four_three 124 (line_with x y turn left body) (spaced (set_words x)) others
    (spaced (set_words y)) last (turn_word turn left) body refl
    (lacks_bar _ (spaced_quiet (set_words x) (set_are_words x))) refl
    (lacks_bar _ (spaced_quiet (set_words y) (set_are_words y))) two

shape_back : (version : Version) (n : Node)
    → IsTurn n.turn n.left
    → IsBody n.body
    → has_body version n.body ≡ true
    → shape_of version (node_line_text n) ≡ Some (shape_is n)
unfolding shape_of
shape_back version n told h has =
    let turn = turn_back n.turn n.left told in
    let words = words_spaced (body_name n.body) (body_words n.body) (name_is_word n.body)
    (body_are_words n.body h) in
    let form = form_back version n.body has in
    let fit = body_fits n.body h in
    ap (with_fields version)
    (line_cut n.x n.y n.turn n.left (body_text n.body) told (body_quiet n.body h))
    ∙ rw (turn, words, form, fit) refl

bar_behind : (front : Bytes) (others : Bytes)
    → list_any (λ b. b == 124) (front ++ 124 ∷ others) ≡ true
bar_behind [] others = refl
bar_behind (b ∷ bs) others = rw (bar_behind bs others) (or_right (b == 124) true refl)

pub node_is_back : (n : Node) → IsNode n → node_of (shape_is n) ≡ Ok n
node_is_back n h =
    let x = field_back n.x in
    let y = field_back n.y in
    let body = body_back n.body h.body in
    let xs = from_list-points_below n.x 1024 h.x in
    let ys = from_list-points_below n.y 1024 h.y in
    let apart = apart_back n.x n.y h.apart in
    rw (x, y, body, xs, apart, ys) refl

-- a printed node line is read as the node, where the version has its body
pub node_back : (version : Version) (n : Node)
    → IsRead version n
    → node_line version (node_line_text n) ≡ Ok n
unfolding node_line
node_back version n h =
    let bar = bar_behind (spaced (set_words n.x))
    (spaced (set_words n.y) ++ 124 ∷ (turn_word n.turn n.left ++ 124 ∷ body_text n.body)) in
    let shape = shape_back version n h.0.turn h.0.body h.1 in
    rw (bar, shape) (node_is_back n h.0)

-- no line feed stands in a line of three fields and a body
pub line_lacks_feed : (x y : FinSet nat_cmp) (turn : Side) (left : ℕ) (body : Bytes)
    → IsTurn turn left
    → AllByRecursion IsQuiet body
    → Lacks 10 (line_with x y turn left body)
line_lacks_feed x y turn left body told quiet =
    let P = λ (b : ℕ). (b == 10) ≡ false in
    All-from_recursion P (line_with x y turn left body)
    (all_append P (spaced (set_words x)) _
    (quiet_text _ (spaced_quiet (set_words x) (set_are_words x))) (
      refl,
      all_append P (spaced (set_words y)) _
          (quiet_text _ (spaced_quiet (set_words y) (set_are_words y))) (
            refl,
            all_append P (turn_word turn left) _
                (quiet_text _ (word_quiet (turn_word turn left) (turn_is_word turn left told)))
                (refl, quiet_text body quiet),
          ),
    ))

pub node_lacks_feed : (n : Node) → IsNode n → Lacks 10 (node_line_text n)
node_lacks_feed n h =
    line_lacks_feed n.x n.y n.turn n.left (body_text n.body) h.turn (body_quiet n.body h.body)
