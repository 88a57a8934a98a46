-- A line of pairs says the same, cut short, without pairs that stand behind two with a point in
-- common.
use Rattle.std.proofs.Common.{◌≡◌, ◌∙◌, ◌⊎◌, ℕ, ◌-◌, Bool, true, false, List, [], ◌∷◌, ◌++◌, length}
use Rattle.std.proofs.Common.{take, append_assoc, Result, Ok, Err, Option, Some, None, refl, sym}
use Rattle.std.proofs.Common.{ap, subst, inl, inr, eqb-true, arith, ◌≤◌}
use Rattle.std.specs.Prelude.{◌&&◌, ◌==◌, if◌then◌else◌, codes}
use Rattle.pg_cert_files.proofs.Common.{from_list, list_any, AllByRecursion, cases_Bool, or_right}
use Rattle.pg_cert_files.proofs.Common.{length-append, All-from_recursion, recursion_from_All}
use Rattle.pg_cert_files.proofs.Common.{list_all-append, list_any-append, Pair, is_touched, Version}
use Rattle.pg_cert_files.proofs.Common.{One, Two, and_then, each_of, following, Bytes, Lacks}
use Rattle.pg_cert_files.proofs.Common.{parts, four_parts, first_and_others, just_two, too_many}
use Rattle.pg_cert_files.proofs.Common.{four_two, four_three, all_append, has_bar, turn_of}
use Rattle.pg_cert_files.proofs.Common.{each_has_one, Shape, with_form, with_body, shape_of}
use Rattle.pg_cert_files.proofs.Common.{ascending_of, field_words, word_pair, node_with}
use Rattle.pg_cert_files.proofs.Common.{formed, node_line, Fault, MAX_MEMBERS, take-append-le}
use Rattle.pg_cert.specs.declared.node.Body.TheVariants as bodies
use Rattle.pg_cert.specs.declared.node.Node.{Node}
use Rattle.pg_cert.specs.declared.part.Part.TheVariants as part
use Rattle.pg_cert_files.specs.CertFile.{behind, node_step}
use Rattle.pg_cert_files.specs.Shortened.{clash, twice, short_pairs, short_node}
use Rattle.pg_cert_files.specs.Shortening.{EndsInPairs, IsFront, IsSpare, short_step}
use Rattle.pg_cert_files.specs.Shortening.{EndsInExcess}
use Rattle.pg_cert_lines.specs.declared.fault.Fault.TheVariants as faults
use Rattle.pg_cert_lines.specs.declared.form.Form.TheVariants as forms
use Rattle.pg_cert_files.specs.declared.progress.Progress.{Progress}
use Rattle.pg_cert_lines.specs.declared.turn.Turn.{Turn}
use Rattle.pg_cert_files.proofs.PairWords.{clash_more, each_append}
use Rattle.pg_cert_files.proofs.Stands.{front_is}

-- ---- the node of a line of pairs

-- a result whose node is cut short
abbrev short_read : Result Node Fault → Result Node Fault
short_read (Ok node) = Ok (short_node node)
short_read (Err fault) = Err fault

-- the same fault, or pairs that are the same when they are cut short
abbrev SameRead : Result (List Pair) Fault → Result (List Pair) Fault → Type 0
SameRead (Ok ps) (Ok qs) = short_pairs ps ≡ short_pairs qs
SameRead (Err e) (Err f) = e ≡ f
SameRead (Ok ps) (Err f) = ⊥
SameRead (Err e) (Ok qs) = ⊥

abbrev shape_with : Bytes → Bytes → Turn → List Bytes → Shape
shape_with x y turn ws = record { x = x; y = y; turn = turn; form = forms.Pairs; words = ws }

-- the node of these points, where the pairs could be read
abbrev node_at : Turn → List ℕ → List ℕ → Result (List Pair) Fault → Result Node Fault
node_at turn x y (Err fault) = Err fault
node_at turn x y (Ok ps) = if is_touched (from_list x) y
    then Err faults.Number
    else Ok (record {
      x = from_list x;
      y = from_list y;
      turn = turn.side;
      left = turn.left;
      body = bodies.Pairs ps;
    })

both_same : (ax ay : Result (List ℕ) Fault) (f g : List ℕ → List ℕ → Result Node Fault)
    → ((xs ys : List ℕ) → f xs ys ≡ g xs ys)
    → and_then ax (λ xs. and_then ay (λ ys. f xs ys))
    ≡ and_then ax (λ xs. and_then ay (λ ys. g xs ys))
both_same (Err e) ay f g h = refl
both_same (Ok xs) (Err e) f g h = refl
both_same (Ok xs) (Ok ys) f g h = h xs ys

both_short : (ax ay : Result (List ℕ) Fault) (f g : List ℕ → List ℕ → Result Node Fault)
    → ((xs ys : List ℕ) → short_read (f xs ys) ≡ short_read (g xs ys))
    → short_read (and_then ax (λ xs. and_then ay (λ ys. f xs ys)))
    ≡ short_read (and_then ax (λ xs. and_then ay (λ ys. g xs ys)))
both_short (Err e) ay f g h = refl
both_short (Ok xs) (Err e) f g h = refl
both_short (Ok xs) (Ok ys) f g h = h xs ys

same_at : (x y : Bytes) (turn : Turn) (ws : List Bytes) (xs ys : List ℕ)
    (read : Result (List Pair) Fault)
    → node_with (shape_with x y turn ws) xs ys (and_then read (λ ps. Ok (bodies.Pairs ps)))
    ≡ node_at turn xs ys read
same_at x y turn ws xs ys (Ok ps) = refl
same_at x y turn ws xs ys (Err fault) = refl

abbrev node_of_pairs : Bytes → Bytes → Turn → Result (List Pair) Fault → Result Node Fault
node_of_pairs x y turn read = and_then (ascending_of (field_words x))
    (λ xs. and_then (ascending_of (field_words y)) (λ ys. node_at turn xs ys read))

line_formed : (x y : Bytes) (turn : Turn) (ws : List Bytes)
    → formed (with_form x y turn (Some forms.Pairs) ws) ≡ (if each_has_one 45 ws
    then node_of_pairs x y turn (each_of word_pair ws) else Err faults.Form)
line_formed x y turn ws = elim (cases_Bool (each_has_one 45 ws)) [
  | inl on ↦ rw on
      (both_same (ascending_of (field_words x)) (ascending_of (field_words y))
      (λ xs ys. node_with (shape_with x y turn ws) xs ys
      (and_then (each_of word_pair ws) (λ ps. Ok (bodies.Pairs ps))))
      (λ xs ys. node_at turn xs ys (each_of word_pair ws))
      (λ xs ys. same_at x y turn ws xs ys (each_of word_pair ws)))
  | inr off ↦ rw off refl
]

short_made : (turn : Turn) (xs ys : List ℕ) (ps qs : List Pair) (t : Bool)
    → short_pairs ps ≡ short_pairs qs
    → short_read (if t
    then Err faults.Number
    else Ok (record {
      x = from_list xs;
      y = from_list ys;
      turn = turn.side;
      left = turn.left;
      body = bodies.Pairs ps;
    })) ≡ short_read (if t
    then Err faults.Number
    else Ok (record {
      x = from_list xs;
      y = from_list ys;
      turn = turn.side;
      left = turn.left;
      body = bodies.Pairs qs;
    }))
short_made turn xs ys ps qs true same = refl
short_made turn xs ys ps qs false same = ap (λ (l : List Pair). Ok (record {
  x = from_list xs;
  y = from_list ys;
  turn = turn.side;
  left = turn.left;
  body = bodies.Pairs l;
})) same

short_at : (turn : Turn) (xs ys : List ℕ) (r s : Result (List Pair) Fault)
    → SameRead r s
    → short_read (node_at turn xs ys r) ≡ short_read (node_at turn xs ys s)
short_at turn xs ys (Ok ps) (Ok qs) same =
    short_made turn xs ys ps qs (is_touched (from_list xs) ys) same
short_at turn xs ys (Err e) (Err f) same = ap Err same
short_at turn xs ys (Ok ps) (Err f) same = absurd same
short_at turn xs ys (Err e) (Ok qs) same = absurd same

if_same : (t : Bool) (a b : Result Node Fault)
    → short_read a ≡ short_read b
    → short_read (if t then a else Err faults.Form) ≡ short_read (if t then b else Err faults.Form)
if_same true a b same = same
if_same false a b same = refl

same_pairs : (x y : Bytes) (turn : Turn) (ws us : List Bytes)
    → each_has_one 45 ws ≡ each_has_one 45 us
    → SameRead (each_of word_pair ws) (each_of word_pair us)
    → short_read (formed (with_form x y turn (Some forms.Pairs) ws))
    ≡ short_read (formed (with_form x y turn (Some forms.Pairs) us))
same_pairs x y turn ws us form read = ap short_read (line_formed x y turn ws)
    ∙ if_same (each_has_one 45 ws) _ _
    (both_short (ascending_of (field_words x)) (ascending_of (field_words y)) (λ xs ys.
    node_at turn xs ys (each_of word_pair ws)) (λ xs ys. node_at turn xs ys (each_of word_pair us))
    (λ xs ys. short_at turn xs ys (each_of word_pair ws) (each_of word_pair us) read))
    ∙ ap (λ (t : Bool).
    short_read (if t then node_of_pairs x y turn (each_of word_pair us) else Err faults.Form)) form
    ∙ sym (ap short_read (line_formed x y turn us))

body_line : (version : Version) (x y : Bytes) (turn : Option Turn) (ws us : List Bytes)
    → each_has_one 45 ws ≡ each_has_one 45 us
    → SameRead (each_of word_pair ws) (each_of word_pair us)
    → short_read (formed (with_body version x y turn (codes "pairs" ∷ ws)))
    ≡ short_read (formed (with_body version x y turn (codes "pairs" ∷ us)))
body_line version x y None ws us form read = refl
body_line One x y (Some turn) ws us form read = same_pairs x y turn ws us form read
body_line Two x y (Some turn) ws us form read = same_pairs x y turn ws us form read

-- ---- the words of the two lines

short_clash : (ps : List Pair) → clash ps ≡ true → short_pairs ps ≡ twice ++ take MAX_MEMBERS ps
short_clash ps e = rw e refl

short_many : (ps more : List Pair)
    → clash ps ≡ true
    → MAX_MEMBERS ≤ length ps
    → short_pairs (ps ++ more) ≡ twice ++ take MAX_MEMBERS ps
short_many ps more e many = short_clash (ps ++ more) (clash_more ps more e)
    ∙ ap (λ (l : List Pair). twice ++ l) (take-append-le MAX_MEMBERS ps more many)

same_following : (ps qs : List Pair) (r : Result (List Pair) Fault)
    → clash ps ≡ true
    → MAX_MEMBERS ≤ length ps
    → SameRead (following ps (following qs r)) (following ps r)
same_following ps qs (Ok rs) e many =
    short_many ps (qs ++ rs) e many ∙ sym (short_many ps rs e many)
same_following ps qs (Err fault) e many = refl

module _ (ps qs : List Pair) (front more tail : List Bytes) (clashes : clash ps ≡ true)
    (many : MAX_MEMBERS ≤ length ps)
    (form_front : each_has_one 45 front ≡ true) (form_more : each_has_one 45 more ≡ true)
    (says_front : each_of word_pair front ≡ Ok ps)
    (says_more : each_of word_pair more ≡ Ok qs) where
  same_form : each_has_one 45 (front ++ (more ++ tail)) ≡ each_has_one 45 (front ++ tail)
  same_form =
      let one : each_has_one 45 (front ++ (more ++ tail)) ≡ each_has_one 45 tail =
      list_all-append _ front (more ++ tail)
      ∙ ap (λ (b : Bool). b && each_has_one 45 (more ++ tail)) form_front
      ∙ list_all-append _ more tail
      ∙ ap (λ (b : Bool). b && each_has_one 45 tail) form_more in
      let two : each_has_one 45 (front ++ tail) ≡ each_has_one 45 tail =
      list_all-append _ front tail ∙ ap (λ (b : Bool). b && each_has_one 45 tail) form_front in
      one ∙ sym two

  same_words : SameRead (each_of word_pair (front ++ (more ++ tail)))
      (each_of word_pair (front ++ tail))
  same_words =
      let one : each_of word_pair (front ++ (more ++ tail))
      ≡ following ps (following qs (each_of word_pair tail)) =
      each_append word_pair front (more ++ tail) ps says_front
      ∙ ap (following ps) (each_append word_pair more tail qs says_more) in
      let two : each_of word_pair (front ++ tail) ≡ following ps (each_of word_pair tail) =
      each_append word_pair front tail ps says_front in
      subst (λ (r : Result (List Pair) Fault). SameRead r (each_of word_pair (front ++ tail)))
      (sym one) (subst (λ (s : Result (List Pair) Fault).
      SameRead (following ps (following qs (each_of word_pair tail))) s) (sym two)
      (same_following ps qs (each_of word_pair tail) clashes many))

-- ---- bars

abbrev NoBar : Bytes → Type 0
NoBar t = AllByRecursion (λ b. (b == 124) ≡ false) t

record HasBar (t : Bytes) : Type 0 where
  front : Bytes
  behind_it : Bytes
  cut : t ≡ front ++ 124 ∷ behind_it
  lacks : NoBar front

first_bar : (t : Bytes) → NoBar t ⊎ HasBar t
first_bar [] = inl tt
first_bar (b ∷ bs) = elim (cases_Bool (b == 124)) [
  | inl on ↦ inr (record {
    front = [];
    behind_it = bs;
    cut = ap (λ (c : ℕ). c ∷ bs) (eqb-true b 124 on);
    lacks = tt;
  })
  | inr off ↦ elim (first_bar bs) [
    | inl none ↦ inl (off, none)
    | inr h ↦ inr (record {
      front = b ∷ h.front;
      behind_it = h.behind_it;
      cut = ap (λ (l : Bytes). b ∷ l) h.cut;
      lacks = (off, h.lacks);
    })
  ]
]

all_apart : (a b : Bytes) → NoBar (a ++ b) → NoBar a × NoBar b
all_apart [] b h = (tt, h)
all_apart (x ∷ a) b h = let both = all_apart a b h.1 in ((h.0, both.0), both.1)

lacks_bar : (t : Bytes) → NoBar t → Lacks 124 t
lacks_bar t h = All-from_recursion (λ b. (b == 124) ≡ false) t h

-- ---- the whole line

-- a line of pairs with these words
abbrev pub line_with : Bytes → Bytes → Bytes → Bytes → Bytes
line_with x y t w = x ++ 124 ∷ (y ++ 124 ∷ (t ++ 124 ∷ (codes "pairs" ++ 32 ∷ w)))

barred : (x r : Bytes) → has_bar (x ++ 124 ∷ r) ≡ true
barred x r = list_any-append (λ b. b == 124) x (124 ∷ r)
    ∙ or_right (list_any (λ b. b == 124) x) (list_any (λ b. b == 124) (124 ∷ r)) refl

name_quiet : NoBar (codes "pairs")
name_quiet = (refl, (refl, (refl, (refl, (refl, tt)))))

name_word : Lacks 32 (codes "pairs")
name_word = All-from_recursion (λ b. (b == 32) ≡ false) (codes "pairs")
    (refl, (refl, (refl, (refl, (refl, tt)))))

read_as : (version : Version) (line x y t z : Bytes)
    → has_bar line ≡ true
    → four_parts 124 line ≡ Some (record { first = x; second = y; third = t; fourth = z })
    → node_line version line ≡ formed (with_body version x y (turn_of t) (parts 32 z))
unfolding node_line shape_of
read_as version line x y t z bar four = rw (bar, four) refl

read_none : (version : Version) (line : Bytes)
    → has_bar line ≡ true
    → four_parts 124 line ≡ None
    → node_line version line ≡ Err faults.Form
unfolding node_line shape_of
read_none version line bar four = rw (bar, four) refl

module _ (x y t : Bytes) (no_x : Lacks 124 x) (no_y : Lacks 124 y) (no_t : Lacks 124 t) where
  quiet_line : (version : Version) (w : Bytes)
      → NoBar w
      → node_line version (line_with x y t w)
      ≡ formed (with_body version x y (turn_of t) (codes "pairs" ∷ parts 32 w))
  quiet_line version w none =
      let z = codes "pairs" ++ 32 ∷ w in
      let lacks : Lacks 124 z = lacks_bar z
      (all_append (λ b. (b == 124) ≡ false) (codes "pairs") (32 ∷ w) name_quiet (refl, none)) in
      let four = four_three 124 (line_with x y t w) x (y ++ 124 ∷ (t ++ 124 ∷ z)) y
      (t ++ 124 ∷ z) t z refl no_x refl no_y (just_two 124 (t ++ 124 ∷ z) t z refl no_t lacks) in
      read_as version (line_with x y t w) x y t z (barred x (y ++ 124 ∷ (t ++ 124 ∷ z))) four
      ∙ ap (λ (ws : List Bytes). formed (with_body version x y (turn_of t) ws))
      (first_and_others z (codes "pairs") w refl name_word)

  barred_line : (version : Version) (w c d : Bytes)
      → w ≡ c ++ 124 ∷ d
      → NoBar c
      → node_line version (line_with x y t w) ≡ Err faults.Form
  barred_line version w c d e none =
      let z = codes "pairs" ++ 32 ∷ w in
      let cut : z ≡ (codes "pairs" ++ 32 ∷ c) ++ 124 ∷ d =
      ap (λ (r : Bytes). codes "pairs" ++ 32 ∷ r) e
      ∙ sym (append_assoc (codes "pairs") (32 ∷ c) (124 ∷ d)) in
      let lacks : Lacks 124 (codes "pairs" ++ 32 ∷ c) = lacks_bar (codes "pairs" ++ 32 ∷ c)
      (all_append (λ b. (b == 124) ≡ false) (codes "pairs") (32 ∷ c) name_quiet (refl, none)) in
      let four =
      four_two 124 (line_with x y t w) x (y ++ 124 ∷ (t ++ 124 ∷ z)) y (t ++ 124 ∷ z) refl no_x refl
      no_y (too_many 124 (t ++ 124 ∷ z) t z (codes "pairs" ++ 32 ∷ c) d refl no_t cut lacks) in
      read_none version (line_with x y t w) (barred x (y ++ 124 ∷ (t ++ 124 ∷ z))) four

pub seam : (a b c d : Bytes) → a ++ (b ++ (c ++ d)) ≡ (a ++ (b ++ c)) ++ d
seam a b c d =
    ap (λ (r : Bytes). a ++ r) (sym (append_assoc b c d)) ∙ sym (append_assoc a (b ++ c) d)

step_same : (others : ℕ) (p : Progress) (r s : Result Node Fault)
    → short_read r ≡ short_read s
    → short_step (and_then r (λ node. Ok (record p { due = behind others }, Some (part.Node node))))
    ≡ short_step (and_then s (λ node. Ok (record p { due = behind others }, Some (part.Node node))))
step_same others p (Ok n) (Ok m) h =
    let same : short_node n ≡ short_node m = cc in
    ap (λ (k : Node). Ok (record p { due = behind others }, Some (part.Node k))) same
step_same others p (Err e) (Err f) h = let same : e ≡ f = cc in ap Err same
step_same others p (Ok n) (Err f) h = absurd cc
step_same others p (Err e) (Ok m) h = absurd cc

-- the line with the words that may be left out, and without them, whatever the rest is
module _ (x y t f g : Bytes) (no_x : Lacks 124 x) (no_y : Lacks 124 y) (no_t : Lacks 124 t)
    (no_f : NoBar f) (no_g : NoBar g) (ps qs : List Pair) (fw gw : List Bytes)
    (clashes : clash ps ≡ true) (many : MAX_MEMBERS ≤ length ps)
    (seam_f : (tail : Bytes) → parts 32 (f ++ tail) ≡ fw ++ parts 32 tail)
    (seam_g : (tail : Bytes) → parts 32 (g ++ tail) ≡ gw ++ parts 32 tail)
    (form_f : each_has_one 45 fw ≡ true) (form_g : each_has_one 45 gw ≡ true)
    (says_f : each_of word_pair fw ≡ Ok ps) (says_g : each_of word_pair gw ≡ Ok qs) where
  same_line : (version : Version) (tail : Bytes)
      → short_read (node_line version (line_with x y t (f ++ (g ++ tail))))
      ≡ short_read (node_line version (line_with x y t (f ++ tail)))
  same_line version tail = elim (first_bar tail) [
    | inl none ↦
        let long = quiet_line x y t no_x no_y no_t version (f ++ (g ++ tail))
        (all_append (λ b. (b == 124) ≡ false) f (g ++ tail) no_f
        (all_append (λ b. (b == 124) ≡ false) g tail no_g none)) in
        let short = quiet_line x y t no_x no_y no_t version (f ++ tail)
        (all_append (λ b. (b == 124) ≡ false) f tail no_f none) in
        let long_words : parts 32 (f ++ (g ++ tail)) ≡ fw ++ (gw ++ parts 32 tail) =
        seam_f (g ++ tail) ∙ ap (λ (l : List Bytes). fw ++ l) (seam_g tail) in
        let read =
        body_line version x y (turn_of t) (fw ++ (gw ++ parts 32 tail)) (fw ++ parts 32 tail)
        (same_form ps qs fw gw (parts 32 tail) clashes many form_f form_g says_f says_g)
        (same_words ps qs fw gw (parts 32 tail) clashes many form_f form_g says_f says_g) in
        ap short_read
        (long
        ∙ ap (λ (ws : List Bytes). formed (with_body version x y (turn_of t) (codes "pairs" ∷ ws)))
        long_words)
        ∙ read
        ∙ sym (ap short_read (short
        ∙ ap (λ (ws : List Bytes). formed (with_body version x y (turn_of t) (codes "pairs" ∷ ws)))
        (seam_f tail)))
    | inr h ↦
        let long_cut : f ++ (g ++ tail) ≡ (f ++ (g ++ h.front)) ++ 124 ∷ h.behind_it =
        ap (λ (r : Bytes). f ++ (g ++ r)) h.cut ∙ seam f g h.front (124 ∷ h.behind_it) in
        let short_cut : f ++ tail ≡ (f ++ h.front) ++ 124 ∷ h.behind_it =
        ap (λ (r : Bytes). f ++ r) h.cut ∙ sym (append_assoc f h.front (124 ∷ h.behind_it)) in
        let long = barred_line x y t no_x no_y no_t version (f ++ (g ++ tail))
        (f ++ (g ++ h.front)) h.behind_it long_cut
        (all_append (λ b. (b == 124) ≡ false) f (g ++ h.front) no_f
        (all_append (λ b. (b == 124) ≡ false) g h.front no_g h.lacks)) in
        let short = barred_line x y t no_x no_y no_t version (f ++ tail) (f ++ h.front) h.behind_it
        short_cut (all_append (λ b. (b == 124) ≡ false) f h.front no_f h.lacks) in
        ap short_read (long ∙ sym short)
  ]

  pub same_step : (others : ℕ) (p : Progress) (tail : Bytes)
      → short_step (node_step others p (line_with x y t (f ++ (g ++ tail))))
      ≡ short_step (node_step others p (line_with x y t (f ++ tail)))
  same_step others p tail =
      step_same others p (node_line p.version (line_with x y t (f ++ (g ++ tail))))
      (node_line p.version (line_with x y t (f ++ tail))) (same_line p.version tail)

line_append : (x y t a b : Bytes) → line_with x y t (a ++ b) ≡ line_with x y t a ++ b
line_append x y t a b =
    let one : codes "pairs" ++ 32 ∷ (a ++ b) ≡ (codes "pairs" ++ 32 ∷ a) ++ b =
    sym (append_assoc (codes "pairs") (32 ∷ a) b) in
    let two : t ++ 124 ∷ (codes "pairs" ++ 32 ∷ (a ++ b))
    ≡ (t ++ 124 ∷ (codes "pairs" ++ 32 ∷ a)) ++ b = ap (λ (r : Bytes). t ++ 124 ∷ r) one
    ∙ sym (append_assoc t (124 ∷ (codes "pairs" ++ 32 ∷ a)) b) in
    let three : y ++ 124 ∷ (t ++ 124 ∷ (codes "pairs" ++ 32 ∷ (a ++ b)))
    ≡ (y ++ 124 ∷ (t ++ 124 ∷ (codes "pairs" ++ 32 ∷ a))) ++ b =
    ap (λ (r : Bytes). y ++ 124 ∷ r) two
    ∙ sym (append_assoc y (124 ∷ (t ++ 124 ∷ (codes "pairs" ++ 32 ∷ a))) b) in
    ap (λ (r : Bytes). x ++ 124 ∷ r) three
    ∙ sym (append_assoc x (124 ∷ (y ++ 124 ∷ (t ++ 124 ∷ (codes "pairs" ++ 32 ∷ a)))) b)

-- what the code found
pub spare_is : (line words others rest : Bytes)
    → IsFront line words
    → Lacks 124 words
    → EndsInExcess words others
    → EndsInPairs others rest
    → IsSpare line (take (length line - length others) line) rest
spare_is line words others rest h lacks first second =
    let f = first.are.front in
    let g = second.are.front in
    let quiet : NoBar (f ++ (g ++ rest)) =
    subst NoBar (first.are.cut ∙ ap (λ (r : Bytes). f ++ r) second.are.cut)
    (recursion_from_All (λ b. (b == 124) ≡ false) words lacks) in
    let apart = all_apart f (g ++ rest) quiet in
    let behind_f = all_apart g rest apart.1 in
    let kept = line_with h.x h.y h.turn f in
    let whole : line ≡ kept ++ others =
    h.cut ∙ ap (line_with h.x h.y h.turn) first.are.cut ∙ line_append h.x h.y h.turn f others in
    let is : kept ≡ take (length line - length others) line = front_is kept line others whole in
    subst (λ (k : Bytes). IsSpare line k rest) is (record {
      dropped = g;
      cut = whole ∙ ap (λ (r : Bytes). kept ++ r) second.are.cut;
      words = f;
      front = record {
        x = h.x;
        y = h.y;
        turn = h.turn;
        cut = refl;
        no_x = h.no_x;
        no_y = h.no_y;
        no_turn = h.no_turn;
      };
      some = omega (
        arith,
        length-append h.x (124 ∷ (h.y ++ 124 ∷ (h.turn ++ 124 ∷ (codes "pairs" ++ 32 ∷ f)))),
      );
      same = λ before p more.
          let long : line ++ more ≡ line_with h.x h.y h.turn (f ++ (g ++ (rest ++ more))) =
          ap (λ (l : Bytes). l ++ more) (h.cut
          ∙ ap (line_with h.x h.y h.turn)
          (first.are.cut ∙ ap (λ (r : Bytes). f ++ r) second.are.cut))
          ∙ sym (line_append h.x h.y h.turn (f ++ (g ++ rest)) more)
          ∙ ap (line_with h.x h.y h.turn) (sym (seam f g rest more)) in
          let short : (kept ++ rest) ++ more ≡ line_with h.x h.y h.turn (f ++ (rest ++ more)) =
          append_assoc kept rest more ∙ sym (line_append h.x h.y h.turn f (rest ++ more)) in
          ap (λ (l : Bytes). short_step (node_step before p l)) long
          ∙ same_step h.x h.y h.turn f g h.no_x h.no_y h.no_turn apart.0 behind_f.0 first.pairs
          second.pairs first.are.words second.are.words first.clashes first.many first.are.seam
          second.are.seam first.are.form second.are.form first.are.says second.are.says before p
          (rest ++ more)
          ∙ sym (ap (λ (l : Bytes). short_step (node_step before p l)) short);
    })
