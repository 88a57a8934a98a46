-- A line that is read by its outline is read as its form and its numbers say.
use Rattle.std.proofs.Common.{◌≡◌, ◌∙◌, Bool, true, false, List, [], ◌∷◌, ◌++◌, ℕ, ◌+◌, ◌<◌}
use Rattle.std.proofs.Common.{append_assoc, Result, Ok, Err, Option, Some, None, refl, sym, ap}
use Rattle.std.proofs.Common.{subst, inl, inr, arith}
use Rattle.std.specs.Prelude.{nat_lt, ◌||◌, ◌==◌, option_map, ◌&&◌, if◌then◌else◌}
use Rattle.pg_cert_lines.proofs.Common.{list_any, AllByRecursion, Bor, FinSet, contains, insert}
use Rattle.pg_cert_lines.proofs.Common.{nat_cmp, cases_Bool, or_parts, nat_tests, append-nil}
use Rattle.pg_cert_lines.proofs.Common.{All-from_recursion, Version, Body, Node}
use Rattle.pg_cert_lines.proofs.Common.{and_then, onto, each_of, following}
use Rattle.pg_cert_lines.proofs.Common.{four_none, Bytes, Four, parts, four_parts, words_of}
use Rattle.pg_cert_lines.specs.declared.signs.TheConstants.{COLON, HYPHEN}
use Rattle.pg_cert_lines.specs.Form.{has_bar, form_of, turn_of, each_has_one, fits, Shape}
use Rattle.pg_cert_lines.specs.Form.{with_form, with_body, with_fields, shape_of}
use Rattle.pg_cert_lines.specs.NodeLine.{point_of, ascending_of, field_words, word_reply, word_pair}
use Rattle.pg_cert_lines.specs.NodeLine.{body_of, node_with, formed, node_line}
use Rattle.pg_cert_lines.specs.Numerals.{IsFirstNumber, AreTwoNumbers, SaysFirst}
use Rattle.pg_cert_lines.specs.Outline.{outline_form, outline_body, outline_fields, outline_of}
use Rattle.pg_cert_lines.specs.Outline.{formed_each, IsFirstPoint, gathered_from, read_fields}
use Rattle.pg_cert_lines.specs.Outline.{read_node}
use Rattle.pg_cert_lines.specs.declared.fault.Fault.{Fault}
use Rattle.pg_cert_lines.specs.declared.fault.Fault.TheVariants as faults
use Rattle.pg_cert_lines.specs.declared.form.Form.{Form}
use Rattle.pg_cert_lines.specs.declared.turn.Turn.{Turn}
use Rattle.pg_cert_lines.proofs.Gathering.{fields_are}
use Rattle.pg_cert_lines.proofs.OnlyNumbers.{OnlyNumber, only_body, only_points}
use Rattle.pg_cert_lines.proofs.DigitRuns.{first_parts}

-- the node of an outline that may be none
abbrev pub read_outline : Option Shape → Result Node Fault
read_outline None = Err faults.Form
read_outline (Some shape) = read_node shape

-- ---- the body before the fields

number_first : (shape : Shape) (fault : Fault) (ax ay : Result (List ℕ) Fault)
    → fault ≡ faults.Number
    → OnlyNumber ax
    → OnlyNumber ay
    → Err fault ≡ and_then ax (λ xs. and_then ay (λ ys. node_with shape xs ys (Err fault)))
number_first shape fault (Err f) ay e hx hy = ap Err (e ∙ sym hx)
number_first shape fault (Ok xs) (Err f) e hx hy = ap Err (e ∙ sym hy)
number_first shape fault (Ok xs) (Ok ys) e hx hy = refl

body_first : (shape : Shape) (body : Result Body Fault)
    → OnlyNumber body
    → and_then body (read_fields shape) ≡ and_then (ascending_of (field_words shape.x))
    (λ xs. and_then (ascending_of (field_words shape.y)) (λ ys. node_with shape xs ys body))
body_first shape (Ok body) only = fields_are shape body
body_first shape (Err fault) only = number_first shape fault (ascending_of (field_words shape.x))
    (ascending_of (field_words shape.y)) only (only_points (field_words shape.x))
    (only_points (field_words shape.y))

pub node_formed : (x y : Bytes) (turn : Turn) (form : Option Form) (ws : List Bytes)
    → read_outline (outline_form x y turn form ws) ≡ formed (with_form x y turn form ws)
node_formed x y turn None ws = refl
node_formed x y turn (Some form) ws = elim (cases_Bool (fits form ws)) [
  | inl on ↦
      let shape : Shape = record { x = x; y = y; turn = turn; form = form; words = ws } in
      rw on (body_first shape (body_of form ws) (only_body form ws))
  | inr off ↦ rw off refl
]

node_body : (version : Version) (x y : Bytes) (turn : Option Turn) (ws : List Bytes)
    → read_outline (outline_body version x y turn ws) ≡ formed (with_body version x y turn ws)
node_body version x y None [] = refl
node_body version x y None (name ∷ ws) = refl
node_body version x y (Some turn) [] = refl
node_body version x y (Some turn) (name ∷ ws) = node_formed x y turn (form_of version name) ws

node_fields : (version : Version) (fields : Option Four)
    → read_outline (outline_fields version fields) ≡ formed (with_fields version fields)
node_fields version None = refl
node_fields version (Some f) =
    node_body version f.first f.second (turn_of f.third) (parts 32 f.fourth)

pub outline_read : (version : Version) (line : Bytes)
    → read_outline (outline_of version line) ≡ formed (shape_of version line)
unfolding outline_of shape_of
outline_read version line = node_fields version (four_parts 124 line)

-- a line without a bar has no outline
all_lack : (line : Bytes)
    → list_any (λ b. b == 124) line ≡ false
    → AllByRecursion (λ b. (b == 124) ≡ false) line
all_lack [] e = tt
all_lack (b ∷ bs) e =
    let both = or_parts (b == 124) (list_any (λ b. b == 124) bs) e in
    (both.0, all_lack bs both.1)

no_outline : (version : Version) (line : Bytes)
    → has_bar line ≡ false
    → outline_of version line ≡ None
unfolding outline_of
no_outline version line none = ap (outline_fields version)
    (four_none 124 line (All-from_recursion (λ b. (b == 124) ≡ false) line (all_lack line none)))

abbrev some_or_none : Option Shape → Bool
some_or_none None = false
some_or_none (Some shape) = true

-- what a line with an outline says
pub line_read : (version : Version) (line : Bytes) (shape : Shape)
    → outline_of version line ≡ Some shape
    → node_line version line ≡ read_node shape
unfolding node_line
line_read version line shape some = elim (cases_Bool (has_bar line)) [
  | inl bar ↦ rw bar (sym (outline_read version line) ∙ ap read_outline some)
  | inr none ↦
      let e : true ≡ false =
      sym (ap some_or_none some) ∙ ap some_or_none (no_outline version line none) in
      absurd cc
]

-- and a line without one
pub line_fault : (version : Version) (line : Bytes)
    → outline_of version line ≡ None
    → node_line version line ≡ Err (if has_bar line then faults.Form else faults.Place)
unfolding node_line
line_fault version line none = elim (cases_Bool (has_bar line)) [
  | inl bar ↦ rw bar (sym (outline_read version line) ∙ ap read_outline none)
  | inr lacks ↦ rw lacks refl
]

-- the step of a node line, by its part
-- ---- words that are read one after the other

follow : {A : Type 0} (found : List A) (a : A) (others : Result (List A) Fault)
    → following found (onto (Ok a) others) ≡ following (found ++ a ∷ []) others
follow found a (Err fault) = refl
follow found a (Ok others) = ap Ok (sym (append_assoc found (a ∷ []) others))

module _ {A : Type 0} (sign : ℕ) (read : Bytes → Result A Fault) where
  -- what was found of the words, and those that are left
  pub record AreReadTo (all : List Bytes) (found : List A) (rest : List Bytes) : Type 0 where
    pub form : each_has_one sign rest ≡ each_has_one sign all
    pub so_far : following found (each_of read rest) ≡ each_of read all

  begun : (rs : Result (List A) Fault) → following [] rs ≡ rs
  begun (Ok rs) = refl
  begun (Err fault) = refl

  pub reads_begin : (all : List Bytes) → AreReadTo all [] all
  reads_begin all = record { form = refl; so_far = begun (each_of read all) }

  pub reads_on : (all : List Bytes) (found : List A) (text : Bytes) (a : A) (others : Option Bytes)
      → AreReadTo all found (parts 32 text)
      → SaysFirst sign read text a others
      → AreReadTo all (found ++ a ∷ []) (words_of others)
  reads_on all found text a others h says =
      let form : each_has_one sign (parts 32 text) ≡ each_has_one sign (words_of others) =
      ap (each_has_one sign) says.cut
      ∙ ap (λ b. b && each_has_one sign (words_of others)) says.form in
      let one : each_of read (parts 32 text) ≡ onto (Ok a) (each_of read (words_of others)) =
      ap (each_of read) says.cut
      ∙ ap (λ (r : Result A Fault). onto r (each_of read (words_of others))) says.says in
      record {
        form = sym form ∙ h.form;
        so_far = sym (ap (following found) one ∙ follow found a (each_of read (words_of others)))
            ∙ h.so_far;
      }

  pub reads_end : (all : List Bytes) (found : List A)
      → AreReadTo all found []
      → formed_each sign read all ≡ Ok found
  reads_end all found h =
      let all_formed : each_has_one sign all ≡ true = sym h.form in
      let all_read : each_of read all ≡ Ok found = sym h.so_far ∙ ap Ok (append-nil found) in
      rw all_formed all_read

pub says_pair : (text : Bytes) (a b : ℕ) (others : Option Bytes)
    → AreTwoNumbers HYPHEN text a b others
    → a < 1024
    → b < 1024
    → SaysFirst HYPHEN word_pair text (record { a = a; b = b }) others
says_pair text a b others h low high =
    let s : nat_lt a 1024 ≡ true = grind (arith, nat_tests) in
    let t : nat_lt b 1024 ≡ true = grind (arith, nat_tests) in
    let two = h.two in
    let first = h.a_number in
    let second = h.b_number in
    record {
      word = h.first ++ HYPHEN ∷ h.second;
      cut = h.cut;
      form = rw two refl;
      says = rw (two, first, second, s, t) refl;
    }

pub says_reply : (text : Bytes) (point child : ℕ) (others : Option Bytes)
    → AreTwoNumbers COLON text point child others
    → point < 1024
    → child < 100000
    → SaysFirst COLON word_reply text (record { point = point; child = child }) others
says_reply text point child others h low high =
    let s : nat_lt point 1024 ≡ true = grind (arith, nat_tests) in
    let t : nat_lt child 100000 ≡ true = grind (arith, nat_tests) in
    let two = h.two in
    let first = h.a_number in
    let second = h.b_number in
    record {
      word = h.first ++ COLON ∷ h.second;
      cut = h.cut;
      form = rw two refl;
      says = rw (two, first, second, s, t) refl;
    }

-- ---- points that are put into a set

pub point_first : (text : Bytes) (n : ℕ) (others : Option (Bor Bytes))
    → IsFirstNumber text n (option_map (λ b. b.now) others)
    → n < 1024
    → IsFirstPoint (Ok (n, others)) (parts 32 text)
point_first text n others h small =
    let t : nat_lt n 1024 ≡ true = grind (arith, nat_tests) in
    let num = h.spells in
    let is : point_of h.word ≡ Ok n = rw (num, t) refl in
    subst (IsFirstPoint (Ok (n, others)))
    (sym (first_parts text n (option_map (λ b. b.now) others) h)) (is, refl)

point_taken : (other s : FinSet nat_cmp) (least p : ℕ) (others : Option (Bor Bytes))
    (ws : List Bytes)
    → IsFirstPoint (Ok (p, others)) ws
    → (nat_lt p least || contains other p) ≡ false
    → gathered_from other s least ws
    ≡ gathered_from other (insert s p) (p + 1) (words_of (option_map (λ b. b.now) others))
point_taken other s least p others [] h off = absurd h
point_taken other s least p others (w ∷ ws) h off =
    let is = h.0 in
    rw (is, off) (ap (gathered_from other (insert s p) (p + 1)) h.1)

pub point_is_taken : (other s : FinSet nat_cmp) (least p : ℕ) (others : Option (Bor Bytes))
    (text : Bytes)
    → IsFirstPoint (Ok (p, others)) (parts 32 text)
    → (nat_lt p least || contains other p) ≡ false
    → gathered_from other s least (parts 32 text)
    ≡ gathered_from other (insert s p) (p + 1) (words_of (option_map (λ b. b.now) others))
point_is_taken other s least p others text h off =
    point_taken other s least p others (parts 32 text) h off
