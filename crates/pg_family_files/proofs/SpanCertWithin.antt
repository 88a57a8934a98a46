-- A certificate that is read is within the ranges.
use Rattle.std.proofs.Common.{◌≡◌, ℕ, ◌+◌, ◌<◌, ◌≤◌, Bool, true, false, cond, ◌⊎◌, inl, inr, List}
use Rattle.std.proofs.Common.{[], ◌∷◌, ◌++◌, length, refl, sym, ap, subst, ◌∙◌, Option, Some, None}
use Rattle.std.proofs.Common.{Result, Ok, Err, arith}
use Rattle.std.specs.Prelude.{IfOk, IfSome, nat_eq, nat_le, nat_lt, codes}
use Rattle.pg_family_files.proofs.Common.{FinSet, from_list, contains-from_list_nat, list_any, All}
use Rattle.pg_family_files.proofs.Common.{AllByRecursion, nat_cmp, bytes_eq, or_cases, false≢true}
use Rattle.pg_family_files.proofs.Common.{nat_tests, length-append, All-from_recursion, Gives}
use Rattle.pg_family_files.proofs.Common.{and_then, each_of, go_on, onto, reading, Bytes}
use Rattle.pg_family_files.proofs.Common.{ascend_from, lines, number, parts, FileError, all_append}
use Rattle.pg_family_files.proofs.Common.{has_one_slash, before_slash, after_slash, SpanBody}
use Rattle.pg_family_files.proofs.Common.{SpanCert, SpanClaim}
use Rattle.std.specs.Global.{Vec}
use Rattle.pg_text.specs.declared.error.LineError.{LineError}
use Rattle.pg_span.specs.declared.cert.SpanBody.TheVariants as bodies
use Rattle.pg_family_files.specs.SpanCertFile.{Draft, nothing, header_line, claimed, body_line}
use Rattle.pg_family_files.specs.SpanCertFile.{line_due, after, end_fault, ended, said, span_cert}
use Rattle.pg_family_files.specs.SpanCertLine.{TreeWords, ascending, body_from, body_of, cut_first}
use Rattle.pg_family_files.specs.SpanCertLine.{edges_of, first_edge, head_of, number_in, parts_of}
use Rattle.pg_family_files.specs.SpanCertLine.{small, trees_of}
use Rattle.pg_family_files.specs.SpanCertPrint.{AreSmall, IsSmallBody, IsWithinRanges}
use Rattle.pg_family_files.specs.SpanCertViews.{IsReadAs}
use Rattle.pg_family_files.specs.declared.cert_draft.Due.{Due}
use Rattle.pg_family_files.specs.declared.cert_draft.Due.TheVariants as due
use Rattle.pg_family_files.specs.declared.cert_fault.Fault.{Fault}
use Rattle.pg_family_files.specs.declared.cert_fault.Fault.TheVariants as faults
use Rattle.pg_family_files.specs.declared.cert_line.Head.{Head}
use Rattle.pg_family_files.proofs.SpanCertReading.{ends_well}

-- ---- what an answer without a fault was made of

abbrev value_or : {A F : Type 0} → A → Result A F → A
value_or a (Ok b) = b
value_or a (Err fault) = a

pub ok_is : {A F : Type 0} (a b : A) → ◌≡◌ {A = Result A F} (Ok a) (Ok b) → a ≡ b
ok_is a b e = ap (λ (r : Result _ _). value_or a r) e

then_ok : {A B F : Type 0} (r : Result A F) (f : A → Result B F) (b : B)
    → and_then r f ≡ Ok b
    → (a : A) × (r ≡ Ok a) × (f a ≡ Ok b)
then_ok (Ok a) f b e = (a, refl, e)
then_ok (Err fault) f b e = absurd cc

-- an if-chain, by the way that the test went
pub chosen : {A : Type 0} (b : Bool) (x y z : A)
    → cond b x y ≡ z
    → ((b ≡ true) × (x ≡ z)) ⊎ ((b ≡ false) × (y ≡ z))
chosen true x y z e = inl (refl, e)
chosen false x y z e = inr (refl, e)

-- ---- numbers

onto_ok : {A F : Type 0} (P : A → Type 0) (r : Result A F) (rs : Result (List A) F) (found : List A)
    → ((a : A) → r ≡ Ok a → P a)
    → ((others : List A) → rs ≡ Ok others → AllByRecursion P others)
    → onto r rs ≡ Ok found
    → AllByRecursion P found
onto_ok P (Err fault) rs found h hs e = absurd cc
onto_ok P (Ok a) (Err fault) found h hs e = absurd cc
onto_ok P (Ok a) (Ok others) found h hs e =
    subst (AllByRecursion P) (ok_is (a ∷ others) found e) (h a refl, hs others refl)

each_ok : {A F : Type 0} (read : Bytes → Result A F) (P : A → Type 0)
    → ((w : Bytes) (a : A) → read w ≡ Ok a → P a)
    → (ws : List Bytes) (found : List A) → each_of read ws ≡ Ok found
    → AllByRecursion P found
each_ok read P h [] found e = subst (AllByRecursion P) (ok_is [] found e) tt
each_ok read P h (w ∷ ws) found e =
    onto_ok P (read w) (each_of read ws) found (h w) (λ others f. each_ok read P h ws others f) e

within : (n : ℕ) → nat_le n 999 ≡ true → n ≤ 999
within n e = grind (arith, nat_tests, e)

abbrev pub done : ℕ → Result ℕ Fault
done n = Ok n

small_ok : (o : Option ℕ) (n : ℕ) → small o ≡ Ok n → n ≤ 999
small_ok None n e = absurd cc
small_ok (Some m) n e = elim (chosen (nat_le m 999) (done m) (Err faults.Number) (Ok n) e) [
  | inl h ↦ subst (λ (k : ℕ). k ≤ 999) (ok_is m n h.1) (within m h.0)
  | inr h ↦ absurd (cc h.1)
]

numbers_ok : (ws : List Bytes) (ns : List ℕ)
    → each_of number_in ws ≡ Ok ns
    → AllByRecursion (λ n. n ≤ 999) ns
numbers_ok ws ns e = each_ok number_in (λ n. n ≤ 999) (λ w n f. small_ok (number w) n f) ws ns e

-- the numbers that code reads
pub small_numbers : (r : Result (Vec ℕ) (LineError Fault)) (ws : List Bytes)
    → Gives (λ (v : Vec ℕ). v.items) r (each_of number_in ws)
    → IfOk r (λ v. All (λ n. n ≤ 999) v.items)
small_numbers (Ok v) ws h = All-from_recursion (λ n. n ≤ 999) v.items (numbers_ok ws v.items h)
small_numbers (Err e) ws h = tt

-- ---- bodies

same_number : (a b : ℕ) → nat_eq a b ≡ true → a ≡ b
same_number a b e = grind (arith, nat_tests)

in_list : (P : ℕ → Type 0) (ps : List ℕ) (v : ℕ)
    → AllByRecursion P ps
    → list_any (λ y. nat_eq y v) ps ≡ true
    → P v
in_list P [] v h e = absurd (false≢true e)
in_list P (p ∷ ps) v h e = elim (or_cases (nat_eq p v) (list_any (λ y. nat_eq y v) ps) e) [
  | inl here ↦ subst P (same_number p v here) h.0
  | inr there ↦ in_list P ps v h.1 there
]

abbrev set_from : List ℕ → FinSet nat_cmp
set_from ps = from_list ps

set_small : (ps : List ℕ) → AllByRecursion (λ n. n ≤ 999) ps → AreSmall (set_from ps)
set_small ps h = λ v on. in_list (λ n. n ≤ 999) ps v h (sym (contains-from_list_nat ps v) ∙ on)

abbrev pub set_done : FinSet nat_cmp → Result (FinSet nat_cmp) Fault
set_done s = Ok s

edges_small : (ws : List Bytes) (s : FinSet nat_cmp) → edges_of ws ≡ Ok s → AreSmall s
edges_small ws s e =
    let t = then_ok (each_of number_in ws) ascending s e in
    elim (chosen (ascend_from 0 t.0) (set_done (set_from t.0)) (Err faults.Number) (Ok s) t.2) [
      | inl h ↦ subst AreSmall (ok_is (set_from t.0) s h.1) (set_small t.0 (numbers_ok ws t.0 t.1))
      | inr h ↦ absurd (cc h.1)
    ]

abbrev pub some_done : ℕ → Result (Option ℕ) Fault
some_done v = Ok (Some v)

first_small : (word : Option Bytes) (first : Option ℕ)
    → first_edge word ≡ Ok first
    → IfSome first (λ v. v ≤ 999)
first_small None first e = subst (λ (o : Option ℕ). IfSome o (λ v. v ≤ 999)) (ok_is None first e) tt
first_small (Some word) first e =
    let t = then_ok (number_in word) (λ v. some_done v) first e in
    subst (λ (o : Option ℕ). IfSome o (λ v. v ≤ 999)) (ok_is (Some t.0) first t.2)
    (small_ok (number word) t.0 t.1)

abbrev pub body_done : SpanBody → Result SpanBody Fault
body_done b = Ok b

abbrev pub of_second : TreeWords → Option ℕ → FinSet nat_cmp → Result SpanBody Fault
of_second t first a1 =
    and_then (edges_of (after_slash t.sets)) (λ a2. body_done (bodies.Trees first a1 a2))

abbrev pub of_first : TreeWords → Option ℕ → Result SpanBody Fault
of_first t first = and_then (edges_of (before_slash t.sets)) (of_second t first)

abbrev pub of_sets : TreeWords → Result SpanBody Fault
of_sets t = and_then (first_edge t.first) (of_first t)

sets_small : (t : TreeWords) (b : SpanBody) → of_sets t ≡ Ok b → IsSmallBody b
sets_small t b e =
    let f = then_ok (first_edge t.first) (of_first t) b e in
    let g = then_ok (edges_of (before_slash t.sets)) (of_second t f.0) b f.2 in
    let h =
    then_ok (edges_of (after_slash t.sets)) (λ a2. body_done (bodies.Trees f.0 g.0 a2)) b g.2 in
    subst IsSmallBody (ok_is (bodies.Trees f.0 g.0 h.0) b h.2) (
      first_small t.first f.0 f.1,
      edges_small (before_slash t.sets) g.0 g.1,
      edges_small (after_slash t.sets) h.0 h.1,
    )

trees_small : (t : TreeWords) (b : SpanBody) → trees_of t ≡ Ok b → IsSmallBody b
trees_small t b e = elim (chosen (has_one_slash t.sets) (of_sets t) (Err faults.Form) (Ok b) e) [
  | inl h ↦ sets_small t b h.1
  | inr h ↦ absurd (cc h.1)
]

parts_small : (ws : List Bytes) (b : SpanBody) → parts_of ws ≡ Ok b → IsSmallBody b
parts_small ws b e =
    let t = then_ok (each_of number_in ws) (λ ns. body_done (bodies.Parts ns)) b e in
    subst IsSmallBody (ok_is (bodies.Parts t.0) b t.2)
    (All-from_recursion (λ n. n ≤ 999) t.0 (numbers_ok ws t.0 t.1))

words_small : (ws : List Bytes) (b : SpanBody) → body_from ws ≡ Ok b → IsSmallBody b
words_small [] b e = absurd cc
words_small (name ∷ ws) b e =
    elim (chosen (bytes_eq name (codes "trees")) (trees_of (cut_first ws)) _ (body_done b) e) [
      | inl h ↦ trees_small (cut_first ws) b h.1
      | inr h ↦ elim (chosen (bytes_eq name (codes "parts")) (parts_of ws) (Err faults.Form)
          (body_done b) h.1) [
            | inl k ↦ parts_small ws b k.1
            | inr k ↦ absurd (cc k.1)
          ]
    ]

body_small : (line : Bytes) (b : SpanBody) → body_of line ≡ Ok b → IsSmallBody b
unfolding body_of
body_small line b e = words_small (parts 32 line) b e

-- ---- the lines so far

-- a claim that has begun is one of eight
abbrev HasRoom : Due → ℕ → Type 0
HasRoom due.Header n = n ≤ 8
HasRoom due.Claim n = n ≤ 8
HasRoom (due.Body head) n = n < 8

record IsSmallDraft (d : Draft) : Type 0 where
  room : HasRoom d.due (length d.claims)
  numbers : AllByRecursion (λ (c : SpanClaim). IsSmallBody c.body) d.claims

abbrev pub draft_done : Draft → Result Draft Fault
draft_done d = Ok d

header_keeps : (cs : List SpanClaim) (line : Bytes) (next : Draft)
    → IsSmallDraft (record { due = due.Header; claims = cs })
    → header_line (record { due = due.Header; claims = cs }) line ≡ Ok next
    → IsSmallDraft next
header_keeps cs line next h e =
    elim (chosen (bytes_eq line (codes "posgame-span-cert 1")) (draft_done (record {
      due = due.Claim;
      claims = cs;
    })) (Err faults.Header) (Ok next) e) [
      | inl k ↦ subst IsSmallDraft (ok_is (record { due = due.Claim; claims = cs }) next k.1)
          (record { room = h.room; numbers = h.numbers })
      | inr k ↦ absurd (cc k.1)
    ]

fewer : (n : ℕ) → nat_le 8 n ≡ false → n < 8
fewer n e = grind (arith, nat_tests, e)

claimed_keeps : (cs : List SpanClaim) (head : Option Head) (next : Draft)
    → IsSmallDraft (record { due = due.Claim; claims = cs })
    → claimed (record { due = due.Claim; claims = cs }) head ≡ Ok next
    → IsSmallDraft next
claimed_keeps cs None next h e = absurd cc
claimed_keeps cs (Some head) next h e =
    elim (chosen (nat_le 8 (length cs)) (Err faults.Limit) (draft_done (record {
      due = due.Body head;
      claims = cs;
    })) (Ok next) e) [
      | inl k ↦ absurd (cc k.1)
      | inr k ↦ subst IsSmallDraft (ok_is (record { due = due.Body head; claims = cs }) next k.1)
          (record { room = fewer (length cs) k.0; numbers = h.numbers })
    ]

abbrev pub claim_of : Head → SpanBody → SpanClaim
claim_of head b = record { turn = head.turn; side = head.side; body = b }

body_keeps : (head : Head) (cs : List SpanClaim) (line : Bytes) (next : Draft)
    → IsSmallDraft (record { due = due.Body head; claims = cs })
    → body_line head (record { due = due.Body head; claims = cs }) line ≡ Ok next
    → IsSmallDraft next
body_keeps head cs line next h e =
    let t = then_ok (body_of line)
    (λ b. draft_done (record { due = due.Claim; claims = cs ++ claim_of head b ∷ [] })) next e in
    subst IsSmallDraft
    (ok_is (record { due = due.Claim; claims = cs ++ claim_of head t.0 ∷ [] }) next t.2) (record {
      room = omega (arith, h.room, length-append cs (claim_of head t.0 ∷ []));
      numbers = all_append (λ (c : SpanClaim). IsSmallBody c.body) cs
          (claim_of head t.0 ∷ []) h.numbers (body_small line t.0 t.1, tt);
    })

line_keeps : (d : Due) (cs : List SpanClaim) (line : Bytes) (next : Draft)
    → IsSmallDraft (record { due = d; claims = cs })
    → line_due d (record { due = d; claims = cs }) line ≡ Ok next
    → IsSmallDraft next
line_keeps due.Header cs line next h e = header_keeps cs line next h e
line_keeps due.Claim cs line next h e = claimed_keeps cs (head_of line) next h e
line_keeps (due.Body head) cs line next h e = body_keeps head cs line next h e

after_keeps : (d : Draft) (line : Bytes) (next : Draft)
    → IsSmallDraft d
    → after d line ≡ Ok next
    → IsSmallDraft next
unfolding after
after_keeps d line next h e = line_keeps d.due d.claims line next h e

-- what each line keeps, all lines keep
read_keeps : (n : ℕ) (d last : Draft) (ls : List Bytes)
    → IsSmallDraft d
    → reading after n d ls ≡ Ok last
    → IsSmallDraft last
unfolding reading
read_keeps n d last [] h e = subst IsSmallDraft (ok_is d last e) h
read_keeps n d last (line ∷ ls) h e =
    went n d last line ls h (after d line) refl e (λ next k f. read_keeps (n + 1) next last ls k f)
  where
    went : (n : ℕ) (d last : Draft) (line : Bytes) (ls : List Bytes)
        → IsSmallDraft d
        → (r : Result Draft Fault) → after d line ≡ r
        → go_on n r (λ next. reading after (n + 1) next ls) ≡ Ok last
        → ((next : Draft) → IsSmallDraft next
        → reading after (n + 1) next ls ≡ Ok last
        → IsSmallDraft last)
        → IsSmallDraft last
    went n d last line ls h (Ok next) is e others = others next (after_keeps d line next h is) e
    went n d last line ls h (Err fault) is e others = absurd cc

ended_within : (n : ℕ) (d : Due) (cs : List SpanClaim) (c : SpanCert)
    → IsSmallDraft (record { due = d; claims = cs })
    → ended n (record { due = d; claims = cs }) (end_fault (record { due = d; claims = cs })) ≡ Ok c
    → IsWithinRanges c
ended_within n due.Header cs c h e = absurd cc
ended_within n (due.Body head) cs c h e = absurd cc
ended_within n due.Claim [] c h e = absurd cc
ended_within n due.Claim (claim ∷ cs) c h e = subst IsWithinRanges (ok_is (record {
  claims = claim ∷ cs;
}) c (sym (ends_well (claim ∷ cs) n (omega arith)) ∙ e)) (record {
  some = omega arith;
  few = h.room;
  numbers = All-from_recursion (λ (c : SpanClaim). IsSmallBody c.body) (claim ∷ cs) h.numbers;
})

at_first : IsSmallDraft nothing
at_first = record { room = omega arith; numbers = tt }

said_within : (ls : List Bytes) (c : SpanCert) → said ls ≡ Ok c → IsWithinRanges c
said_within ls c e =
    let t = then_ok (reading after 1 nothing ls) (λ d. ended (length ls + 1) d (end_fault d)) c e in
    ended_within (length ls + 1) t.0.due t.0.claims c (read_keeps 1 nothing t.0 ls at_first t.1) t.2

pub read_within : (text : Bytes) (c : SpanCert) → span_cert text ≡ Ok c → IsWithinRanges c
unfolding span_cert
read_within text c e = elim (chosen (nat_lt 4194304 (length text)) (Err (
  faults.Size,
  0,
)) (said (lines text)) (Ok c) e) [
  | inl h ↦ absurd (cc h.1)
  | inr h ↦ said_within (lines text) c h.1
]

-- the same of what code answers
pub answer_within : (r : Result SpanCert FileError) (text : Bytes)
    → IsReadAs (λ (c : SpanCert). c) r (span_cert text)
    → IfOk r IsWithinRanges
answer_within (Ok c) text h = read_within text c h
answer_within (Err e) text h = tt
