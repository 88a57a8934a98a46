-- The fault that is told is the first.
use Rattle.std.proofs.Common.{◌≡◌, ℕ, ◌+◌, inl, inr, [], ◌∷◌, length, refl, sym, ap, ◌∙◌, Option}
use Rattle.std.proofs.Common.{Some, None, Result, Ok, Err, arith}
use Rattle.std.specs.Prelude.{nat_lt, not, is_none, is_err}
use Rattle.pg_image.proofs.Common.{bytes_eq, cases_Bool, ltb-true, and_then, least, reading, Bytes}
use Rattle.pg_image.proofs.Common.{lines, first_fault, is_least, Two, Body}
use Rattle.pg_cert.specs.declared.node.Body.TheVariants as bodies
use Rattle.pg_image.proofs.Common.{Node, behind, step, end_fault, Shape, node_of, formed, Fault}
use Rattle.pg_cert_files.specs.FirstFault.{line_faults as version_2_faults}
use Rattle.pg_cert_lines.specs.declared.fault.Fault.TheVariants as faults
use Rattle.pg_cert_files.specs.declared.progress.Due.{Due}
use Rattle.pg_cert_files.specs.declared.progress.Due.TheVariants as due
use Rattle.pg_image.proofs.Common.{Next, chosen, done}
use Rattle.pg_cert_lines.proofs.OnlyNumbers.{OnlyNumber, only_node, only_then}
use Rattle.pg_cert_files.proofs.LeastFaults.{node_first, same, step_first, then_err}
use Rattle.pg_image.specs.Print.{image_header}
use Rattle.pg_image.specs.declared.node.ImageNode.{ImageNode}
use Rattle.pg_image.specs.FirstFault.{node_faults, line_faults, IsFirstFault}
use Rattle.pg_image.specs.ImageFile.{Draft, nothing, with_node, with_part, plain_line, node_added}
use Rattle.pg_image.specs.ImageFile.{line_due, after, ended, said, image_certificate}
use Rattle.pg_image.specs.ImageLine.{ImageLine, image_line, move_shape, image_by, image_said}

-- ---- the least of a line

only_image : (n : Node) (body : Body) → OnlyNumber (image_by n body)
only_image n (bodies.Move m j) = elim (cases_Bool (nat_lt m 8)) [
  | inl on ↦ rw on tt
  | inr off ↦ rw off refl
]
only_image n bodies.Over = refl
only_image n (bodies.All rs) = refl
only_image n (bodies.Pairs ps) = refl
only_image n bodies.Potential = refl
only_image n (bodies.Trees e a b) = refl
only_image n (bodies.Cuts e a b) = refl
only_image n (bodies.Threat ps) = refl
only_image n (bodies.Weaker j) = refl

abbrev image_from : Node → Result ImageNode Fault
image_from n = image_by n n.body

image_first : (shape : Option Shape) (fault : Fault)
    → and_then (formed shape) image_from ≡ Err fault
    → least ((faults.Form, is_none shape) ∷ (
      faults.Number,
      is_err (and_then (formed shape) image_from),
    ) ∷ []) ≡ Some fault
image_first None fault e = same faults.Form fault e
image_first (Some shape) fault e = node_first (and_then (node_of shape) image_from) fault
    (only_then (node_of shape) image_from (only_node shape) (λ n. only_image n n.body)) e

plain_first : (d : Draft) (line : Bytes) (fault : Fault)
    → plain_line d line ≡ Err fault
    → least (version_2_faults d.progress.due d.progress line) ≡ Some fault
plain_first d line fault e = step_first d.progress line fault
    (then_err (step d.progress line) (λ (n : Next). done (with_part d n.0 n.1)) fault (λ n. refl) e)

node_line_first : (others : ℕ) (d : Draft) (line : Bytes) (image : Option ImageLine) (fault : Fault)
    → d.progress.due ≡ due.Node others
    → node_added others d line image ≡ Err fault
    → least (node_faults others d.progress line image) ≡ Some fault
node_line_first others d line None fault is e =
    ap (λ (x : Due). least (version_2_faults x d.progress line)) (sym is)
    ∙ plain_first d line fault e
node_line_first others d line (Some l) fault is e = image_first (move_shape l) fault
    (then_err (image_said l) (λ (n : ImageNode). done (with_node d (record d.progress {
      due = behind others;
    }) n)) fault (λ n. refl) e)

header_first : (d : Draft) (line : Bytes) (fault : Fault)
    → line_due due.Header d line ≡ Err fault
    → least ((faults.Header, not (bytes_eq line image_header)) ∷ []) ≡ Some fault
header_first d line fault e =
    let made : Draft =
    record d { progress = record d.progress { due = due.Claim; version = Two } } in
    elim (chosen (bytes_eq line image_header) (done made) (Err faults.Header) (Err fault) e) [
      | inl h ↦ absurd (cc h.1)
      | inr h ↦ rw h.0 (same faults.Header fault h.1)
    ]

due_first : (x : Due) (d : Draft) (line : Bytes) (fault : Fault)
    → d.progress.due ≡ x
    → line_due x d line ≡ Err fault
    → least (line_faults x d.progress line) ≡ Some fault
due_first due.Header d line fault is e = header_first d line fault e
due_first due.Claim d line fault is e =
    ap (λ (x : Due). least (version_2_faults x d.progress line)) (sym is)
    ∙ plain_first d line fault e
due_first (due.Count head) d line fault is e =
    ap (λ (x : Due). least (version_2_faults x d.progress line)) (sym is)
    ∙ plain_first d line fault e
due_first (due.Node others) d line fault is e =
    node_line_first others d line (image_line line) fault is e

after_first : (d : Draft) (line : Bytes) (fault : Fault)
    → after d line ≡ Err fault
    → least (line_faults d.progress.due d.progress line) ≡ Some fault
unfolding after
after_first d line fault e = due_first d.progress.due d line fault refl e

-- ---- the file

abbrev Bad : Type 0
Bad = Fault × ℕ

abbrev bad_or : {A : Type 0} → Bad → Result A Bad → Bad
bad_or b (Ok a) = b
bad_or b (Err c) = c

bad_is : {A : Type 0} (b c : Bad) → ◌≡◌ {A = Result A Bad} (Err b) (Err c) → b ≡ c
bad_is b c e = ap (λ (r : Result _ Bad). bad_or b r) e

ended_first : (n : ℕ) (d : Draft) (o : Option Fault) (fault : Fault) (m : ℕ)
    → ended n d o ≡ Err (fault, m)
    → (o ≡ Some fault) × (m ≡ n)
ended_first n d None fault m e = absurd cc
ended_first n d (Some found) fault m e =
    let p = bad_is (found, n) (fault, m) e in
    (ap (λ (x : Bad). Some x.0) p, sym (ap (λ (x : Bad). x.1) p))

said_by : (text : Bytes) (r : Result Draft Bad) (fault : Fault) (m : ℕ)
    → reading after 1 nothing (lines text) ≡ r
    → and_then r (λ d. ended (length (lines text) + 1) d (end_fault d.progress d.progress.due))
    ≡ Err (fault, m)
    → IsFirstFault text fault m
said_by text (Ok d) fault m is e =
    let last =
    ended_first (length (lines text) + 1) d (end_fault d.progress d.progress.due) fault m e in
    inr (inr (record { draft = d; sound = is; lacks = last.0; place = last.1 }))
said_by text (Err bad) fault m is e =
    let same_bad : bad ≡ (fault, m) = bad_is bad (fault, m) e in
    let t =
    first_fault after nothing 1 (lines text) fault m (is ∙ ap (λ (b : Bad). Err b) same_bad) in
    let f = t.2 in
    inr (inl (record {
      before = f.before;
      line = f.line;
      behind = f.behind;
      draft = f.state;
      cut = f.cut;
      sound = f.sound 1;
      is_least = is_least _ fault (after_first f.state f.line fault f.here);
      place = omega (arith, t.1, f.number);
    }))

-- a fault that reading gives is the first
pub first_told : (text : Bytes) (fault : Fault) (m : ℕ)
    → image_certificate text ≡ Err (fault, m)
    → IsFirstFault text fault m
unfolding image_certificate
first_told text fault m e = elim (chosen (nat_lt 268435456 (length text)) (Err (
  faults.Size,
  0,
)) (said (lines text)) (Err (fault, m)) e) [
  | inl h ↦
      let p : ◌≡◌ {A = Bad} (faults.Size, 0) (fault, m) = bad_is (faults.Size, 0) (fault, m) h.1 in
      inl (record {
        large = ltb-true 268435456 (length text) h.0;
        fault_is = sym (ap (λ (x : Bad). x.0) p);
        whole_file = sym (ap (λ (x : Bad). x.1) p);
      })
  | inr h ↦ said_by text (reading after 1 nothing (lines text)) fault m refl h.1
]
