-- A certificate that is read is within the limits.
use Rattle.std.proofs.Common.{◌≡◌, ℕ, zero, suc, ◌+◌, inl, inr, List, [], ◌∷◌, ◌++◌, length, map}
use Rattle.std.proofs.Common.{refl, sym, ap, subst, Option, Some, None, Result, Ok, Err, arith}
use Rattle.std.specs.Prelude.{IfOk, nat_lt, fold}
use Rattle.pg_image.proofs.Common.{bytes_eq, and_then, go_on, reading, Bytes, lines, FileError}
use Rattle.pg_image.proofs.Common.{IsBody, IsNode, Claim, Version, Two, Body}
use Rattle.pg_cert.specs.declared.node.Body.TheVariants as bodies
use Rattle.pg_image.proofs.Common.{Node, Part}
use Rattle.pg_cert.specs.declared.part.Part.TheVariants as parts
use Rattle.pg_image.proofs.Common.{Gathered, behind, step, end_fault, listed, Shape, turn_of}
use Rattle.pg_image.proofs.Common.{formed, IsReadAs, Fault}
use Rattle.pg_cert_files.specs.CertFile.{with_part as gathered_with, closed as all_gathered}
use Rattle.pg_cert_lines.specs.declared.fault.Fault.TheVariants as faults
use Rattle.pg_cert_lines.specs.declared.form.Form.TheVariants as forms
use Rattle.pg_cert_files.specs.declared.progress.Due.{Due}
use Rattle.pg_cert_files.specs.declared.progress.Due.TheVariants as due
use Rattle.pg_image.proofs.Common.{Progress, Turn, AreTold, IsSound, Next, sound_headed, sound_step}
use Rattle.pg_image.proofs.Common.{node_comes, node_ends, behind_more, end_of, told_within, done}
use Rattle.pg_image.proofs.Common.{ok_is, err_not, then_ok, chosen, IsFit, IsRead, IsTold}
use Rattle.pg_image.proofs.Common.{formed_ok, with_form_ok, turn_ok, numbered}
use Rattle.pg_image.specs.Limits.{IsImageWithinLimits}
use Rattle.pg_image.specs.Print.{image_header}
use Rattle.pg_image.specs.declared.cert.ImageCert.{ImageCert}
use Rattle.pg_image.specs.declared.node.ImageNode.{ImageNode}
use Rattle.pg_image.specs.declared.node.ImageNode.TheVariants.{Image}
use Rattle.pg_image.specs.ImageFile.{Draft, nothing, closed, header_line, with_node, with_part}
use Rattle.pg_image.specs.ImageFile.{plain_line, image_added, node_added, line_due, after, ended}
use Rattle.pg_image.specs.ImageFile.{said, image_certificate}
use Rattle.pg_image.specs.ImageLine.{ImageLine, image_line, with_turn, move_shape, image_by}
use Rattle.pg_image.specs.ImageLine.{image_said}
use Rattle.pg_image.proofs.Shadows.{shadow, claim_shadow, draft_shadow, closed_shadow, one_more}
use Rattle.pg_image.proofs.Shadows.{part_added, move_fits, limits_fit}

-- ---- the line of an image

-- it stands for a move of a file
abbrev IsShadowRead : Version → ImageNode → Type 0
IsShadowRead version node = IsRead version (shadow node)

shape_fits : (l : ImageLine) (turn : Option Turn) (shape : Shape)
    → ((t : Turn) → turn ≡ Some t → IsTold t)
    → with_turn l turn ≡ Some shape
    → IsFit Two shape
shape_fits l None shape told e = absurd cc
shape_fits l (Some turn) shape told e = with_form_ok Two l.x l.y turn
    (Some forms.Move) l.words shape (told turn refl) (λ form is. refl) e

by_fits : (version : Version) (n : Node) (body : Body) (node : ImageNode)
    → IsNode n
    → IsBody body
    → image_by n body ≡ Ok node
    → IsShadowRead version node
by_fits version n (bodies.Move m j) node h small e =
    let made : ImageNode = Image n.x n.y n.turn n.left (numbered m) j in
    elim (chosen (nat_lt m 8) (Ok made) (Err faults.Number) (Ok node) e) [
      | inl k ↦ subst (IsShadowRead version) (ok_is made node k.1)
          (move_fits version n.x n.y n.turn n.left 0 j (record {
            x_points = h.x;
            y_points = h.y;
            apart = h.apart;
            turn_said = h.turn;
          }) (omega arith) small.1)
      | inr k ↦ err_not faults.Number node (IsShadowRead version node) k.1
    ]
by_fits version n bodies.Over node h small e =
    err_not faults.Number node (IsShadowRead version node) e
by_fits version n (bodies.All rs) node h small e =
    err_not faults.Number node (IsShadowRead version node) e
by_fits version n (bodies.Pairs ps) node h small e =
    err_not faults.Number node (IsShadowRead version node) e
by_fits version n bodies.Potential node h small e =
    err_not faults.Number node (IsShadowRead version node) e
by_fits version n (bodies.Trees e a b) node h small f =
    err_not faults.Number node (IsShadowRead version node) f
by_fits version n (bodies.Cuts e a b) node h small f =
    err_not faults.Number node (IsShadowRead version node) f
by_fits version n (bodies.Threat ps) node h small e =
    err_not faults.Number node (IsShadowRead version node) e
by_fits version n (bodies.Weaker j) node h small e =
    err_not faults.Number node (IsShadowRead version node) e

said_fits : (version : Version) (l : ImageLine) (node : ImageNode)
    → image_said l ≡ Ok node
    → IsShadowRead version node
said_fits version l node e =
    let t = then_ok (formed (move_shape l)) (λ (n : Node). image_by n n.body) node e in
    let read = formed_ok Two (move_shape l) t.0
    (λ shape f. shape_fits l (turn_of l.turn) shape (λ turn is. turn_ok l.turn turn is) f) t.1 in
    by_fits version t.0 t.0.body node read.0 read.0.body t.2

-- ---- lines

-- what was gathered fits what is due
abbrev IsKept : Draft → Type 0
IsKept d = IsSound d.progress.due d.progress (draft_shadow d)

kept_header : (d : Draft) (line : Bytes) (next : Draft)
    → IsSound due.Header d.progress (draft_shadow d)
    → header_line d line ≡ Ok next
    → IsKept next
kept_header d line next sound e =
    let p : Progress = record d.progress { due = due.Claim; version = Two } in
    let made : Draft = record d { progress = p } in
    elim (chosen (bytes_eq line image_header) (done made) (Err faults.Header) (Ok next) e) [
      | inl h ↦ subst IsKept (ok_is made next h.1)
          (sound_headed d.progress (draft_shadow d) (Some Two) (p, None) sound refl)
      | inr h ↦ err_not faults.Header next (IsKept next) h.1
    ]

kept_plain : (d : Draft) (line : Bytes) (next : Draft)
    → IsKept d
    → plain_line d line ≡ Ok next
    → IsKept next
kept_plain d line next sound e =
    let t = then_ok (step d.progress line) (λ (n : Next). done (with_part d n.0 n.1)) next e in
    let kept = sound_step d.progress (draft_shadow d) line t.0 sound t.1 in
    let same : fold gathered_with (draft_shadow d) (listed t.0.1)
    ≡ draft_shadow (with_part d t.0.0 t.0.1) = part_added d t.0.0 t.0.1 in
    let with_progress : IsSound t.0.0.due t.0.0 (draft_shadow (with_part d t.0.0 t.0.1)) =
    subst (λ (g : Gathered). IsSound t.0.0.due t.0.0 g) same kept in
    subst IsKept (ok_is (with_part d t.0.0 t.0.1) next t.2) (progressed d t.0.0 t.0.1 with_progress)
  where
    progressed : (d : Draft) (p : Progress) (part : Option Part)
        → IsSound p.due p (draft_shadow (with_part d p part))
        → IsKept (with_part d p part)
    progressed d p None h = h
    progressed d p (Some (parts.Claim turn side goal nodes)) h = h
    progressed d p (Some (parts.Node node)) h = h

kept_image : (others : ℕ) (d : Draft) (l : ImageLine) (next : Draft)
    → IsSound (due.Node others) d.progress (draft_shadow d)
    → image_added others d l ≡ Ok next
    → IsKept next
kept_image zero d l next sound e =
    let p : Progress = record d.progress { due = due.Claim } in
    let t = then_ok (image_said l) (λ (n : ImageNode). done (with_node d p n)) next e in
    let told = node_ends d.progress (draft_shadow d) (shadow t.0) sound
    (said_fits d.progress.version l t.0 t.1) in
    subst IsKept (ok_is (with_node d p t.0) next t.2)
    (subst (λ (g : Gathered). AreTold d.progress.version d.progress.claims d.progress.nodes
    (all_gathered g)) (one_more d t.0) told)
kept_image (suc others) d l next sound e =
    let p : Progress = record d.progress { due = behind (suc others) } in
    let t = then_ok (image_said l) (λ (n : ImageNode). done (with_node d p n)) next e in
    let comes = node_comes others d.progress (behind (suc others)) (draft_shadow d)
    (shadow t.0) sound (said_fits d.progress.version l t.0 t.1) in
    let kept : IsSound (behind (suc others)) p (record (draft_shadow d) {
      nodes = map shadow d.nodes ++ shadow t.0 ∷ [];
    }) = subst (λ (due : Due). IsSound due p (record (draft_shadow d) {
      nodes = map shadow d.nodes ++ shadow t.0 ∷ [];
    })) (sym (behind_more others)) comes in
    subst IsKept (ok_is (with_node d p t.0) next t.2)
    (subst (λ (g : Gathered). IsSound (behind (suc others)) p g) (one_more d t.0) kept)

kept_node : (others : ℕ) (d : Draft) (line : Bytes) (image : Option ImageLine) (next : Draft)
    → d.progress.due ≡ due.Node others
    → IsKept d
    → node_added others d line image ≡ Ok next
    → IsKept next
kept_node others d line None next is sound e = kept_plain d line next sound e
kept_node others d line (Some l) next is sound e = kept_image others d l next
    (subst (λ (x : Due). IsSound x d.progress (draft_shadow d)) is sound) e

kept_due : (x : Due) (d : Draft) (line : Bytes) (next : Draft)
    → d.progress.due ≡ x
    → IsKept d
    → line_due x d line ≡ Ok next
    → IsKept next
kept_due due.Header d line next is sound e =
    kept_header d line next (subst (λ (x : Due). IsSound x d.progress (draft_shadow d)) is sound) e
kept_due due.Claim d line next is sound e = kept_plain d line next sound e
kept_due (due.Count head) d line next is sound e = kept_plain d line next sound e
kept_due (due.Node others) d line next is sound e =
    kept_node others d line (image_line line) next is sound e

kept_after : (d : Draft) (line : Bytes) (next : Draft)
    → IsKept d
    → after d line ≡ Ok next
    → IsKept next
unfolding after
kept_after d line next sound e = kept_due d.progress.due d line next refl sound e

abbrev draft_or : Draft → Result Draft (Fault × ℕ) → Draft
draft_or d (Ok e) = e
draft_or d (Err bad) = d

kept_on : (n : ℕ) (r : Result Draft Fault) (others : Draft → Result Draft (Fault × ℕ))
    (last : Draft)
    → ((next : Draft) → r ≡ Ok next → others next ≡ Ok last → IsKept last)
    → go_on n r others ≡ Ok last
    → IsKept last
kept_on n (Ok next) others last h e = h next refl e
kept_on n (Err fault) others last h e = absurd cc

kept_reading : (ls : List Bytes) (n : ℕ) (d last : Draft)
    → IsKept d
    → reading after n d ls ≡ Ok last
    → IsKept last
unfolding reading
kept_reading [] n d last sound e = subst IsKept (ap (draft_or d) e) sound
kept_reading (line ∷ ls) n d last sound e =
    kept_on n (after d line) (λ next. reading after (n + 1) next ls) last
    (λ next is go. kept_reading ls (n + 1) next last (kept_after d line next sound is) go) e

-- ---- the file

kept_nothing : IsKept nothing
kept_nothing = (refl, refl, refl)

abbrev whole : ImageCert → Result ImageCert (Fault × ℕ)
whole c = Ok c

abbrev cert_or : ImageCert → Result ImageCert (Fault × ℕ) → ImageCert
cert_or c (Ok d) = d
cert_or c (Err bad) = c

ended_within : (n : ℕ) (d : Draft) (o : Option Fault) (c : ImageCert)
    → IsKept d
    → end_fault d.progress d.progress.due ≡ o
    → ended n d o ≡ Ok c
    → IsImageWithinLimits c
ended_within n d None c sound is e =
    let t = end_of d.progress.due d.progress (draft_shadow d) sound is in
    let told : AreTold d.progress.version d.progress.claims d.progress.nodes
    (map claim_shadow (closed d)) =
    subst (λ (cs : List Claim). AreTold d.progress.version d.progress.claims d.progress.nodes cs)
    (closed_shadow d) t.0 in
    let made : ImageCert = record { claims = closed d } in
    let same : made ≡ c = ap (cert_or made) e in
    subst IsImageWithinLimits same
    (limits_fit d.progress.version (closed d)
    (told_within d.progress.version d.progress.claims d.progress.nodes
    (map claim_shadow (closed d)) told t.1))
ended_within n d (Some fault) c sound is e = absurd cc

then_within : (ls : List Bytes) (c : ImageCert) (r : Result Draft (Fault × ℕ))
    → reading after 1 nothing ls ≡ r
    → and_then r (λ d. ended (length ls + 1) d (end_fault d.progress d.progress.due)) ≡ Ok c
    → IsImageWithinLimits c
then_within ls c (Ok d) is e = ended_within (length ls + 1) d
    (end_fault d.progress d.progress.due) c (kept_reading ls 1 nothing d kept_nothing is) refl e
then_within ls c (Err bad) is e = absurd cc

-- what reading gives is within the limits
pub read_within : (text : Bytes) (c : ImageCert)
    → image_certificate text ≡ Ok c
    → IsImageWithinLimits c
unfolding image_certificate
read_within text c e = elim (chosen (nat_lt 268435456 (length text)) (Err (
  faults.Size,
  0,
)) (said (lines text)) (whole c) e) [
  | inl h ↦ absurd (cc h.1)
  | inr h ↦ then_within (lines text) c (reading after 1 nothing (lines text)) refl h.1
]

pub answer_within : (result : Result ImageCert FileError) (text : Bytes)
    → IsReadAs result (image_certificate text)
    → IfOk result IsImageWithinLimits
answer_within (Ok c) text read = read_within text c read
answer_within (Err error) text read = tt
