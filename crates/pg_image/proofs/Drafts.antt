-- What lines have said and say from there on, cut short.
use Rattle.std.proofs.Common.{◌≡◌, ◌∙◌, ℕ, ◌+◌, ◌<◌, List, [], ◌∷◌, ◌++◌, length, map, Option, Some}
use Rattle.std.proofs.Common.{None, Result, Ok, Err, refl, sym, ap, ap₂, inl, inr, append_assoc}
use Rattle.std.proofs.Common.{arith}
use Rattle.std.specs.Prelude.{◌==◌, false, option_map}
use Rattle.std.proofs.lemmas.List.{map_push}
use Rattle.pg_image.proofs.Common.{All-append, Bytes, Due, Fault, Head, LINE_FEED, Lacks, Part}
use Rattle.pg_image.proofs.Common.{Progress, Step, Two, and_then, behind, bytes_eq, cases_Bool}
use Rattle.pg_image.proofs.Common.{end_fault, length-append, lines, map-append, last_line}
use Rattle.pg_image.proofs.Common.{lines_feed, step}
use Rattle.pg_cert.specs.declared.part.Part.TheVariants as parts
use Rattle.pg_cert_files.specs.CertFile.{node_step, step_due}
use Rattle.pg_cert_files.specs.Shortened.{short_part}
use Rattle.pg_cert_files.specs.Shortening.{IsSpare, short_step}
use Rattle.pg_cert_files.specs.declared.progress.Due.TheVariants as due
use Rattle.pg_image.specs.Gathering.{goes_on, said_from}
use Rattle.pg_image.specs.ImageFile.{Draft, after, closed, ended, header_line}
use Rattle.pg_image.specs.ImageFile.{last_claim, line_due, node_added, plain_line, with_node}
use Rattle.pg_image.specs.ImageFile.{with_part}
use Rattle.pg_image.specs.ImageLine.{ImageLine, image_line, image_said}
use Rattle.pg_image.specs.Print.{image_header}
use Rattle.pg_image.specs.Shortened.{short_image_claim, short_image_node, short_image_result}
use Rattle.pg_image.specs.declared.cert.ImageCert.{ImageCert}
use Rattle.pg_image.specs.declared.cert.ImageClaim.{ImageClaim}
use Rattle.pg_image.specs.declared.node.ImageNode.{ImageNode}
use Rattle.pg_image.specs.declared.node.ImageNode.TheVariants.{Plain}
use Rattle.pg_image.proofs.PairLines.{not_image}
use Rattle.pg_image.proofs.Signs.{sign_or_none}

abbrev pub short_draft : Draft → Draft
short_draft d = record {
  progress = d.progress;
  whole = map short_image_claim d.whole;
  head = d.head;
  nodes = map short_image_node d.nodes;
}

abbrev pub short_read : Result Draft Fault → Result Draft Fault
short_read (Ok d) = Ok (short_draft d)
short_read (Err fault) = Err fault

draft_is : (p q : Progress) (w v : List ImageClaim) (h g : Option Head) (ns ms : List ImageNode)
    → p ≡ q
    → w ≡ v
    → h ≡ g
    → ns ≡ ms
    → ◌≡◌ {A = Draft} (record { progress = p; whole = w; head = h; nodes = ns }) (record {
      progress = q;
      whole = v;
      head = g;
      nodes = ms;
    })
draft_is p q w v h g ns ms a b c d = rw (a, b, c, d) refl

last_same : (head : Option Head) (ns ms : List ImageNode)
    → map short_image_node ns ≡ map short_image_node ms
    → map short_image_claim (last_claim head ns) ≡ map short_image_claim (last_claim head ms)
last_same None ns ms e = refl
last_same (Some head) ns ms e = ap (λ (l : List ImageNode). record {
  turn = head.turn;
  side = head.side;
  goal = head.goal;
  nodes = l;
} ∷ []) e

-- what is due after the first line
abbrev begun : Progress → Progress
begun p = record p { due = due.Claim; version = Two }

-- ---- drafts that are the same, cut short

module _ (d e : Draft) (same : short_draft d ≡ short_draft e) where
  progress_same : d.progress ≡ e.progress
  progress_same = ap (λ (s : Draft). s.progress) same

  whole_same : map short_image_claim d.whole ≡ map short_image_claim e.whole
  whole_same = ap (λ (s : Draft). s.whole) same

  head_same : d.head ≡ e.head
  head_same = ap (λ (s : Draft). s.head) same

  nodes_same : map short_image_node d.nodes ≡ map short_image_node e.nodes
  nodes_same = ap (λ (s : Draft). s.nodes) same

  closed_same : map short_image_claim (closed d) ≡ map short_image_claim (closed e)
  closed_same =
      let last : map short_image_claim (last_claim d.head d.nodes)
      ≡ map short_image_claim (last_claim e.head e.nodes) =
      last_same d.head d.nodes e.nodes nodes_same
      ∙ ap (λ (h : Option Head). map short_image_claim (last_claim h e.nodes)) head_same in
      map-append short_image_claim d.whole (last_claim d.head d.nodes)
      ∙ ap₂ (λ (a b : List ImageClaim). a ++ b) whole_same last
      ∙ sym (map-append short_image_claim e.whole (last_claim e.head e.nodes))

  node_same : (p q : Progress) (m n : ImageNode)
      → p ≡ q
      → short_image_node m ≡ short_image_node n
      → short_draft (with_node d p m) ≡ short_draft (with_node e q n)
  node_same p q m n stepped node = draft_is p q _ _ _ _ _ _ stepped whole_same head_same
      (map_push short_image_node d.nodes m
      ∙ ap₂ (λ (l : List ImageNode) (x : ImageNode). l ++ x ∷ []) nodes_same node
      ∙ sym (map_push short_image_node e.nodes n))

  part_same : (p q : Progress) (o u : Option Part)
      → p ≡ q
      → option_map short_part o ≡ option_map short_part u
      → short_draft (with_part d p o) ≡ short_draft (with_part e q u)
  part_same p q None None stepped part =
      draft_is p q _ _ _ _ _ _ stepped whole_same head_same nodes_same
  part_same p q (Some (parts.Claim t s g n)) (Some (parts.Claim u r h m)) stepped part =
      let one : t ≡ u = cc in
      let two : s ≡ r = cc in
      let three : g ≡ h = cc in
      let head : ◌≡◌ {A = Option Head} (Some (record { turn = t; side = s; goal = g }))
      (Some (record { turn = u; side = r; goal = h })) = rw (one, two, three) refl in
      draft_is p q _ _ _ _ [] [] stepped closed_same head refl
  part_same p q (Some (parts.Node m)) (Some (parts.Node n)) stepped part =
      node_same p q (Plain m) (Plain n) stepped (ap Plain cc)
  part_same p q None (Some (parts.Claim u r h m)) stepped part = absurd cc
  part_same p q None (Some (parts.Node n)) stepped part = absurd cc
  part_same p q (Some (parts.Claim t s g n)) None stepped part = absurd cc
  part_same p q (Some (parts.Claim t s g n)) (Some (parts.Node m)) stepped part = absurd cc
  part_same p q (Some (parts.Node m)) None stepped part = absurd cc
  part_same p q (Some (parts.Node m)) (Some (parts.Claim u r h n)) stepped part = absurd cc

  plain_same : (s t : Step)
      → short_step s ≡ short_step t
      → short_read (and_then s (λ next. Ok (with_part d next.0 next.1)))
      ≡ short_read (and_then t (λ next. Ok (with_part e next.0 next.1)))
  plain_same (Ok n) (Ok m) h =
      let both : (n.0, option_map short_part n.1) ≡ (m.0, option_map short_part m.1) = cc in
      let part : option_map short_part n.1 ≡ option_map short_part m.1 =
      ap (λ (q : Progress × Option Part). q.1) both in
      ap (λ (s : Draft). Ok s)
      (part_same n.0 m.0 n.1 m.1 (ap (λ (q : Progress × Option Part). q.0) both) part)
  plain_same (Err f) (Err g) h = let fault : f ≡ g = cc in ap (λ (x : Fault). Err x) fault
  plain_same (Ok n) (Err g) h = absurd cc
  plain_same (Err f) (Ok m) h = absurd cc

  header_same : (line : Bytes) → short_read (header_line d line) ≡ short_read (header_line e line)
  header_same line = elim (cases_Bool (bytes_eq line image_header)) [
    | inl on ↦ rw on (ap (λ (s : Draft). Ok s)
        (draft_is (begun d.progress) (begun e.progress) _ _ _ _ _ _ (ap begun progress_same)
        whole_same head_same nodes_same))
    | inr off ↦ rw off refl
  ]

  image_same : (others : ℕ) (r : Result ImageNode Fault)
      → short_read (and_then r
      (λ node. Ok (with_node d (record d.progress { due = behind others }) node)))
      ≡ short_read (and_then r
      (λ node. Ok (with_node e (record e.progress { due = behind others }) node)))
  image_same others (Ok node) = ap (λ (s : Draft). Ok s)
      (node_same (record d.progress { due = behind others })
      (record e.progress { due = behind others }) node node
      (ap (λ (p : Progress). record p { due = behind others }) progress_same) refl)
  image_same others (Err fault) = refl

  step_same : (line : Bytes) → short_read (plain_line d line) ≡ short_read (plain_line e line)
  step_same line = plain_same (step d.progress line) (step e.progress line)
      (ap (λ (p : Progress). short_step (step p line)) progress_same)

  added_same : (others : ℕ) (line : Bytes) (o : Option ImageLine)
      → short_read (node_added others d line o) ≡ short_read (node_added others e line o)
  added_same others line None = step_same line
  added_same others line (Some l) = image_same others (image_said l)

  due_same : (x : Due) (line : Bytes)
      → short_read (line_due x d line) ≡ short_read (line_due x e line)
  due_same due.Header line = header_same line
  due_same due.Claim line = step_same line
  due_same (due.Count head) line = step_same line
  due_same (due.Node others) line = added_same others line (image_line line)

  after_same : (line : Bytes) → short_read (after d line) ≡ short_read (after e line)
  unfolding after
  after_same line = due_same d.progress.due line
      ∙ ap (λ (p : Progress). short_read (line_due p.due e line)) progress_same

  ended_same : (n : ℕ) (o : Option Fault)
      → short_image_result (ended n d o) ≡ short_image_result (ended n e o)
  ended_same n None = ap (λ (cs : List ImageClaim). Ok (record { claims = cs })) closed_same
  ended_same n (Some fault) = refl

-- ---- what lines say from there on

goes_same : (n : ℕ) (r s : Result Draft Fault) (f : Draft → Result ImageCert (Fault × ℕ))
    → short_read r ≡ short_read s
    → ((d e : Draft) → short_draft d ≡ short_draft e
    → short_image_result (f d) ≡ short_image_result (f e))
    → short_image_result (goes_on n r f) ≡ short_image_result (goes_on n s f)
goes_same n (Ok d) (Ok e) f h next = let same : short_draft d ≡ short_draft e = cc in next d e same
goes_same n (Err x) (Err y) f h next =
    let fault : x ≡ y = cc in ap (λ (z : Fault). Err (z, n)) fault
goes_same n (Ok d) (Err y) f h next = absurd cc
goes_same n (Err x) (Ok e) f h next = absurd cc

said_same : (ls : List Bytes) (n : ℕ) (d e : Draft)
    → short_draft d ≡ short_draft e
    → short_image_result (said_from n d ls) ≡ short_image_result (said_from n e ls)
said_same [] n d e same = ended_same d e same n (end_fault d.progress d.progress.due)
    ∙ ap (λ (p : Progress). short_image_result (ended n e (end_fault p p.due)))
    (progress_same d e same)
said_same (line ∷ ls) n d e same =
    goes_same n (after d line) (after e line) (λ next. said_from (n + 1) next ls)
    (after_same d e same line) (λ a b h. said_same ls (n + 1) a b h)

-- a line that says the same, cut short
line_same : (n : ℕ) (d : Draft) (a b : Bytes) (ls : List Bytes)
    → short_read (after d a) ≡ short_read (after d b)
    → short_image_result (said_from n d (a ∷ ls)) ≡ short_image_result (said_from n d (b ∷ ls))
line_same n d a b ls e = goes_same n (after d a) (after d b) (λ next. said_from (n + 1) next ls) e
    (λ x y h. said_same ls (n + 1) x y h)

-- ---- a line in hand, whatever comes after it

one_line : (l more : Bytes)
    → 0 < length l
    → Lacks LINE_FEED l
    → Lacks LINE_FEED more
    → lines (l ++ more) ≡ (l ++ more) ∷ lines []
one_line l more some quiet lacks =
    last_line (l ++ more) (omega (arith, some, length-append l more))
    (All-append (λ b. (b == LINE_FEED) ≡ false) l more quiet lacks)

first_line : (l more a b : Bytes)
    → more ≡ a ++ LINE_FEED ∷ b
    → Lacks LINE_FEED l
    → Lacks LINE_FEED a
    → lines (l ++ more) ≡ (l ++ a) ∷ lines b
first_line l more a b cut quiet lacks =
    ap (λ (t : Bytes). lines (l ++ t)) cut
    ∙ ap lines (sym (append_assoc l a (LINE_FEED ∷ b)))
    ∙ lines_feed (l ++ a) b (All-append (λ b. (b == LINE_FEED) ≡ false) l a quiet lacks)

pub rest_same : (n : ℕ) (d : Draft) (l m more : Bytes)
    → 0 < length l
    → 0 < length m
    → Lacks LINE_FEED l
    → Lacks LINE_FEED m
    → ((t : Bytes) → short_read (after d (l ++ t)) ≡ short_read (after d (m ++ t)))
    → short_image_result (said_from n d (lines (l ++ more)))
    ≡ short_image_result (said_from n d (lines (m ++ more)))
rest_same n d l m more some_l some_m quiet_l quiet_m alike =
    elim (sign_or_none LINE_FEED more)
    as (λ _. short_image_result (said_from n d (lines (l ++ more)))
    ≡ short_image_result (said_from n d (lines (m ++ more)))) [
      | inl none ↦
          ap (λ (ls : List Bytes). short_image_result (said_from n d ls))
          (one_line l more some_l quiet_l none)
          ∙ line_same n d (l ++ more) (m ++ more) (lines []) (alike more)
          ∙ sym (ap (λ (ls : List Bytes). short_image_result (said_from n d ls))
          (one_line m more some_m quiet_m none))
      | inr h ↦
          ap (λ (ls : List Bytes). short_image_result (said_from n d ls))
          (first_line l more h.front h.rest h.cut quiet_l h.lacks)
          ∙ line_same n d (l ++ h.front) (m ++ h.front) (lines h.rest) (alike h.front)
          ∙ sym (ap (λ (ls : List Bytes). short_image_result (said_from n d ls))
          (first_line m more h.front h.rest h.cut quiet_m h.lacks))
    ]

-- ---- a line of pairs that is cut short

as_node : (p : Progress) (others : ℕ) (line : Bytes)
    → p.due ≡ due.Node others
    → step p line ≡ node_step others p line
unfolding step
as_node p others line is = ap (λ (x : Due). step_due x p line) is

as_plain : (d : Draft) (others : ℕ) (line : Bytes)
    → d.progress.due ≡ due.Node others
    → image_line line ≡ None
    → after d line
    ≡ and_then (node_step others d.progress line) (λ next. Ok (with_part d next.0 next.1))
unfolding after
as_plain d others line is none = ap (λ (x : Due). line_due x d line) is
    ∙ ap (node_added others d line) none
    ∙ ap (λ (s : Step). and_then s (λ next. Ok (with_part d next.0 next.1)))
    (as_node d.progress others line is)

pub spare_same : (d : Draft) (others : ℕ) (line kept rest t : Bytes)
    → d.progress.due ≡ due.Node others
    → IsSpare line kept rest
    → short_read (after d (line ++ t)) ≡ short_read (after d ((kept ++ rest) ++ t))
spare_same d others line kept rest t is spare =
    let long : line ++ t ≡ kept ++ ((spare.dropped ++ rest) ++ t) =
    ap (λ (l : Bytes). l ++ t) spare.cut ∙ append_assoc kept (spare.dropped ++ rest) t in
    let none : image_line (line ++ t) ≡ None = ap image_line long
    ∙ not_image kept spare.words ((spare.dropped ++ rest) ++ t) spare.front in
    let none_short : image_line ((kept ++ rest) ++ t) ≡ None =
    ap image_line (append_assoc kept rest t)
    ∙ not_image kept spare.words (rest ++ t) spare.front in
    ap short_read (as_plain d others (line ++ t) is none)
    ∙ plain_same d d refl (node_step others d.progress (line ++ t))
    (node_step others d.progress ((kept ++ rest) ++ t)) (spare.same others d.progress t)
    ∙ sym (ap short_read (as_plain d others ((kept ++ rest) ++ t) is none_short))
