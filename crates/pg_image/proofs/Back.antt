-- A printed certificate with images is read again as the same certificate.
use Rattle.std.proofs.Common.{◌≡◌, ℕ, suc, ◌+◌, ◌-◌, ◌<◌, ◌≤◌, lit<, true, false, List, [], ◌∷◌}
use Rattle.std.proofs.Common.{◌++◌, length, arith, refl, sym, ap, subst, ◌∙◌, append_assoc, Some}
use Rattle.std.proofs.Common.{None, Result, Ok}
use Rattle.std.specs.Prelude.{◌==◌, nat_lt, codes}
use Rattle.pg_image.proofs.Common.{FinSet, decimal, flat_map, AllByRecursion, nat_cmp, bytes_eq}
use Rattle.pg_image.proofs.Common.{nat_tests, append-nil, All-from_recursion, recursion_from_All}
use Rattle.pg_image.proofs.Common.{sum_by-cons, Side, and_then, reading, Bytes, Four, Lacks, lines}
use Rattle.pg_image.proofs.Common.{spaced, reads_on, is_over, IsNode, has_body, set_words}
use Rattle.pg_image.proofs.Common.{body_name, body_words, body_text, turn_word, count_words, Claim}
use Rattle.pg_image.proofs.Common.{Version, Two, Body}
use Rattle.pg_text.proofs.FirstLine.{lines_feed, no_lines}
use Rattle.pg_text.proofs.PlainWords.{IsWord, IsQuiet, decimal_is_word, spaced_quiet, words_spaced}
use Rattle.pg_text.proofs.PlainWords.{quiet_lacks_feed}
use Rattle.pg_cert.specs.declared.node.Body.TheVariants as bodies
use Rattle.pg_image.proofs.Common.{Node, Step, start, behind, end_fault, Fault, Head, Due}
use Rattle.pg_cert_files.specs.declared.progress.Due.TheVariants as due
use Rattle.pg_image.proofs.Common.{behind_more, number_of, GridMap}
use Rattle.pg_cert_files.proofs.Back.{claim_step_back, count_step_back, node_step_back}
use Rattle.pg_cert_files.proofs.Back.{node_text_is, five_word, nodes_word, goal_is_word}
use Rattle.pg_cert_lines.proofs.NodeBack.{node_line_text, side_is_word, name_is_word}
use Rattle.pg_cert_lines.proofs.NodeBack.{body_are_words, body_quiet, line_with, line_cut}
use Rattle.pg_cert_lines.proofs.NodeBack.{line_lacks_feed, node_lacks_feed, turn_back, node_is_back}
use Rattle.pg_maps.proofs.Numbers.{numbered-number, number-few}
use Rattle.pg_image.specs.Limits.{IsMarked, IsImageNode, IsImageClaim, IsImageWithinLimits}
use Rattle.pg_image.specs.Limits.{image_node_count}
use Rattle.pg_image.specs.Print.{position_fields, image_words, image_text, image_node_text}
use Rattle.pg_image.specs.Print.{image_claim_words, image_claim_text, image_header}
use Rattle.pg_image.specs.Print.{printed_image_certificate}
use Rattle.pg_image.specs.declared.cert.ImageCert.{ImageCert}
use Rattle.pg_image.specs.declared.cert.ImageClaim.{ImageClaim}
use Rattle.pg_image.specs.declared.node.ImageNode.{ImageNode}
use Rattle.pg_image.specs.declared.node.ImageNode.TheVariants.{Plain, Image}
use Rattle.pg_image.specs.ImageFile.{Draft, nothing, closed, with_node, with_part, node_added}
use Rattle.pg_image.specs.ImageFile.{line_due, after, ended, image_certificate}
use Rattle.pg_image.specs.ImageLine.{ImageLine, begun_with, with_fields, image_line, image_said}
use Rattle.pg_image.proofs.Shadows.{move_node, move_fits}
use Rattle.pg_image.proofs.Whole.{fits_file, said_is}

-- ---- texts of whole lines

-- whatever stands behind the text, it leads from the one draft to the other
abbrev Leads : Draft → Bytes → Draft → Type 0
Leads d text next = (n : ℕ) → (m : ℕ) × ((rest : Bytes)
    → reading after n d (lines (text ++ rest)) ≡ reading after m next (lines rest))

leads_none : (d : Draft) → Leads d [] d
leads_none d n = (n, λ rest. refl)

leads_then : (d e f : Draft) (a b : Bytes) → Leads d a e → Leads e b f → Leads d (a ++ b) f
leads_then d e f a b h k n =
    let one = h n in
    let two = k one.0 in (
      two.0,
      λ rest. ap (λ (t : Bytes). reading after n d (lines t)) (append_assoc a b rest)
          ∙ one.1 (b ++ rest)
          ∙ two.1 rest,
    )

leads_line : (d next : Draft) (line : Bytes)
    → Lacks 10 line
    → after d line ≡ Ok next
    → Leads d (line ++ 10 ∷ []) next
leads_line d next line lacks is n = (
  n + 1,
  λ rest. ap (λ (t : Bytes). reading after n d (lines t)) (append_assoc line (10 ∷ []) rest)
      ∙ ap (λ (ls : List Bytes). reading after n d ls) (lines_feed line rest lacks)
      ∙ sym (reads_on after n d next line (lines rest) is),
)

-- ---- the lines of nodes

not_image : (body : Body) → bytes_eq (body_name body) (codes "image") ≡ false
not_image bodies.Over = refl
not_image (bodies.Move v j) = refl
not_image (bodies.All rs) = refl
not_image (bodies.Pairs ps) = refl
not_image bodies.Potential = refl
not_image (bodies.Trees e a b) = refl
not_image (bodies.Cuts e a b) = refl
not_image (bodies.Threat ps) = refl
not_image (bodies.Weaker j) = refl

abbrev fields_with : FinSet nat_cmp → FinSet nat_cmp → Side → ℕ → Bytes → Four
fields_with x y turn left body = record {
  first = spaced (set_words x);
  second = spaced (set_words y);
  third = turn_word turn left;
  fourth = body;
}

plain_is_none : (n : Node) → IsNode n → image_line (node_line_text n) ≡ None
unfolding image_line
plain_is_none n h =
    let words = words_spaced (body_name n.body) (body_words n.body) (name_is_word n.body)
    (body_are_words n.body h.body) in
    let off = not_image n.body in
    ap with_fields
    (line_cut n.x n.y n.turn n.left (body_text n.body) h.turn (body_quiet n.body h.body))
    ∙ ap (begun_with (fields_with n.x n.y n.turn n.left (body_text n.body))) words
    ∙ rw off refl

abbrev line_of : FinSet nat_cmp → FinSet nat_cmp → Side → ℕ → GridMap → ℕ → ImageLine
line_of x y turn left map child = record {
  x = spaced (set_words x);
  y = spaced (set_words y);
  turn = turn_word turn left;
  words = decimal (number_of map) ∷ decimal child ∷ [];
}

image_word : IsWord (codes "image")
image_word = (
  (lit< tt, lit< tt),
  ((lit< tt, lit< tt), ((lit< tt, lit< tt), ((lit< tt, lit< tt), ((lit< tt, lit< tt), tt)))),
)

image_are_words : (map : GridMap) (child : ℕ)
    → child < 100000
    → AllByRecursion IsWord (decimal (number_of map) ∷ decimal child ∷ [])
image_are_words map child few = (
  decimal_is_word (number_of map) (omega (arith, number-few map)),
  (decimal_is_word child (omega (arith, few)), tt),
)

image_quiet : (map : GridMap) (child : ℕ)
    → child < 100000
    → AllByRecursion IsQuiet (spaced (image_words map child))
image_quiet map child few =
    spaced_quiet (image_words map child) (image_word, image_are_words map child few)

image_is_some : (x y : FinSet nat_cmp) (turn : Side) (left : ℕ) (map : GridMap) (child : ℕ)
    → IsMarked x y turn left
    → child < 100000
    → image_line (line_with x y turn left (spaced (image_words map child)))
    ≡ Some (line_of x y turn left map child)
unfolding image_line
image_is_some x y turn left map child h few =
    let words = words_spaced (codes "image")
    (decimal (number_of map) ∷ decimal child ∷ []) image_word (image_are_words map child few) in
    ap with_fields
    (line_cut x y turn left (spaced (image_words map child)) h.turn_said
    (image_quiet map child few))
    ∙ ap (begun_with (fields_with x y turn left (spaced (image_words map child)))) words

image_back : (x y : FinSet nat_cmp) (turn : Side) (left : ℕ) (map : GridMap) (child : ℕ)
    → IsMarked x y turn left
    → child < 100000
    → image_said (line_of x y turn left map child) ≡ Ok (Image x y turn left map child)
image_back x y turn left map child h few =
    let n = move_node x y turn left (number_of map) child in
    let fits =
    move_fits Two x y turn left (number_of map) child h (omega (arith, number-few map)) few in
    let told = turn_back turn left h.turn_said in
    let read = node_is_back n fits.0 in
    let small : nat_lt (number_of map) 8 ≡ true = grind (arith, nat_tests, number-few map) in
    let same = numbered-number map in
    rw (told, read, small, same) refl

-- one node more, behind which so many others stand
abbrev node_told : ℕ → Draft → ImageNode → Draft
node_told others d node = with_node d (record d.progress { due = behind others }) node

-- a draft in version 2 where a node is due
pub record IsAtNode (others : ℕ) (d : Draft) : Type 0 where
  pub is_due : d.progress.due ≡ due.Node others
  pub version : d.progress.version ≡ Two

has_any : (version : Version) (body : Body) → version ≡ Two → has_body version body ≡ true
has_any version body is = rw is refl

by_due : (d : Draft) (line : Bytes) (x : Due)
    → d.progress.due ≡ x
    → after d line ≡ line_due x d line
unfolding after
by_due d line x is = ap (λ (y : Due). line_due y d line) is

abbrev taken : Draft → Step → Result Draft Fault
taken d r = and_then r (λ next. Ok (with_part d next.0 next.1))

plain_after : (others : ℕ) (d : Draft) (n : Node)
    → IsAtNode others d
    → IsNode n
    → after d (node_line_text n) ≡ Ok (node_told others d (Plain n))
plain_after others d n at h = by_due d (node_line_text n) (due.Node others) at.is_due
    ∙ ap (node_added others d (node_line_text n)) (plain_is_none n h)
    ∙ ap (taken d)
    (node_step_back d.progress others n at.is_due (h, has_any d.progress.version n.body at.version))

image_after : (others : ℕ) (d : Draft) (x y : FinSet nat_cmp) (turn : Side) (left : ℕ)
    (map : GridMap) (child : ℕ)
    → IsAtNode others d
    → IsMarked x y turn left
    → child < 100000
    → after d (line_with x y turn left (spaced (image_words map child)))
    ≡ Ok (node_told others d (Image x y turn left map child))
image_after others d x y turn left map child at h few =
    let line = line_with x y turn left (spaced (image_words map child)) in
    by_due d line (due.Node others) at.is_due
    ∙ ap (node_added others d line) (image_is_some x y turn left map child h few)
    ∙ ap (λ (r : Result ImageNode Fault). and_then r (λ node. Ok (node_told others d node)))
    (image_back x y turn left map child h few)

image_text_is : (x y : FinSet nat_cmp) (turn : Side) (left : ℕ) (map : GridMap) (child : ℕ)
    → image_text x y turn left map child
    ≡ line_with x y turn left (spaced (image_words map child)) ++ 10 ∷ []
unfolding position_fields
image_text_is x y turn left map child = simp append_assoc

leads_node : (others : ℕ) (d : Draft) (n : ImageNode)
    → IsAtNode others d
    → IsImageNode n
    → Leads d (image_node_text n) (node_told others d n)
leads_node others d (Plain n) at h =
    subst (λ (t : Bytes). Leads d t (node_told others d (Plain n))) (sym (node_text_is n))
    (leads_line d (node_told others d (Plain n)) (node_line_text n) (node_lacks_feed n h)
    (plain_after others d n at h))
leads_node others d (Image x y turn left map child) at h =
    let next = node_told others d (Image x y turn left map child) in
    let line = line_with x y turn left (spaced (image_words map child)) in
    subst (λ (t : Bytes). Leads d t next) (sym (image_text_is x y turn left map child))
    (leads_line d next line
    (line_lacks_feed x y turn left (spaced (image_words map child)) h.0.turn_said
    (image_quiet map child h.1)) (image_after others d x y turn left map child at h.0 h.1))

-- behind the last node of a claim
abbrev nodes_told : Draft → List ImageNode → Draft
nodes_told d ns =
    record d { progress = record d.progress { due = due.Claim }; nodes = d.nodes ++ ns }

leads_nodes : (ns : List ImageNode) (d : Draft) (n : ImageNode)
    → IsAtNode (length ns) d
    → IsImageNode n
    → AllByRecursion IsImageNode ns
    → Leads d (flat_map image_node_text (n ∷ ns)) (nodes_told d (n ∷ ns))
leads_nodes [] d n at h k = subst (λ (t : Bytes). Leads d t (nodes_told d (n ∷ [])))
    (sym (append-nil (image_node_text n))) (leads_node 0 d n at h)
leads_nodes (m ∷ ns) d n at h k =
    let e = node_told (suc (length ns)) d n in
    let one = leads_node (suc (length ns)) d n at h in
    let others = leads_nodes ns e m (record {
      is_due = behind_more (length ns);
      version = at.version;
    }) k.0 k.1 in
    let more : (d.nodes ++ n ∷ []) ++ m ∷ ns ≡ d.nodes ++ n ∷ m ∷ ns =
    append_assoc d.nodes (n ∷ []) (m ∷ ns) in
    let all = leads_then d e (nodes_told e (m ∷ ns)) (image_node_text n)
    (flat_map image_node_text (m ∷ ns)) one others in
    subst (λ (xs : List ImageNode). Leads d (flat_map image_node_text (n ∷ m ∷ ns)) (record d {
      progress = record d.progress { due = due.Claim };
      nodes = xs;
    })) more all

some_nodes : (ns : List ImageNode) (d : Draft)
    → 0 < length ns
    → d.progress.due ≡ due.Node (length ns - 1)
    → d.progress.version ≡ Two
    → AllByRecursion IsImageNode ns
    → Leads d (flat_map image_node_text ns) (nodes_told d ns)
some_nodes [] d some is two k = absurd (omega arith)
some_nodes (n ∷ ns) d some is two k =
    let less : suc (length ns) - 1 ≡ length ns = omega arith in
    leads_nodes ns d n
    (record { is_due = is ∙ ap (λ (x : ℕ). due.Node x) less; version = two }) k.0 k.1

-- ---- claims

abbrev head_is : ImageClaim → Head
head_is c = record { turn = c.turn; side = c.side; goal = c.goal }

abbrev claim_is : ImageClaim → Claim
claim_is c = record { turn = c.turn; side = c.side; goal = c.goal; nodes = [] }

-- behind the claim line, the `nodes` line, and the last node
abbrev claim_begun : Draft → ImageClaim → Draft
claim_begun d c = record d {
  progress = record d.progress { due = due.Count (head_is c); claims = d.progress.claims + 1 };
}

abbrev claim_counted : Draft → ImageClaim → Draft
claim_counted d c = record {
  progress = record d.progress {
    due = due.Node (length c.nodes - 1);
    claims = d.progress.claims + 1;
    nodes = d.progress.nodes + length c.nodes;
  };
  whole = closed d;
  head = Some (head_is c);
  nodes = [];
}

abbrev claim_told : Draft → ImageClaim → Draft
claim_told d c = record {
  progress = record d.progress {
    due = due.Claim;
    claims = d.progress.claims + 1;
    nodes = d.progress.nodes + length c.nodes;
  };
  whole = closed d;
  head = Some (head_is c);
  nodes = c.nodes;
}

claim_after : (d : Draft) (c : ImageClaim)
    → d.progress.due ≡ due.Claim
    → d.progress.claims < 8
    → after d (spaced (image_claim_words c)) ≡ Ok (claim_begun d c)
claim_after d c is few = by_due d (spaced (image_claim_words c)) due.Claim is
    ∙ ap (taken d) (claim_step_back d.progress (claim_is c) is few)

count_after : (d : Draft) (c : ImageClaim)
    → 0 < length c.nodes
    → length c.nodes ≤ 100000
    → d.progress.nodes + length c.nodes ≤ 200000
    → after (claim_begun d c) (spaced (count_words (length c.nodes))) ≡ Ok (claim_counted d c)
count_after d c some few room =
    by_due (claim_begun d c) (spaced (count_words (length c.nodes))) (due.Count (head_is c)) refl
    ∙ ap (taken (claim_begun d c))
    (count_step_back (claim_begun d c).progress (head_is c) (length c.nodes) refl some few room)

joined : (a b c : Bytes) → (a ++ 10 ∷ []) ++ ((b ++ 10 ∷ []) ++ c) ≡ a ++ 10 ∷ (b ++ 10 ∷ c)
joined a b c = simp append_assoc

leads_claim : (d : Draft) (c : ImageClaim)
    → d.progress.due ≡ due.Claim
    → d.progress.version ≡ Two
    → d.progress.claims < 8
    → d.progress.nodes + length c.nodes ≤ 200000
    → IsImageClaim c
    → Leads d (image_claim_text c) (claim_told d c)
unfolding image_claim_text
leads_claim d c is two few room h =
    let first = spaced (image_claim_words c) in
    let second = spaced (count_words (length c.nodes)) in
    let nodes = flat_map image_node_text c.nodes in
    let one = leads_line d (claim_begun d c) first
    (quiet_lacks_feed first (spaced_quiet (image_claim_words c) (
      five_word,
      (side_is_word c.turn, (side_is_word c.side, (goal_is_word c.goal, tt))),
    ))) (claim_after d c is few) in
    let next = leads_line (claim_begun d c) (claim_counted d c) second
    (quiet_lacks_feed second (spaced_quiet (count_words (length c.nodes)) (
      nodes_word,
      (decimal_is_word (length c.nodes) (omega (arith, h.few)), tt),
    ))) (count_after d c h.some h.few room) in
    let last = some_nodes c.nodes (claim_counted d c) h.some refl two
    (recursion_from_All IsImageNode c.nodes h.nodes) in
    let others = leads_then (claim_begun d c) (claim_counted d c) (claim_told d c)
    (second ++ 10 ∷ []) nodes next last in
    subst (λ (t : Bytes). Leads d t (claim_told d c)) (joined first second nodes)
    (leads_then d (claim_begun d c) (claim_told d c) (first ++ 10 ∷ [])
    ((second ++ 10 ∷ []) ++ nodes) one others)

-- what claims lead to
pub record LeadOn (d : Draft) (cs : List ImageClaim) : Type 0 where
  pub last : Draft
  pub leads : Leads d (flat_map image_claim_text cs) last
  pub is_due : last.progress.due ≡ due.Claim
  pub count : last.progress.claims ≡ d.progress.claims + length cs
  pub claims : closed last ≡ closed d ++ cs

leads_claims : (cs : List ImageClaim) (d : Draft)
    → d.progress.due ≡ due.Claim
    → d.progress.version ≡ Two
    → d.progress.claims + length cs ≤ 8
    → d.progress.nodes + image_node_count cs ≤ 200000
    → AllByRecursion IsImageClaim cs
    → LeadOn d cs
leads_claims [] d is two few room k = record {
  last = d;
  leads = leads_none d;
  is_due = is;
  count = omega arith;
  claims = sym (append-nil (closed d));
}
leads_claims (c ∷ cs) d is two few room k =
    let split : image_node_count (c ∷ cs) ≡ length c.nodes + image_node_count cs =
    sum_by-cons (λ (claim : ImageClaim). length claim.nodes) c cs in
    let one = leads_claim d c is two (omega (arith, few)) (omega (arith, split, room)) k.0 in
    let t = leads_claims cs (claim_told d c) refl two (omega (arith, few))
    (omega (arith, split, room)) k.1 in
    record {
      last = t.last;
      leads = leads_then d (claim_told d c) t.last (image_claim_text c)
          (flat_map image_claim_text cs) one t.leads;
      is_due = t.is_due;
      count = omega (arith, t.count);
      claims = t.claims ∙ append_assoc (closed d) (c ∷ []) cs;
    }

-- ---- the file

abbrev begun : Draft
begun = record nothing { progress = record start { due = due.Claim; version = Two } }

header_after : after nothing image_header ≡ Ok begun
unfolding after
header_after = refl

header_lacks : Lacks 10 image_header
header_lacks = All-from_recursion (λ b. (b == 10) ≡ false) image_header (
  refl,
  (
    refl,
    (
      refl,
      (refl, (refl, (refl, (refl, (refl, (refl, (refl, (refl, (refl, (refl, (refl, tt))))))))))),
    ),
  ),
)

ends_well : (n : ℕ) (d : Draft) (cs : List ImageClaim)
    → d.progress.due ≡ due.Claim
    → 0 < d.progress.claims
    → closed d ≡ cs
    → ended n d (end_fault d.progress d.progress.due) ≡ Ok (record { claims = cs })
ends_well n d cs is some same =
    let t : (d.progress.claims == 0) ≡ false = grind (arith, nat_tests, some) in
    rw (is, t, same) refl

-- a printed certificate is read as itself
pub reads_back : (c : ImageCert)
    → IsImageWithinLimits c
    → length (printed_image_certificate c) ≤ 268435456
    → image_certificate (printed_image_certificate c) ≡ Ok c
unfolding printed_image_certificate
reads_back c h few =
    let text = flat_map image_claim_text c.claims in
    let t = leads_claims c.claims begun refl refl (omega (arith, h.few)) (omega (arith, h.nodes))
    (recursion_from_All IsImageClaim c.claims h.claims) in
    let first = leads_line nothing begun image_header header_lacks header_after in
    let all = leads_then nothing begun t.last (image_header ++ 10 ∷ []) text first t.leads 1 in
    let whole : (image_header ++ 10 ∷ []) ++ text ≡ image_header ++ 10 ∷ text =
    append_assoc image_header (10 ∷ []) text in
    let read : reading after 1 nothing (lines (image_header ++ 10 ∷ text)) ≡ Ok t.last =
    ap (λ (x : Bytes). reading after 1 nothing (lines x))
    (sym whole ∙ sym (append-nil ((image_header ++ 10 ∷ []) ++ text)))
    ∙ all.1 []
    ∙ ap (λ (ls : List Bytes). reading after all.0 t.last ls) (no_lines [] refl)
    ∙ is_over after all.0 t.last in
    fits_file (image_header ++ 10 ∷ text) few
    ∙ said_is (lines (image_header ++ 10 ∷ text)) t.last read
    ∙ ends_well (length (lines (image_header ++ 10 ∷ text)) + 1) t.last c.claims t.is_due
    (omega (arith, t.count, h.some)) t.claims
