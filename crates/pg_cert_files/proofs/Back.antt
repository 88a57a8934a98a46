-- A printed certificate is read again as the same certificate.
use Rattle.std.proofs.Common.{◌≡◌, ℕ, suc, ◌+◌, ◌-◌, ◌^◌, ◌<◌, ◌≤◌, lit<, false, List, [], ◌∷◌}
use Rattle.std.proofs.Common.{◌++◌, length, arith, refl, sym, ap, ap₂, subst, ◌∙◌, append_assoc}
use Rattle.std.proofs.Common.{Option, Some, None, Ok}
use Rattle.std.specs.Prelude.{◌==◌, nat_lt, nat_le, codes, fold}
use Rattle.pg_cert_files.proofs.Common.{decimal, flat_map, AllByRecursion, nat_tests, append-nil}
use Rattle.pg_cert_files.proofs.Common.{sum_by-cons, All-from_recursion, recursion_from_All, Side}
use Rattle.pg_cert_files.proofs.Common.{Bytes, Lacks, two_parts, four_parts, spaced, IsNode}
use Rattle.pg_cert_files.proofs.Common.{IsClaim, IsOfVersion, IsWithinLimits, node_count, side_word}
use Rattle.pg_cert_files.proofs.Common.{goal_word, node_text, claim_words, count_words, claim_text}
use Rattle.pg_cert_files.proofs.Common.{header, printed_certificate, Version, One, Two, Part, Node}
use Rattle.pg_cert_files.proofs.Common.{Claim, Cert, just_two, number_decimal, IsWord}
use Rattle.pg_cert_files.proofs.Common.{decimal_is_word, lacks_space, spaced_quiet}
use Rattle.pg_cert_files.proofs.Common.{quiet_lacks_feed, has_bar, version_of, head_of, count_of}
use Rattle.pg_cert_files.proofs.Common.{count_of_two, Fault, Head, IsRead}
use Rattle.pg_base.specs.declared.side.Side.TheVariants as sides
use Rattle.pg_base.specs.declared.goal.Goal.{Goal}
use Rattle.pg_base.specs.declared.goal.Goal.TheVariants as goals
use Rattle.pg_cert_files.specs.Lines.{cut}
use Rattle.pg_cert_files.specs.CertFile.{start, headed, behind, step, Seen, listed, taken, seen}
use Rattle.pg_cert_files.specs.CertFile.{end_fault, outcome, fault_of, text_version, text_parts}
use Rattle.pg_cert_files.specs.CertFile.{Gathered, closed, with_part, none_gathered, gathered}
use Rattle.pg_cert_files.specs.CertFile.{unless_faulty, certificate}
use Rattle.pg_cert_files.specs.Reader.{told}
use Rattle.pg_cert.specs.declared.part.Part.TheVariants as parts
use Rattle.pg_cert_files.specs.declared.progress.Due.TheVariants as due
use Rattle.pg_cert_files.specs.declared.progress.Progress.{Progress}
use Rattle.pg_cert_files.proofs.Growing.{told_line, rest_line}
use Rattle.pg_cert_files.proofs.Stands.{after_none, at_feed}
use Rattle.pg_cert_files.proofs.WholeFile.{gathered_more, gathered_none, fits_file, cert_of}
use Rattle.pg_cert_files.proofs.CertLimits.{HasNodeBody, behind_more}
use Rattle.pg_cert_lines.proofs.NodeBack.{side_is_word, node_line_text, node_back, node_lacks_feed}

-- a text of whole lines without a fault, and what they have said
pub record IsAt (text : Bytes) (p : Progress) (g : Gathered) : Type 0 where
  pub rest : (cut text).rest ≡ []
  pub fault : (told text).fault ≡ None
  pub progress : (told text).progress ≡ p
  pub parts : gathered (told text).parts ≡ g

line_read : (text line : Bytes) (p next : Progress) (part : Option Part) (g : Gathered)
    → IsAt text p g
    → Lacks 10 line
    → step p line ≡ Ok (next, part)
    → IsAt (text ++ (line ++ 10 ∷ [])) next (fold with_part g (listed part))
line_read text line p next part g at lacks stepped =
    let whole : (cut text).rest ++ line ≡ line = ap (λ (r : Bytes). r ++ line) at.rest in
    let made : step (told text).progress ((cut text).rest ++ line) ≡ Ok (next, part) =
    ap (λ (l : Bytes). step (told text).progress l) whole
    ∙ ap (λ (q : Progress). step q line) at.progress
    ∙ stepped in
    let e : told (text ++ (line ++ 10 ∷ [])) ≡ taken (told text) (Ok (next, part)) =
    told_line text line lacks
    ∙ after_none (told text) ((cut text).rest ++ line) at.fault
    ∙ ap (taken (told text)) made in
    record {
      rest = rest_line text line;
      fault = ap (λ (s : Seen). s.fault) e;
      progress = ap (λ (s : Seen). s.progress) e;
      parts = ap (λ (s : Seen). gathered s.parts) e
          ∙ gathered_more (told text).parts (listed part)
          ∙ ap (λ (x : Gathered). fold with_part x (listed part)) at.parts;
    }

-- ---- claim lines

abbrev head_is : Claim → Head
head_is c = record { turn = c.turn; side = c.side; goal = c.goal }

abbrev claim_line : Side → Side → Goal → Bytes
claim_line turn side goal =
    spaced (codes "claim" ∷ side_word turn ∷ side_word side ∷ goal_word goal ∷ [])

claim_back : (turn side : Side) (goal : Goal)
    → (has_bar (claim_line turn side goal) ≡ false)
    × (head_of (claim_line turn side goal) ≡ Some (record {
      turn = turn;
      side = side;
      goal = goal;
    }))
unfolding head_of four_parts
claim_back sides.X sides.X goals.Win = (refl, refl)
claim_back sides.X sides.X goals.Draw = (refl, refl)
claim_back sides.X sides.Y goals.Win = (refl, refl)
claim_back sides.X sides.Y goals.Draw = (refl, refl)
claim_back sides.Y sides.X goals.Win = (refl, refl)
claim_back sides.Y sides.X goals.Draw = (refl, refl)
claim_back sides.Y sides.Y goals.Win = (refl, refl)
claim_back sides.Y sides.Y goals.Draw = (refl, refl)

pub goal_is_word : (goal : Goal) → IsWord (goal_word goal)
goal_is_word goals.Win = ((lit< tt, lit< tt), ((lit< tt, lit< tt), ((lit< tt, lit< tt), tt)))
goal_is_word goals.Draw =
    ((lit< tt, lit< tt), ((lit< tt, lit< tt), ((lit< tt, lit< tt), ((lit< tt, lit< tt), tt))))

pub five_word : IsWord (codes "claim")
five_word = (
  (lit< tt, lit< tt),
  ((lit< tt, lit< tt), ((lit< tt, lit< tt), ((lit< tt, lit< tt), ((lit< tt, lit< tt), tt)))),
)

pub nodes_word : IsWord (codes "nodes")
nodes_word = (
  (lit< tt, lit< tt),
  ((lit< tt, lit< tt), ((lit< tt, lit< tt), ((lit< tt, lit< tt), ((lit< tt, lit< tt), tt)))),
)

pub claim_step_back : (p : Progress) (c : Claim)
    → p.due ≡ due.Claim
    → p.claims < 8
    → step p (spaced (claim_words c))
    ≡ Ok (record p { due = due.Count (head_is c); claims = p.claims + 1 }, None)
unfolding step
claim_step_back p c e few =
    let back = claim_back c.turn c.side c.goal in
    let t : nat_le 8 p.claims ≡ false = grind (arith, nat_tests) in
    rw (e, back.0, back.1, t) refl

-- ---- `nodes` lines

count_back : (n : ℕ) → n < 10 ^ 9 → count_of (spaced (count_words n)) ≡ Some (decimal n)
unfolding count_of
count_back n small =
    let wide : n < 2 ^ 64 = omega arith in
    let line : spaced (count_words n) ≡ codes "nodes" ++ 32 ∷ decimal n =
    ap (λ (t : Bytes). codes "nodes" ++ 32 ∷ t) (append-nil (decimal n)) in
    let two : two_parts 32 (spaced (count_words n)) ≡ Some (codes "nodes", decimal n) =
    just_two 32 (spaced (count_words n)) (codes "nodes") (decimal n) line
    (lacks_space (codes "nodes") nodes_word) (lacks_space (decimal n) (decimal_is_word n wide)) in
    ap count_of_two two

pub count_step_back : (p : Progress) (head : Head) (n : ℕ)
    → p.due ≡ due.Count head
    → 0 < n
    → n ≤ 100000
    → p.nodes + n ≤ 200000
    → step p (spaced (count_words n)) ≡ Ok (
      record p { due = due.Node (n - 1); nodes = p.nodes + n },
      Some (parts.Claim head.turn head.side head.goal n),
    )
unfolding step
count_step_back p head n e some few room =
    let word = count_back n (omega arith) in
    let num = number_decimal n (omega arith) in
    let a : (n == 0) ≡ false = grind (arith, nat_tests) in
    let b : nat_lt 100000 n ≡ false = grind (arith, nat_tests) in
    let d : nat_lt 200000 (p.nodes + n) ≡ false = grind (arith, nat_tests) in
    rw (e, word, num, a, b, d) refl

-- ---- node lines

pub node_step_back : (p : Progress) (others : ℕ) (n : Node)
    → p.due ≡ due.Node others
    → IsRead p.version n
    → step p (node_line_text n) ≡ Ok (record p { due = behind others }, Some (parts.Node n))
unfolding step
node_step_back p others n e h = let back = node_back p.version n h in rw (e, back) refl

pub node_text_is : (n : Node) → node_text n ≡ node_line_text n ++ 10 ∷ []
unfolding node_text
node_text_is n = simp append_assoc

abbrev with_nodes : Gathered → List Node → Gathered
with_nodes g nodes = record g { nodes = nodes }

node_read : (text : Bytes) (p : Progress) (g : Gathered) (others : ℕ) (n : Node)
    → IsAt text p g
    → p.due ≡ due.Node others
    → IsRead p.version n
    → IsAt (text ++ node_text n) (record p {
      due = behind others;
    }) (with_nodes g (g.nodes ++ n ∷ []))
node_read text p g others n at e h =
    let read = line_read text (node_line_text n) p (record p {
      due = behind others;
    }) (Some (parts.Node n)) g at (node_lacks_feed n h.0) (node_step_back p others n e h) in
    subst (λ (t : Bytes). IsAt (text ++ t) (record p {
      due = behind others;
    }) (with_nodes g (g.nodes ++ n ∷ []))) (sym (node_text_is n)) read

nodes_read : (ns : List Node) (text : Bytes) (p : Progress) (g : Gathered) (n : Node)
    → IsAt text p g
    → p.due ≡ due.Node (length ns)
    → IsRead p.version n
    → AllByRecursion (IsRead p.version) ns
    → IsAt (text ++ flat_map node_text (n ∷ ns)) (record p {
      due = due.Claim;
    }) (with_nodes g (g.nodes ++ n ∷ ns))
nodes_read [] text p g n at e h k = subst (λ (t : Bytes). IsAt (text ++ t) (record p {
  due = due.Claim;
}) (with_nodes g (g.nodes ++ n ∷ []))) (sym (append-nil (node_text n)))
    (node_read text p g 0 n at e h)
nodes_read (m ∷ ns) text p g n at e h k =
    let one = node_read text p g (suc (length ns)) n at e h in
    let others = nodes_read ns (text ++ node_text n) (record p {
      due = behind (suc (length ns));
    }) (with_nodes g (g.nodes ++ n ∷ [])) m one (behind_more (length ns)) k.0 k.1 in
    let more : (g.nodes ++ n ∷ []) ++ m ∷ ns ≡ g.nodes ++ n ∷ m ∷ ns =
    append_assoc g.nodes (n ∷ []) (m ∷ ns) in
    let all : (text ++ node_text n) ++ flat_map node_text (m ∷ ns)
    ≡ text ++ flat_map node_text (n ∷ m ∷ ns) =
    append_assoc text (node_text n) (flat_map node_text (m ∷ ns)) in
    subst (λ (t : Bytes). IsAt t (record p {
      due = due.Claim;
    }) (with_nodes g (g.nodes ++ n ∷ m ∷ ns))) all
    (subst
    (λ (xs : List Node). IsAt ((text ++ node_text n) ++ flat_map node_text (m ∷ ns)) (record p {
      due = due.Claim;
    }) (with_nodes g xs)) more others)

some_nodes : (ns : List Node) (text : Bytes) (p : Progress) (g : Gathered)
    → 0 < length ns
    → IsAt text p g
    → p.due ≡ due.Node (length ns - 1)
    → AllByRecursion (IsRead p.version) ns
    → IsAt (text ++ flat_map node_text ns) (record p {
      due = due.Claim;
    }) (with_nodes g (g.nodes ++ ns))
some_nodes [] text p g some at e k = absurd (omega arith)
some_nodes (n ∷ ns) text p g some at e k =
    let less : suc (length ns) - 1 ≡ length ns = omega arith in
    nodes_read ns text p g n at (e ∙ ap (λ (x : ℕ). due.Node x) less) k.0 k.1

-- ---- claims

all_read : (version : Version) (ns : List Node)
    → AllByRecursion IsNode ns
    → AllByRecursion (HasNodeBody version) ns
    → AllByRecursion (IsRead version) ns
all_read version [] h k = tt
all_read version (n ∷ ns) h k = ((h.0, k.0), all_read version ns h.1 k.1)

joined : (text a b d : Bytes)
    → ((text ++ (a ++ 10 ∷ [])) ++ (b ++ 10 ∷ [])) ++ d ≡ text ++ (a ++ 10 ∷ (b ++ 10 ∷ d))
joined text a b d = simp append_assoc

claim_read : (text : Bytes) (p : Progress) (g : Gathered) (c : Claim)
    → IsAt text p g
    → p.due ≡ due.Claim
    → p.claims < 8
    → p.nodes + length c.nodes ≤ 200000
    → IsClaim c
    → IsOfVersion p.version c
    → IsAt (text ++ claim_text c) (record p {
      due = due.Claim;
      claims = p.claims + 1;
      nodes = p.nodes + length c.nodes;
    }) (record { whole = closed g; head = Some (head_is c); nodes = c.nodes })
unfolding claim_text
claim_read text p g c at e few room h has =
    let first = spaced (claim_words c) ++ 10 ∷ [] in
    let second = spaced (count_words (length c.nodes)) ++ 10 ∷ [] in
    let n = length c.nodes in
    let p1 : Progress = record p { due = due.Count (head_is c); claims = p.claims + 1 } in
    let p2 : Progress = record p1 { due = due.Node (n - 1); nodes = p.nodes + n } in
    let told1 = line_read text (spaced (claim_words c)) p p1 None g at
    (quiet_lacks_feed (spaced (claim_words c)) (spaced_quiet (claim_words c) (
      five_word,
      (side_is_word c.turn, (side_is_word c.side, (goal_is_word c.goal, tt))),
    ))) (claim_step_back p c e few) in
    let told2 = line_read (text ++ first) (spaced (count_words n)) p1 p2
    (Some (parts.Claim c.turn c.side c.goal n)) g told1
    (quiet_lacks_feed (spaced (count_words n)) (spaced_quiet (count_words n) (
      nodes_word,
      (decimal_is_word n (omega (arith, h.few)), tt),
    ))) (count_step_back p1 (head_is c) n refl h.some h.few room) in
    let told3 = some_nodes c.nodes ((text ++ first) ++ second) p2 (record {
      whole = closed g;
      head = Some (head_is c);
      nodes = [];
    }) h.some told2 refl
    (all_read p.version c.nodes (recursion_from_All IsNode c.nodes h.nodes)
    (recursion_from_All (HasNodeBody p.version) c.nodes has)) in
    let all : ((text ++ first) ++ second) ++ flat_map node_text c.nodes ≡ text ++ (spaced
    (claim_words c) ++ 10 ∷ (spaced (count_words n) ++ 10 ∷ flat_map node_text c.nodes)) =
    joined text (spaced (claim_words c)) (spaced (count_words n)) (flat_map node_text c.nodes) in
    subst (λ (t : Bytes). IsAt t (record p2 { due = due.Claim }) (record {
      whole = closed g;
      head = Some (head_is c);
      nodes = c.nodes;
    })) all told3

claims_read : (cs : List Claim) (text : Bytes) (p : Progress) (g : Gathered)
    → IsAt text p g
    → p.due ≡ due.Claim
    → p.claims + length cs ≤ 8
    → p.nodes + node_count cs ≤ 200000
    → AllByRecursion IsClaim cs
    → AllByRecursion (IsOfVersion p.version) cs
    → (q : Progress) × (h : Gathered) × IsAt (text ++ flat_map claim_text cs) q h
    × (q.due ≡ due.Claim)
    × (q.claims ≡ p.claims + length cs)
    × (closed h ≡ closed g ++ cs)
    × (q.version ≡ p.version)
claims_read [] text p g at e few room k has = (
  p,
  g,
  subst (λ (t : Bytes). IsAt t p g) (sym (append-nil text)) at,
  e,
  omega arith,
  sym (append-nil (closed g)),
  refl,
)
claims_read (c ∷ cs) text p g at e few room k has =
    let split : node_count (c ∷ cs) ≡ length c.nodes + node_count cs =
    sum_by-cons (λ (claim : Claim). length claim.nodes) c cs in
    let one = claim_read text p g c at e (omega arith) (omega (arith, split)) k.0 has.0 in
    let p1 : Progress = record p {
      due = due.Claim;
      claims = p.claims + 1;
      nodes = p.nodes + length c.nodes;
    } in
    let g1 : Gathered = record { whole = closed g; head = Some (head_is c); nodes = c.nodes } in
    let t = claims_read cs (text ++ claim_text c) p1 g1 one refl (omega arith)
    (omega (arith, split)) k.1 has.1 in
    let all : (text ++ claim_text c) ++ flat_map claim_text cs
    ≡ text ++ flat_map claim_text (c ∷ cs) =
    append_assoc text (claim_text c) (flat_map claim_text cs) in (
      t.0,
      t.1,
      subst (λ (x : Bytes). IsAt x t.0 t.1) all t.2,
      t.3,
      omega (arith, t.4),
      t.5 ∙ append_assoc (closed g) (c ∷ []) cs,
      t.6,
    )

-- ---- the file

at_start : IsAt [] start none_gathered
unfolding cut seen
at_start = record { rest = refl; fault = refl; progress = refl; parts = gathered_none }

header_lacks : (version : Version) → Lacks 10 (header version)
header_lacks One = All-from_recursion (λ b. (b == 10) ≡ false) (header One) (
  refl,
  (
    refl,
    (
      refl,
      (refl, (refl, (refl, (refl, (refl, (refl, (refl, (refl, (refl, (refl, (refl, tt))))))))))),
    ),
  ),
)
header_lacks Two = All-from_recursion (λ b. (b == 10) ≡ false) (header Two) (
  refl,
  (
    refl,
    (
      refl,
      (refl, (refl, (refl, (refl, (refl, (refl, (refl, (refl, (refl, (refl, (refl, tt))))))))))),
    ),
  ),
)

header_back : (version : Version) → version_of (header version) ≡ Some version
header_back One = refl
header_back Two = refl

after_header : (version : Version)
    → IsAt (header version ++ 10 ∷ []) (record start {
      due = due.Claim;
      version = version;
    }) none_gathered
unfolding step
after_header version = line_read [] (header version) start (record start {
  due = due.Claim;
  version = version;
}) None none_gathered at_start (header_lacks version) (ap (headed start) (header_back version))

at_outcome : (s : Seen) (p : Progress)
    → s.fault ≡ None
    → s.progress ≡ p
    → end_fault p p.due ≡ None
    → outcome s ≡ None
at_outcome s p fault progress ends = rw (fault, progress, ends) refl

closed_none : (text : Bytes) (p : Progress) (g : Gathered) (claims : List Claim)
    → IsAt text p g
    → p.due ≡ due.Claim
    → 0 < p.claims
    → closed g ≡ claims
    → length text ≤ 268435456
    → certificate text ≡ Ok (record { version = p.version; claims = claims })
unfolding fault_of text_version text_parts
closed_none text p g claims at e some is few =
    let all = at_feed text at.rest in
    let t : (p.claims == 0) ≡ false = grind (arith, nat_tests) in
    let ends : end_fault p p.due ≡ None = rw (e, t) refl in
    let fault : outcome (told text) ≡ None = at_outcome (told text) p at.fault at.progress ends in
    let none : fault_of text ≡ None = ap outcome all ∙ fault in
    let gives : closed (gathered (text_parts text)) ≡ claims =
    ap (λ (s : Seen). closed (gathered s.parts)) all ∙ ap (λ (x : Gathered). closed x) at.parts
    ∙ is in
    let named : text_version text ≡ p.version =
    ap (λ (s : Seen). s.progress.version) all ∙ ap (λ (q : Progress). q.version) at.progress in
    fits_file text few
    ∙ ap (λ (o : Option (Fault × ℕ)). unless_faulty o (text_version text) (text_parts text)) none
    ∙ ap₂ (λ (v : Version) (cs : List Claim). cert_of v cs) named gives

-- a printed certificate is read as itself
pub reads_back : (c : Cert)
    → IsWithinLimits c
    → length (printed_certificate c) ≤ 268435456
    → certificate (printed_certificate c) ≡ Ok c
unfolding printed_certificate
reads_back c h few =
    let first = header c.version in
    let t = claims_read c.claims (first ++ 10 ∷ []) (record start {
      due = due.Claim;
      version = c.version;
    }) none_gathered (after_header c.version) refl (omega (arith, h.few)) (omega (arith, h.nodes))
    (recursion_from_All IsClaim c.claims h.claims)
    (recursion_from_All (IsOfVersion c.version) c.claims h.bodies) in
    let all : (first ++ 10 ∷ []) ++ flat_map claim_text c.claims
    ≡ first ++ 10 ∷ flat_map claim_text c.claims =
    append_assoc first (10 ∷ []) (flat_map claim_text c.claims) in
    closed_none (first ++ 10 ∷ flat_map claim_text c.claims) t.0 t.1 c.claims
    (subst (λ (x : Bytes). IsAt x t.0 t.1) all t.2) t.3 (omega (arith, t.4, h.some)) t.5 few
    ∙ ap (λ (v : Version). cert_of v c.claims) t.6
