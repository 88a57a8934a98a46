-- The parts that lines make begin those of a certificate within the limits, and at a good end they
-- are all of them.
use Rattle.std.proofs.Common.{◌≡◌, ℕ, zero, suc, ◌+◌, ◌-◌, ◌<◌, ◌≤◌, cond, ◌||◌, inl, inr, List, []}
use Rattle.std.proofs.Common.{◌∷◌, ◌++◌, length, map, arith, refl, sym, ap, subst, ◌∙◌}
use Rattle.std.proofs.Common.{append_assoc, Option, Some, None, Ok, Err}
use Rattle.std.specs.Prelude.{◌==◌, nat_lt, nat_le, fold}
use Rattle.pg_cert_files.proofs.Common.{empty, contains-empty, AllByRecursion, nat_cmp, nat_tests}
use Rattle.pg_cert_files.proofs.Common.{append-nil, length-append, map-append, All-from_recursion}
use Rattle.pg_cert_files.proofs.Common.{sum_by_push, fold-append, X, Bytes, number, lines, IsNode}
use Rattle.pg_cert_files.proofs.Common.{IsClaim, IsOfVersion, IsWithinLimits, claim_parts}
use Rattle.pg_cert_files.proofs.Common.{all_parts, BeginCert, Cert, Claim, Version, One, Two, Node}
use Rattle.pg_cert_files.proofs.Common.{Part, has_bar, version_of, head_of, count_of, node_line}
use Rattle.pg_cert_files.proofs.Common.{Fault, Head, ok_is, err_not, then_ok, chosen, done}
use Rattle.std.proofs.lemmas.Grind.{flat_map-append}
use Rattle.pg_base.specs.declared.goal.Goal.TheVariants.{Win}
use Rattle.pg_cert.specs.declared.node.Body.TheVariants.{Over}
use Rattle.pg_cert.specs.declared.part.Part.TheVariants as parts
use Rattle.pg_cert_files.specs.CertFile.{Step, headed, claimed, claim_step, numbered, counted}
use Rattle.pg_cert_files.specs.CertFile.{behind, node_step, step_due, step, Seen, nothing, listed}
use Rattle.pg_cert_files.specs.CertFile.{taken, goes_on, after, seen, end_fault, or_at_end}
use Rattle.pg_cert_files.specs.CertFile.{Gathered, last_claim, closed, with_part, none_gathered}
use Rattle.pg_cert_files.specs.CertFile.{gathered, fault_of, text_parts}
use Rattle.pg_cert_files.specs.Reader.{told}
use Rattle.pg_cert_lines.specs.declared.fault.Fault.TheVariants as faults
use Rattle.pg_cert_files.specs.declared.progress.Due.{Due}
use Rattle.pg_cert_files.specs.declared.progress.Due.TheVariants as due
use Rattle.pg_cert_files.specs.declared.progress.Progress.{Progress}
use Rattle.pg_cert_files.proofs.WholeFile.{gathered_more, gathered_none}
use Rattle.pg_cert_files.proofs.CertLimits.{HasNodeBody, AreTold, AreComing, IsSound, Next, IsSeen}
use Rattle.pg_cert_files.proofs.CertLimits.{sound_after, sound_seen, told_within, push_each}
use Rattle.pg_cert_files.proofs.CertLimits.{claim_with, behind_more, none_at}

-- ---- the parts by what was gathered of them

-- a claim's own part
abbrev head_part : Head → ℕ → Part
head_part head n = parts.Claim head.turn head.side head.goal n

-- the parts of a claim whose nodes come
abbrev coming_parts : Option Head → ℕ → List Node → List Part
coming_parts None n nodes = []
coming_parts (Some head) n nodes = head_part head n ∷ map parts.Node nodes

-- the parts so far, by which line is due
abbrev AreMade : Due → Gathered → List Part → Type 0
AreMade due.Header g ps = ps ≡ []
AreMade due.Claim g ps = ps ≡ all_parts (closed g)
AreMade (due.Count head) g ps = ps ≡ all_parts (closed g)
AreMade (due.Node others) g ps =
    ps ≡ all_parts g.whole ++ coming_parts g.head (length g.nodes + (others + 1)) g.nodes

-- the parts with that of a line
abbrev AreMore : Gathered → List Part → Next → Type 0
AreMore g ps next = AreMade next.0.due (fold with_part g (listed next.1)) (ps ++ listed next.1)

claim_ends : (whole : List Claim) (head : Head) (nodes : List Node)
    → all_parts (whole ++ claim_with head nodes ∷ [])
    ≡ all_parts whole ++ coming_parts (Some head) (length nodes) nodes
claim_ends whole head nodes = flat_map-append claim_parts whole (claim_with head nodes ∷ [])
    ∙ ap (λ (x : List Part). all_parts whole ++ x)
    (append-nil (claim_parts (claim_with head nodes)))

nodes_more : (whole : List Claim) (head : Head) (n : ℕ) (nodes more : List Node)
    → (all_parts whole ++ coming_parts (Some head) n nodes) ++ map parts.Node more
    ≡ all_parts whole ++ coming_parts (Some head) n (nodes ++ more)
nodes_more whole head n nodes more =
    append_assoc (all_parts whole) (coming_parts (Some head) n nodes) (map parts.Node more)
    ∙ ap (λ (x : List Part). all_parts whole ++ head_part head n ∷ x)
    (sym (map-append parts.Node nodes more))

-- ---- each line

made_headed : (p : Progress) (g : Gathered) (ps : List Part) (version : Option Version)
    (next : Next)
    → IsSound due.Header p g
    → AreMade due.Header g ps
    → headed p version ≡ Ok next
    → AreMore g ps next
made_headed p g ps None next sound made e = absurd cc
made_headed p g ps (Some version) next sound made e =
    subst (AreMore g ps) (ok_is (record p { due = due.Claim; version = version }, None) next e)
    (append-nil ps ∙ made ∙ rw sound.0 refl)

made_claimed : (p : Progress) (g : Gathered) (ps : List Part) (head : Option Head) (next : Next)
    → AreMade due.Claim g ps
    → claimed p head ≡ Ok next
    → AreMore g ps next
made_claimed p g ps None next made e = absurd cc
made_claimed p g ps (Some head) next made e =
    let is : Next = (record p { due = due.Count head; claims = p.claims + 1 }, None) in
    elim (chosen (nat_le 8 p.claims) (Err faults.Limit) (done is) (Ok next) e) [
      | inl h ↦ err_not faults.Limit next (AreMore g ps next) h.1
      | inr h ↦ subst (AreMore g ps) (ok_is is next h.1) (append-nil ps ∙ made)
    ]

made_claim : (p : Progress) (g : Gathered) (ps : List Part) (line : Bytes) (next : Next)
    → AreMade due.Claim g ps
    → claim_step p line ≡ Ok next
    → AreMore g ps next
made_claim p g ps line next made e =
    elim (chosen (has_bar line) (Err faults.Place) (claimed p (head_of line)) (Ok next) e) [
      | inl h ↦ err_not faults.Place next (AreMore g ps next) h.1
      | inr h ↦ made_claimed p g ps (head_of line) next made h.1
    ]

made_numbered : (head : Head) (p : Progress) (g : Gathered) (ps : List Part) (n : Option ℕ)
    (next : Next)
    → AreMade (due.Count head) g ps
    → numbered head p n ≡ Ok next
    → AreMore g ps next
made_numbered head p g ps None next made e = absurd cc
made_numbered head p g ps (Some n) next made e =
    let is : Next =
    (record p { due = due.Node (n - 1); nodes = p.nodes + n }, Some (head_part head n)) in
    elim (chosen (n == 0) (Err faults.Number)
    (cond (nat_lt 100000 n || nat_lt 200000 (p.nodes + n)) (Err faults.Limit) (done is))
    (Ok next) e) [
      | inl h ↦ err_not faults.Number next (AreMore g ps next) h.1
      | inr h ↦ elim (chosen (nat_lt 100000 n || nat_lt 200000 (p.nodes + n)) (Err faults.Limit)
          (done is) (Ok next) h.1) [
            | inl k ↦ err_not faults.Limit next (AreMore g ps next) k.1
            | inr k ↦
                let some : 0 < n = grind (arith, nat_tests, h.0) in
                let same : n ≡ length {A = Node} [] + ((n - 1) + 1) = omega (arith, some) in
                subst (AreMore g ps) (ok_is is next k.1)
                (ap (λ (x : List Part). x ++ head_part head n ∷ []) made
                ∙ ap (λ (c : ℕ). all_parts (closed g) ++ head_part head c ∷ []) same)
          ]
    ]

made_counted : (head : Head) (p : Progress) (g : Gathered) (ps : List Part) (word : Option Bytes)
    (next : Next)
    → AreMade (due.Count head) g ps
    → counted head p word ≡ Ok next
    → AreMore g ps next
made_counted head p g ps None next made e = absurd cc
made_counted head p g ps (Some word) next made e =
    made_numbered head p g ps (number word) next made e

-- one node more of a claim with so many
node_more : (g : Gathered) (head : Head) (n : ℕ) (ps : List Part) (node : Node)
    → g.head ≡ Some head
    → ps ≡ all_parts g.whole ++ coming_parts g.head n g.nodes
    → ps ++ parts.Node node ∷ []
    ≡ all_parts g.whole ++ coming_parts (Some head) n (g.nodes ++ node ∷ [])
node_more g head n ps node is made = ap (λ (x : List Part). x ++ parts.Node node ∷ [])
    (made ∙ ap (λ (o : Option Head). all_parts g.whole ++ coming_parts o n g.nodes) is)
    ∙ nodes_more g.whole head n g.nodes (node ∷ [])

made_node : (others : ℕ) (p : Progress) (g : Gathered) (ps : List Part) (line : Bytes) (next : Next)
    → IsSound (due.Node others) p g
    → AreMade (due.Node others) g ps
    → node_step others p line ≡ Ok next
    → AreMore g ps next
made_node zero p g ps line next sound made e =
    let t = then_ok (node_line p.version line)
    (λ node. done (record p { due = due.Claim }, Some (parts.Node node))) next e in
    let all = g.nodes ++ t.0 ∷ [] in
    let count : length g.nodes + 1 ≡ length all = sym (length-append g.nodes (t.0 ∷ [])) in
    let is : closed (record g { nodes = all }) ≡ g.whole ++ claim_with sound.head all ∷ [] =
    ap (λ (o : Option Head). g.whole ++ last_claim o all) sound.is in
    subst (AreMore g ps) (ok_is (record p { due = due.Claim }, Some (parts.Node t.0)) next t.2)
    (node_more g sound.head (length g.nodes + 1) ps t.0 sound.is made
    ∙ ap (λ (c : ℕ). all_parts g.whole ++ coming_parts (Some sound.head) c all) count
    ∙ sym (ap (λ (cs : List Claim). all_parts cs) is ∙ claim_ends g.whole sound.head all))
made_node (suc others) p g ps line next sound made e =
    let q : Progress = record p { due = behind (suc others) } in
    let t = then_ok (node_line p.version line) (λ node. done (q, Some (parts.Node node))) next e in
    let all = g.nodes ++ t.0 ∷ [] in
    let count : length g.nodes + (suc others + 1) ≡ length all + (others + 1) =
    omega (arith, length-append g.nodes (t.0 ∷ [])) in
    let more : AreMade (due.Node others) (record g { nodes = all }) (ps ++ parts.Node t.0 ∷ []) =
    node_more g sound.head (length g.nodes + (suc others + 1)) ps t.0 sound.is made
    ∙ ap (λ (c : ℕ). all_parts g.whole ++ coming_parts (Some sound.head) c all) count
    ∙ ap (λ (o : Option Head). all_parts g.whole ++ coming_parts o (length all + (others + 1)) all)
    (sym sound.is) in
    subst (AreMore g ps) (ok_is (q, Some (parts.Node t.0)) next t.2)
    (subst (λ (d : Due). AreMade d (record g { nodes = all }) (ps ++ parts.Node t.0 ∷ []))
    (sym (behind_more others)) more)

made_due : (d : Due) (p : Progress) (g : Gathered) (ps : List Part) (line : Bytes) (next : Next)
    → IsSound d p g
    → AreMade d g ps
    → step_due d p line ≡ Ok next
    → AreMore g ps next
made_due due.Header p g ps line next sound made e =
    made_headed p g ps (version_of line) next sound made e
made_due due.Claim p g ps line next sound made e = made_claim p g ps line next made e
made_due (due.Count head) p g ps line next sound made e =
    made_counted head p g ps (count_of line) next made e
made_due (due.Node others) p g ps line next sound made e =
    made_node others p g ps line next sound made e

made_step : (p : Progress) (g : Gathered) (ps : List Part) (line : Bytes) (next : Next)
    → IsSound p.due p g
    → AreMade p.due g ps
    → step p line ≡ Ok next
    → AreMore g ps next
unfolding step
made_step p g ps line next sound made e = made_due p.due p g ps line next sound made e

-- ---- lines

abbrev AreSeen : Seen → Type 0
AreSeen s = AreMade s.progress.due (gathered s.parts) s.parts

made_taken : (s : Seen) (r : Step)
    → AreSeen s
    → ((next : Next) → r ≡ Ok next → AreMore (gathered s.parts) s.parts next)
    → AreSeen (taken s r)
made_taken s (Ok next) made h =
    subst (λ (g : Gathered). AreMade next.0.due g (s.parts ++ listed next.1))
    (sym (gathered_more s.parts (listed next.1))) (h next refl)
made_taken s (Err fault) made h = made

made_goes : (s : Seen) (line : Bytes) (fault : Option (Fault × ℕ))
    → IsSeen s
    → AreSeen s
    → AreSeen (goes_on fault s line)
made_goes s line None sound made = made_taken s (step s.progress line) made
    (λ next e. made_step s.progress (gathered s.parts) s.parts line next sound made e)
made_goes s line (Some fault) sound made = made

made_after : (s : Seen) (line : Bytes) → IsSeen s → AreSeen s → AreSeen (after s line)
unfolding after
made_after s line sound made = made_goes s line s.fault sound made

made_lines : (ls : List Bytes) (s : Seen) → IsSeen s → AreSeen s → AreSeen (fold after s ls)
made_lines [] s sound made = made
made_lines (line ∷ ls) s sound made =
    made_lines ls (after s line) (sound_after s line sound) (made_after s line sound made)

made_seen : (ls : List Bytes) → AreSeen (seen ls)
unfolding seen
made_seen ls = made_lines ls nothing (gathered_none, refl, refl) refl

-- ---- a certificate that goes on as the lines began

-- a node to fill with
abbrev filler : Node
filler = record { x = empty; y = empty; turn = X; left = 1; body = Over }

abbrev fill : ℕ → List Node
fill zero = []
fill (suc n) = filler ∷ fill n

fill_length : (n : ℕ) → length (fill n) ≡ n
fill_length zero = refl
fill_length (suc n) = ap (λ (k : ℕ). suc k) (fill_length n)

filler_fits : IsNode filler
filler_fits = record {
  x = λ v e. let none = contains-empty nat_cmp v in absurd (cc (sym none ∙ e));
  y = λ v e. let none = contains-empty nat_cmp v in absurd (cc (sym none ∙ e));
  apart = λ v e. contains-empty nat_cmp v;
  turn = refl;
  body = tt;
}

filler_has : (version : Version) → HasNodeBody version filler
filler_has One = refl
filler_has Two = refl

filled : (P : Node → Type 0)
    → P filler
    → (nodes : List Node) (n : ℕ) → AllByRecursion P nodes
    → AllByRecursion P (nodes ++ fill n)
filled P one [] zero h = tt
filled P one [] (suc n) h = (one, filled P one [] n tt)
filled P one (node ∷ nodes) n h = (h.0, filled P one nodes n h.1)

abbrev with_claim : Version → List Claim → Head → List Node → Cert
with_claim version whole head nodes =
    record { version = version; claims = whole ++ claim_with head nodes ∷ [] }

-- one claim more, whose nodes are in range
within_more : (version : Version) (claims before total : ℕ) (whole : List Claim) (head : Head)
    (nodes : List Node)
    → AreTold version claims before whole
    → claims < 8
    → AllByRecursion IsNode nodes
    → AllByRecursion (HasNodeBody version) nodes
    → 0 < length nodes
    → length nodes ≤ 100000
    → total ≡ before + length nodes
    → total ≤ 200000
    → IsWithinLimits (with_claim version whole head nodes)
within_more version claims before total whole head nodes told few each has some most sum room =
    let claim = claim_with head nodes in
    let len = length-append whole (claim ∷ []) in
    let fit : IsClaim claim = record {
      some = some;
      few = most;
      nodes = All-from_recursion IsNode nodes each;
    } in
    record {
      some = omega (arith, len);
      few = omega (arith, len, told.count, few);
      claims = All-from_recursion IsClaim (whole ++ claim ∷ [])
          (push_each IsClaim whole claim told.each fit);
      nodes = omega (
        arith,
        sum_by_push (λ (c : Claim). length c.nodes) whole claim,
        told.sum,
        sum,
        room,
      );
      bodies = All-from_recursion (IsOfVersion version) (whole ++ claim ∷ [])
          (push_each (IsOfVersion version) whole claim told.bodies
          (All-from_recursion (HasNodeBody version) nodes has));
    }

abbrev any_head : Head
any_head = record { turn = X; side = X; goal = Win }

none_told : AreTold One 0 0 []
none_told = record {
  count = refl;
  few = omega arith;
  each = tt;
  sum = refl;
  room = omega arith;
  bodies = tt;
}

-- nothing begins any certificate
begin_none : (ps : List Part) → ps ≡ [] → BeginCert ps
begin_none ps none = record {
  cert = with_claim One [] any_head (fill 1);
  limits = within_more One 0 0 1 [] any_head (fill 1) none_told (omega arith)
      (filled IsNode filler_fits [] 1 tt) (filled (HasNodeBody One) refl [] 1 tt) (omega arith)
      (omega arith) refl (omega arith);
  rest = all_parts (claim_with any_head (fill 1) ∷ []);
  parts = rw none refl;
}

begin_whole : (version : Version) (claims nodes : ℕ) (cs : List Claim) (ps : List Part)
    → AreTold version claims nodes cs
    → ps ≡ all_parts cs
    → BeginCert ps
begin_whole version claims nodes [] ps told made = begin_none ps made
begin_whole version claims nodes (c ∷ cs) ps told made = record {
  cert = record { version = version; claims = c ∷ cs };
  limits = told_within version claims nodes (c ∷ cs) told (omega (arith, told.count));
  rest = [];
  parts = append-nil ps ∙ made;
}

begin_coming : (others : ℕ) (p : Progress) (g : Gathered) (ps : List Part)
    → AreComing others p g
    → AreMade (due.Node others) g ps
    → BeginCert ps
begin_coming others p g ps sound made =
    let more = fill (others + 1) in
    let all = g.nodes ++ more in
    let count : length all ≡ length g.nodes + (others + 1) =
    length-append g.nodes more ∙ ap (λ (k : ℕ). length g.nodes + k) (fill_length (others + 1)) in
    record {
      cert = with_claim p.version g.whole sound.head all;
      limits = within_more p.version sound.claims sound.before p.nodes g.whole sound.head all
          sound.whole sound.few (filled IsNode filler_fits g.nodes (others + 1) sound.nodes)
          (filled (HasNodeBody p.version) (filler_has p.version) g.nodes (others + 1) sound.bodies)
          (omega (arith, count)) (omega (arith, count, sound.total))
          (omega (arith, count, sound.sum)) sound.room;
      rest = map parts.Node more;
      parts = ap (λ (x : List Part). x ++ map parts.Node more) (made
          ∙ ap (λ (o : Option Head).
          all_parts g.whole ++ coming_parts o (length g.nodes + (others + 1)) g.nodes) sound.is)
          ∙ nodes_more g.whole sound.head (length g.nodes + (others + 1)) g.nodes more
          ∙ ap (λ (k : ℕ). all_parts g.whole ++ coming_parts (Some sound.head) k all) (sym count)
          ∙ sym (claim_ends g.whole sound.head all);
    }

begin_due : (d : Due) (p : Progress) (g : Gathered) (ps : List Part)
    → IsSound d p g
    → AreMade d g ps
    → BeginCert ps
begin_due due.Header p g ps sound made = begin_none ps made
begin_due due.Claim p g ps sound made =
    begin_whole p.version p.claims p.nodes (closed g) ps sound made
begin_due (due.Count head) p g ps sound made =
    begin_whole p.version sound.0 p.nodes (closed g) ps sound.3 made
begin_due (due.Node others) p g ps sound made = begin_coming others p g ps sound made

-- the parts of any lines begin a certificate, also where a fault comes later
pub begin_seen : (ls : List Bytes) → BeginCert (seen ls).parts
begin_seen ls = begin_due (seen ls).progress.due (seen ls).progress (gathered (seen ls).parts)
    (seen ls).parts (sound_seen ls) (made_seen ls)

-- ---- the end

made_end : (d : Due) (p : Progress) (g : Gathered) (ps : List Part)
    → AreMade d g ps
    → end_fault p d ≡ None
    → ps ≡ all_parts (closed g)
made_end due.Header p g ps made e = absurd cc
made_end due.Claim p g ps made e = made
made_end (due.Count head) p g ps made e = absurd cc
made_end (due.Node others) p g ps made e = absurd cc

made_whole : (s : Seen) (fault : Option (Fault × ℕ))
    → AreSeen s
    → or_at_end s fault ≡ None
    → s.parts ≡ all_parts (closed (gathered s.parts))
made_whole s None made e = made_end s.progress.due s.progress (gathered s.parts) s.parts made
    (none_at (s.count + 1) (end_fault s.progress s.progress.due) e)
made_whole s (Some fault) made e = absurd cc

-- without a fault they are all of it
pub all_made : (text : Bytes)
    → fault_of text ≡ None
    → text_parts text ≡ all_parts (closed (gathered (text_parts text)))
unfolding fault_of text_parts
all_made text e =
    made_whole (seen (lines text)) (seen (lines text)).fault (made_seen (lines text)) e

-- ---- parts that are gathered

nodes_gathered : (nodes : List Node) (g : Gathered)
    → fold with_part g (map parts.Node nodes) ≡ record g { nodes = g.nodes ++ nodes }
nodes_gathered [] g = ap (λ (ns : List Node). record g { nodes = ns }) (sym (append-nil g.nodes))
nodes_gathered (node ∷ nodes) g = nodes_gathered nodes (record g { nodes = g.nodes ++ node ∷ [] })
    ∙ ap (λ (ns : List Node). record g { nodes = ns }) (append_assoc g.nodes (node ∷ []) nodes)

claims_gathered : (cs : List Claim) (g : Gathered)
    → closed (fold with_part g (all_parts cs)) ≡ closed g ++ cs
claims_gathered [] g = sym (append-nil (closed g))
claims_gathered (c ∷ cs) g =
    let head : Head = record { turn = c.turn; side = c.side; goal = c.goal } in
    let whole : Gathered = record { whole = closed g; head = Some head; nodes = c.nodes } in
    let one : fold with_part g (claim_parts c) ≡ whole = nodes_gathered c.nodes (record {
      whole = closed g;
      head = Some head;
      nodes = [];
    }) in
    ap (λ (x : Gathered). closed x) (fold-append with_part g (claim_parts c) (all_parts cs))
    ∙ ap (λ (x : Gathered). closed (fold with_part x (all_parts cs))) one
    ∙ claims_gathered cs whole
    ∙ append_assoc (closed g) (c ∷ []) cs

-- a certificate's parts gather to its claims
pub parts_gathered : (cs : List Claim) → closed (gathered (all_parts cs)) ≡ cs
unfolding gathered
parts_gathered cs = claims_gathered cs none_gathered
