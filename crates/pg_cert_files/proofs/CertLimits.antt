-- A certificate that is read is within the limits.
use Rattle.std.proofs.Common.{◌≡◌, ℕ, zero, suc, ◌+◌, ◌-◌, ◌<◌, ◌≤◌, false, cond, ◌||◌, inl, inr}
use Rattle.std.proofs.Common.{List, [], ◌∷◌, ◌++◌, length, arith, refl, sym, ap, subst, Option}
use Rattle.std.proofs.Common.{Some, None, Result, Ok, Err}
use Rattle.std.specs.Prelude.{◌==◌, nat_lt, nat_le, fold}
use Rattle.pg_cert_files.proofs.Common.{AllByRecursion, ltb-false, or_parts, nat_tests}
use Rattle.pg_cert_files.proofs.Common.{length-append, All-from_recursion, sum_by_push, Bytes}
use Rattle.pg_cert_files.proofs.Common.{number, lines, IsNode, IsClaim, IsOfVersion, IsWithinLimits}
use Rattle.pg_cert_files.proofs.Common.{node_count, Version, Part, Node, Claim, Cert, has_bar}
use Rattle.pg_cert_files.proofs.Common.{node_line, version_of, head_of, count_of, Fault, Head}
use Rattle.pg_cert_files.proofs.Common.{ok_is, err_not, then_ok, chosen, done, HasBody, IsRead}
use Rattle.pg_cert_files.proofs.Common.{node_ok}
use Rattle.pg_cert_files.specs.CertFile.{Step, headed, claimed, claim_step, numbered, counted}
use Rattle.pg_cert_files.specs.CertFile.{behind, node_step, step_due, step, Seen, nothing, listed}
use Rattle.pg_cert_files.specs.CertFile.{taken, goes_on, after, seen, end_fault, or_at_end}
use Rattle.pg_cert_files.specs.CertFile.{fault_of, text_version, text_parts, Gathered, last_claim}
use Rattle.pg_cert_files.specs.CertFile.{closed, with_part, none_gathered, gathered, unless_faulty}
use Rattle.pg_cert_files.specs.CertFile.{certificate, at_number}
use Rattle.pg_cert_lines.specs.declared.fault.Fault.TheVariants as faults
use Rattle.pg_cert.specs.declared.part.Part.TheVariants as parts
use Rattle.pg_cert_files.specs.declared.progress.Due.{Due}
use Rattle.pg_cert_files.specs.declared.progress.Due.TheVariants as due
use Rattle.pg_cert_files.specs.declared.progress.Progress.{Progress}
use Rattle.pg_cert_files.proofs.WholeFile.{gathered_more, gathered_none}

-- claims that are whole, so many, with so many nodes, whose bodies the version has
pub record AreTold (version : Version) (claims nodes : ℕ) (cs : List Claim) : Type 0 where
  pub count : length cs ≡ claims
  pub few : claims ≤ 8
  pub each : AllByRecursion IsClaim cs
  pub sum : node_count cs ≡ nodes
  pub room : nodes ≤ 200000
  pub bodies : AllByRecursion (IsOfVersion version) cs

-- a body of the version
abbrev pub HasNodeBody : Version → Node → Type 0
HasNodeBody version node = HasBody version node.body

-- a claim whose nodes come, behind the next of which so many others stand
pub record AreComing (others : ℕ) (p : Progress) (g : Gathered) : Type 0 where
  pub head : Head
  pub is : g.head ≡ Some head
  pub claims : ℕ
  pub before : ℕ
  pub counted : p.claims ≡ claims + 1
  pub few : claims < 8
  pub whole : AreTold p.version claims before g.whole
  pub nodes : AllByRecursion IsNode g.nodes
  pub bodies : AllByRecursion (HasNodeBody p.version) g.nodes
  pub total : length g.nodes + (others + 1) ≤ 100000
  pub sum : p.nodes ≡ before + (length g.nodes + (others + 1))
  pub room : p.nodes ≤ 200000

-- what was gathered, by which line is due
abbrev pub IsSound : Due → Progress → Gathered → Type 0
IsSound due.Header p g = (g ≡ none_gathered) × (p.claims ≡ 0) × (p.nodes ≡ 0)
IsSound due.Claim p g = AreTold p.version p.claims p.nodes (closed g)
IsSound (due.Count head) p g =
    (n : ℕ) × (p.claims ≡ n + 1) × (n < 8) × AreTold p.version n p.nodes (closed g)
IsSound (due.Node others) p g = AreComing others p g

abbrev pub Next : Type 0
Next = Progress × Option Part

-- what was gathered with the part of a line fits what is due after it
abbrev pub IsKept : Gathered → Next → Type 0
IsKept g next = IsSound next.0.due next.0 (fold with_part g (listed next.1))

pub sound_headed : (p : Progress) (g : Gathered) (version : Option Version) (next : Next)
    → IsSound due.Header p g
    → headed p version ≡ Ok next
    → IsKept g next
sound_headed p g None next sound e = absurd cc
sound_headed p g (Some version) next sound e =
    let made : Next = (record p { due = due.Claim; version = version }, None) in
    subst (IsKept g) (ok_is made next e) (rw sound.0 (record {
      count = sym sound.1;
      few = omega (arith, sound.1);
      each = tt;
      sum = sym sound.2;
      room = omega (arith, sound.2);
      bodies = tt;
    }))

sound_claimed : (p : Progress) (g : Gathered) (head : Option Head) (next : Next)
    → IsSound due.Claim p g
    → claimed p head ≡ Ok next
    → IsKept g next
sound_claimed p g None next sound e = absurd cc
sound_claimed p g (Some head) next sound e =
    let made : Next = (record p { due = due.Count head; claims = p.claims + 1 }, None) in
    elim (chosen (nat_le 8 p.claims) (Err faults.Limit) (done made) (Ok next) e) [
      | inl h ↦ err_not faults.Limit next (IsKept g next) h.1
      | inr h ↦
          let few : p.claims < 8 = grind (arith, nat_tests, h.0) in
          subst (IsKept g) (ok_is made next h.1) (p.claims, refl, few, sound)
    ]

sound_claim : (p : Progress) (g : Gathered) (line : Bytes) (next : Next)
    → IsSound due.Claim p g
    → claim_step p line ≡ Ok next
    → IsKept g next
sound_claim p g line next sound e =
    elim (chosen (has_bar line) (Err faults.Place) (claimed p (head_of line)) (Ok next) e) [
      | inl h ↦ err_not faults.Place next (IsKept g next) h.1
      | inr h ↦ sound_claimed p g (head_of line) next sound h.1
    ]

sound_numbered : (head : Head) (p : Progress) (g : Gathered) (n : Option ℕ) (next : Next)
    → IsSound (due.Count head) p g
    → numbered head p n ≡ Ok next
    → IsKept g next
sound_numbered head p g None next sound e = absurd cc
sound_numbered head p g (Some n) next sound e =
    let made : Next = (
      record p { due = due.Node (n - 1); nodes = p.nodes + n },
      Some (parts.Claim head.turn head.side head.goal n),
    ) in
    elim (chosen (n == 0) (Err faults.Number)
    (cond (nat_lt 100000 n || nat_lt 200000 (p.nodes + n)) (Err faults.Limit) (done made))
    (Ok next) e) [
      | inl h ↦ err_not faults.Number next (IsKept g next) h.1
      | inr h ↦ elim (chosen (nat_lt 100000 n || nat_lt 200000 (p.nodes + n)) (Err faults.Limit)
          (done made) (Ok next) h.1) [
            | inl k ↦ err_not faults.Limit next (IsKept g next) k.1
            | inr k ↦
                let limits = or_parts (nat_lt 100000 n) (nat_lt 200000 (p.nodes + n)) k.0 in
                let some : 0 < n = grind (arith, nat_tests, h.0) in
                let few : n ≤ 100000 = ltb-false 100000 n limits.0 in
                let room : p.nodes + n ≤ 200000 = ltb-false 200000 (p.nodes + n) limits.1 in
                subst (IsKept g) (ok_is made next k.1) (record {
                  head = head;
                  is = refl;
                  claims = sound.0;
                  before = p.nodes;
                  counted = sound.1;
                  few = sound.2;
                  whole = sound.3;
                  nodes = tt;
                  bodies = tt;
                  total = omega arith;
                  sum = omega arith;
                  room = room;
                })
          ]
    ]

sound_counted : (head : Head) (p : Progress) (g : Gathered) (word : Option Bytes) (next : Next)
    → IsSound (due.Count head) p g
    → counted head p word ≡ Ok next
    → IsKept g next
sound_counted head p g None next sound e = absurd cc
sound_counted head p g (Some word) next sound e = sound_numbered head p g (number word) next sound e

pub push_each : {A : Type 0} (P : A → Type 0) (as_were : List A) (a : A)
    → AllByRecursion P as_were
    → P a
    → AllByRecursion P (as_were ++ a ∷ [])
push_each P [] a h f = (f, tt)
push_each P (b ∷ bs) a h f = (h.0, push_each P bs a h.1 f)

-- one node more, where others come
pub node_comes : (others : ℕ) (p : Progress) (d : Due) (g : Gathered) (node : Node)
    → AreComing (suc others) p g
    → IsRead p.version node
    → AreComing others (record p { due = d }) (record g { nodes = g.nodes ++ node ∷ [] })
node_comes others p d g node h fits =
    let len = length-append g.nodes (node ∷ []) in
    record {
      head = h.head;
      is = h.is;
      claims = h.claims;
      before = h.before;
      counted = h.counted;
      few = h.few;
      whole = h.whole;
      nodes = push_each IsNode g.nodes node h.nodes fits.0;
      bodies = push_each (HasNodeBody p.version) g.nodes node h.bodies fits.1;
      total = omega (arith, len, h.total);
      sum = omega (arith, len, h.sum);
      room = h.room;
    }

abbrev pub claim_with : Head → List Node → Claim
claim_with head nodes = record {
  turn = head.turn;
  side = head.side;
  goal = head.goal;
  nodes = nodes;
}

-- the last node of a claim
pub node_ends : (p : Progress) (g : Gathered) (node : Node)
    → AreComing 0 p g
    → IsRead p.version node
    → AreTold p.version p.claims p.nodes (closed (record g { nodes = g.nodes ++ node ∷ [] }))
node_ends p g node h fits =
    let len = length-append g.nodes (node ∷ []) in
    let all = g.nodes ++ node ∷ [] in
    let claim = claim_with h.head all in
    let is : closed (record g { nodes = all }) ≡ g.whole ++ claim ∷ [] =
    ap (λ (o : Option Head). g.whole ++ last_claim o all) h.is in
    let fit : IsClaim claim = record {
      some = omega (arith, len);
      few = omega (arith, len, h.total);
      nodes = All-from_recursion IsNode all (push_each IsNode g.nodes node h.nodes fits.0);
    } in
    let told : AreTold p.version p.claims p.nodes (g.whole ++ claim ∷ []) = record {
      count = omega (arith, length-append g.whole (claim ∷ []), h.whole.count, h.counted);
      few = omega (arith, h.few, h.counted);
      each = push_each IsClaim g.whole claim h.whole.each fit;
      sum = omega (
        arith,
        sum_by_push (λ (c : Claim). length c.nodes) g.whole claim,
        h.whole.sum,
        len,
        h.sum,
      );
      room = h.room;
      bodies = push_each (IsOfVersion p.version) g.whole claim h.whole.bodies
          (All-from_recursion (HasNodeBody p.version) all
          (push_each (HasNodeBody p.version) g.nodes node h.bodies fits.1));
    } in
    subst (AreTold p.version p.claims p.nodes) (sym is) told

pub behind_more : (others : ℕ) → behind (suc others) ≡ due.Node others
behind_more others =
    let some : (suc others == 0) ≡ false = grind (arith, nat_tests) in
    let less : suc others - 1 ≡ others = omega arith in
    rw (some, less) refl

sound_node : (others : ℕ) (p : Progress) (g : Gathered) (line : Bytes) (next : Next)
    → IsSound (due.Node others) p g
    → node_step others p line ≡ Ok next
    → IsKept g next
sound_node zero p g line next sound e =
    let t = then_ok (node_line p.version line)
    (λ node. done (record p { due = due.Claim }, Some (parts.Node node))) next e in
    subst (IsKept g) (ok_is (record p { due = due.Claim }, Some (parts.Node t.0)) next t.2)
    (node_ends p g t.0 sound (node_ok p.version line t.0 t.1))
sound_node (suc others) p g line next sound e =
    let q : Progress = record p { due = behind (suc others) } in
    let less : behind (suc others) ≡ due.Node others = behind_more others in
    let t = then_ok (node_line p.version line) (λ node. done (q, Some (parts.Node node))) next e in
    let comes : AreComing others q (record g { nodes = g.nodes ++ t.0 ∷ [] }) =
    node_comes others p (behind (suc others)) g t.0 sound (node_ok p.version line t.0 t.1) in
    subst (IsKept g) (ok_is (q, Some (parts.Node t.0)) next t.2)
    (subst (λ (d : Due). IsSound d q (record g { nodes = g.nodes ++ t.0 ∷ [] })) (sym less) comes)

sound_due : (d : Due) (p : Progress) (g : Gathered) (line : Bytes) (next : Next)
    → IsSound d p g
    → step_due d p line ≡ Ok next
    → IsKept g next
sound_due due.Header p g line next sound e = sound_headed p g (version_of line) next sound e
sound_due due.Claim p g line next sound e = sound_claim p g line next sound e
sound_due (due.Count head) p g line next sound e =
    sound_counted head p g (count_of line) next sound e
sound_due (due.Node others) p g line next sound e = sound_node others p g line next sound e

pub sound_step : (p : Progress) (g : Gathered) (line : Bytes) (next : Next)
    → IsSound p.due p g
    → step p line ≡ Ok next
    → IsKept g next
unfolding step
sound_step p g line next sound e = sound_due p.due p g line next sound e

-- ---- lines

-- the same after the lines so far; a faulty line changes neither
abbrev pub IsSeen : Seen → Type 0
IsSeen s = IsSound s.progress.due s.progress (gathered s.parts)

sound_taken : (s : Seen) (r : Step)
    → IsSeen s
    → ((next : Next) → r ≡ Ok next → IsKept (gathered s.parts) next)
    → IsSeen (taken s r)
sound_taken s (Ok next) seen h = subst (λ (g : Gathered). IsSound next.0.due next.0 g)
    (sym (gathered_more s.parts (listed next.1))) (h next refl)
sound_taken s (Err fault) seen h = seen

sound_goes : (s : Seen) (line : Bytes) (fault : Option (Fault × ℕ))
    → IsSeen s
    → IsSeen (goes_on fault s line)
sound_goes s line None seen = sound_taken s (step s.progress line) seen
    (λ next e. sound_step s.progress (gathered s.parts) line next seen e)
sound_goes s line (Some fault) seen = seen

pub sound_after : (s : Seen) (line : Bytes) → IsSeen s → IsSeen (after s line)
unfolding after
sound_after s line h = sound_goes s line s.fault h

sound_lines : (ls : List Bytes) (s : Seen) → IsSeen s → IsSeen (fold after s ls)
sound_lines [] s h = h
sound_lines (line ∷ ls) s h = sound_lines ls (after s line) (sound_after s line h)

pub sound_seen : (ls : List Bytes) → IsSeen (seen ls)
unfolding seen
sound_seen ls = sound_lines ls nothing (gathered_none, refl, refl)

-- ---- the end

pub end_of : (d : Due) (p : Progress) (g : Gathered)
    → IsSound d p g
    → end_fault p d ≡ None
    → AreTold p.version p.claims p.nodes (closed g) × (0 < p.claims)
end_of due.Header p g sound e = absurd cc
end_of due.Claim p g sound e = elim (chosen (p.claims == 0) (Some faults.Form) None None e) [
  | inl h ↦ absurd (cc h.1)
  | inr h ↦ (sound, grind (arith, nat_tests, h.0))
]
end_of (due.Count head) p g sound e = absurd cc
end_of (due.Node others) p g sound e = absurd cc

pub none_at : (n : ℕ) (o : Option Fault) → at_number n o ≡ None → o ≡ None
none_at n None e = refl
none_at n (Some fault) e = absurd cc

pub told_within : (version : Version) (claims nodes : ℕ) (cs : List Claim)
    → AreTold version claims nodes cs
    → 0 < claims
    → IsWithinLimits (record { version = version; claims = cs })
told_within version claims nodes cs told some = record {
  some = omega (arith, told.count);
  few = omega (arith, told.count, told.few);
  claims = All-from_recursion IsClaim cs told.each;
  nodes = omega (arith, told.sum, told.room);
  bodies = All-from_recursion (IsOfVersion version) cs told.bodies;
}

ended : (s : Seen) (fault : Option (Fault × ℕ))
    → IsSeen s
    → or_at_end s fault ≡ None
    → IsWithinLimits (record { version = s.progress.version; claims = closed (gathered s.parts) })
ended s None sound e =
    let t = end_of s.progress.due s.progress (gathered s.parts) sound
    (none_at (s.count + 1) (end_fault s.progress s.progress.due) e) in
    told_within s.progress.version s.progress.claims s.progress.nodes
    (closed (gathered s.parts)) t.0 t.1
ended s (Some fault) sound e = absurd cc

without_fault : (text : Bytes)
    → fault_of text ≡ None
    → IsWithinLimits (record {
      version = text_version text;
      claims = closed (gathered (text_parts text));
    })
unfolding fault_of text_version text_parts
without_fault text e =
    ended (seen (lines text)) (seen (lines text)).fault (sound_seen (lines text)) e

abbrev whole : Cert → Result Cert (Fault × ℕ)
whole c = Ok c

abbrev cert_or : Cert → Result Cert (Fault × ℕ) → Cert
cert_or c (Ok d) = d
cert_or c (Err bad) = c

cert_is : (c d : Cert) → whole c ≡ whole d → c ≡ d
cert_is c d e = ap (cert_or c) e

within : (o : Option (Fault × ℕ)) (version : Version) (ps : List Part) (c : Cert)
    → (o ≡ None → IsWithinLimits (record { version = version; claims = closed (gathered ps) }))
    → unless_faulty o version ps ≡ Ok c
    → IsWithinLimits c
within None version ps c h e = subst IsWithinLimits
    (cert_is (record { version = version; claims = closed (gathered ps) }) c e) (h refl)
within (Some fault) version ps c h e = absurd cc

-- what reading gives is within the limits
pub read_within : (text : Bytes) (c : Cert) → certificate text ≡ Ok c → IsWithinLimits c
unfolding certificate
read_within text c e = elim (chosen (nat_lt 268435456 (length text)) (Err (
  faults.Size,
  0,
)) (unless_faulty (fault_of text) (text_version text) (text_parts text)) (Ok c) e) [
  | inl h ↦ absurd (cc h.1)
  | inr h ↦ within (fault_of text) (text_version text) (text_parts text) c
      (λ none. without_fault text none) h.1
]
