-- One part more, by what stands for the parts before.
use Rattle.std.proofs.Common.{◌≡◌, ◌∙◌, ℕ, zero, suc, ◌+◌, ◌<◌, ◌≤◌, List, [], ◌∷◌, ◌++◌, length}
use Rattle.std.proofs.Common.{map, drop, take, false, true, Option, Some, None, refl, sym, ap}
use Rattle.std.proofs.Common.{subst, arith}
use Rattle.std.specs.Prelude.{is_some}
use Rattle.pg_check.proofs.Common.{slice_get_within, Game, Position, length-append, position_of}
use Rattle.pg_check.proofs.Common.{fault_number, IsSound, IsFirstFault, AreSoundBefore, IsValid}
use Rattle.pg_check.proofs.Common.{IsValidClaim, Cert, Claim, Node, NodeFault, IsWithinLimits}
use Rattle.pg_check.proofs.Common.{IsNode, all_parts, parts_of, Part, kept, AreMarksOf}
use Rattle.pg_check.specs.Checking.{AreValidBefore, IsInHand, AreNext, Stands, StandsFor}
use Rattle.pg_check.specs.Tester.{IsReadyFor}
use Rattle.pg_check.specs.declared.checking.Checking.{Checking}
use Rattle.pg_check.specs.declared.checking.Rejected.{Rejected}
use Rattle.pg_check.specs.Present.{IsSoundSoFar, IsLeastSoFar, IsKnownOf}
use Rattle.pg_cert.specs.declared.part.Part.TheVariants as parts
use Rattle.pg_check.specs.declared.present.Present.{Present}
use Rattle.pg_check.proofs.ClaimLemmas.{one_more, up_to_end}
use Rattle.pg_check.proofs.KnownNodes.{sound-in, least-in, known-more}
use Rattle.pg_check.proofs.PartSteps.{next-node, next-claim, claim-at, no_node_first}
use Rattle.pg_check.proofs.ForcedNodes.{claim_limits, node_limits}

-- a sound node
pub hand-more : (g : Game) (c next : Present) (begun : ℕ) (cert : Cert) (n : Node)
    (rest : List Part)
    → AreMarksOf g next.marks
    → IsSoundSoFar g c (length (kept c.marks)) n
    → (kept next.marks) ≡ (kept c.marks) ++ position_of n ∷ []
    → length (kept next.marks) ≡ length (kept c.marks) + 1
    → next.turn ≡ c.turn
    → next.side ≡ c.side
    → next.goal ≡ c.goal
    → next.count ≡ c.count
    → IsInHand g c begun cert (parts.Node n ∷ rest)
    → IsInHand g next begun cert rest
hand-more g c next begun cert n rest made sound more longer turn side goal count h =
    let k = length (kept c.marks) in
    let here = next-node h.claim.nodes k (all_left) n rest h.rest_is in
    let within = slice_get_within h.claim.nodes k n here.0 in
    let sums : suc k ≡ length (kept next.marks) = omega (arith, longer) in
    record {
      before = h.before;
      begun_is = h.begun_is;
      claim = h.claim;
      at = h.at;
      valid = h.valid;
      known = subst (λ j. IsKnownOf next h.claim j) (sym longer)
          (known-more c h.claim k n next here.0 more turn side goal count h.known);
      within = omega (arith, within, longer);
      made = made;
      sound = subst (λ j. AreSoundBefore g h.claim j) (sym longer)
          (one_more (IsSound g h.claim) h.claim.nodes k n here.0
          (sound-in g c h.claim k h.known n sound) h.sound);
      rest_is = subst (λ j. rest ≡ map parts.Node (drop j h.claim.nodes) ++ all_parts all_left) sums
          here.1;
    }
  where
    all_left : List Claim
    all_left = drop begun cert.claims

-- a faulty node
pub hand-faulty : (g : Game) (c : Present) (begun : ℕ) (cert : Cert) (n : Node) (rest : List Part)
    (fault : NodeFault) (i k why : ℕ)
    → begun ≡ i + 1
    → k ≡ length (kept c.marks)
    → why ≡ fault_number fault
    → IsLeastSoFar g c (length (kept c.marks)) n fault
    → IsInHand g c begun cert (parts.Node n ∷ rest)
    → IsFirstFault g cert i k why
hand-faulty g c begun cert n rest fault i k why number place number_is least h =
    let here =
    next-node h.claim.nodes (length (kept c.marks)) (drop begun cert.claims) n rest h.rest_is in
    let i_is : h.before ≡ i = omega (arith, number, h.begun_is) in
    subst (λ j. IsFirstFault g cert j k why) i_is
    (subst (λ j. IsFirstFault g cert h.before j why) (sym place) (record {
      claims_before = h.valid;
      faulty = h.claim;
      claim_at = h.at;
      nodes_before = h.sound;
      faulty_node = n;
      node_at = here.0;
      fault = fault;
      number = number_is;
      least = least-in g c h.claim (length (kept c.marks)) h.known n fault least;
    }))

-- the end of all parts
pub hand-end : (g : Game) (c : Present) (begun : ℕ) (cert : Cert)
    → IsInHand g c begun cert []
    → IsValid g cert
hand-end g c begun cert h =
    up_to_end (λ j d. IsValidClaim g d) cert.claims cert.claims (h.before + 1) refl few
    (one_more (λ j d. IsValidClaim g d) cert.claims h.before h.claim h.at whole h.valid)
  where
    no_parts : (xs : List Node) (ys : List Part) → [] ≡ map parts.Node xs ++ ys → length xs ≤ 0
    no_parts [] ys e = omega arith
    no_parts (x ∷ xs) ys e = absurd cc

    no_claims : (xs : List Node) (ys : List Claim)
        → [] ≡ map parts.Node xs ++ all_parts ys
        → length ys ≤ 0
    no_claims [] [] e = omega arith
    no_claims [] (y ∷ ys) e = absurd cc
    no_claims (x ∷ xs) ys e = absurd cc

    length-left : {A : Type 0} (xs : List A) (i : ℕ) → length (drop i xs) ≤ 0 → length xs ≤ i
    length-left [] zero e = omega arith
    length-left [] (suc i) e = omega arith
    length-left (x ∷ xs) zero e = e
    length-left (x ∷ xs) (suc i) e = let r = length-left xs i e in omega (arith, r)

    few : length cert.claims ≤ h.before + 1
    few =
        let r = length-left cert.claims begun
        (no_claims (drop (length (kept c.marks)) h.claim.nodes)
        (drop begun cert.claims) h.rest_is) in
        omega (arith, r, h.begun_is)

    whole : IsValidClaim g h.claim
    whole = up_to_end (IsSound g h.claim) h.claim.nodes h.claim.nodes (length (kept c.marks)) refl
        (length-left h.claim.nodes (length (kept c.marks))
        (no_parts (drop (length (kept c.marks)) h.claim.nodes)
        (all_parts (drop begun cert.claims)) h.rest_is)) h.sound

-- ---- a claim

-- the claim that begins, where those before it are valid
pub hand-begins : (g : Game) (next : Present) (begun i : ℕ) (cert : Cert) (rest : List Part)
    → begun ≡ i + 1
    → AreMarksOf g next.marks
    → kept next.marks ≡ []
    → parts.Claim next.turn next.side next.goal next.count ∷ rest ≡ all_parts (drop i cert.claims)
    → AreValidBefore g cert.claims i
    → IsInHand g next begun cert rest
hand-begins g next begun i cert rest number made none e valid =
    let r = claim-at cert.claims i next.turn next.side next.goal next.count rest e in
    let zero_is : length (kept next.marks) ≡ 0 = ap length none in
    let more : suc i ≡ begun = omega (arith, number) in
    record {
      before = i;
      begun_is = number;
      claim = r.claim;
      at = r.at;
      valid = valid;
      known = record {
        turn = r.turn_is;
        side = r.side_is;
        goal = r.goal_is;
        count = r.count_is;
        marks = none ∙ ap (λ j. map position_of (take j r.claim.nodes)) (sym zero_is);
      };
      within = omega (arith, zero_is);
      made = made;
      sound = λ j n lt. absurd (omega (arith, lt, zero_is));
      rest_is = r.rest_is
          ∙ ap (λ j. map parts.Node (drop j r.claim.nodes) ++ all_parts (drop (suc i) cert.claims))
          (sym zero_is)
          ∙ ap (λ j. map parts.Node (drop (length (kept next.marks)) r.claim.nodes)
          ++ all_parts (drop j cert.claims)) more;
    }

-- a claim after another
pub hand-claim : (g : Game) (c next : Present) (begun : ℕ) (cert : Cert) (rest : List Part)
    → AreMarksOf g next.marks
    → kept next.marks ≡ []
    → IsInHand g c begun cert (parts.Claim next.turn next.side next.goal next.count ∷ rest)
    → IsInHand g next (begun + 1) cert rest
hand-claim g c next begun cert rest made none h =
    let r = next-claim h.claim.nodes (length (kept c.marks))
    (drop begun cert.claims) next.turn next.side next.goal next.count rest h.rest_is in
    let whole : IsValidClaim g h.claim = up_to_end (IsSound g h.claim) h.claim.nodes h.claim.nodes
    (length (kept c.marks)) refl r.0 h.sound in
    hand-begins g next (begun + 1) begun cert rest refl made none r.1
    (subst (λ j. AreValidBefore g cert.claims j) (sym h.begun_is)
    (one_more (λ j d. IsValidClaim g d) cert.claims h.before h.claim h.at whole h.valid))

-- ---- what stands, one part more

pub no-fault : (found : Option Rejected) → is_some found ≡ false → found ≡ None
no-fault None e = refl
no-fault (Some r) e = absurd cc

pub stays : (g : Game) (found : Option Rejected) (present : Option Present) (begun : ℕ)
    (cert : Cert) (rest more : List Part)
    → is_some found ≡ true
    → Stands g found present begun cert more
    → Stands g found present begun cert rest
stays g (Some r) present begun cert rest more e h = h
stays g None present begun cert rest more e h = absurd cc

pub claim-stands : (g : Game) (found : Option Rejected) (present : Option Present) (begun : ℕ)
    (next : Present) (cert : Cert) (rest : List Part)
    → found ≡ None
    → AreMarksOf g next.marks
    → kept next.marks ≡ []
    → Stands g found present begun cert
    (parts.Claim next.turn next.side next.goal next.count ∷ rest)
    → IsInHand g next (begun + 1) cert rest
claim-stands g (Some r) present begun next cert rest e made none h = absurd cc
claim-stands g None None begun next cert rest e made none h = hand-begins g next (begun + 1) 0 cert
    rest (let z = h.0 in omega (arith, z)) made none h.1 (λ j d lt. absurd (omega (arith, lt)))
claim-stands g None (Some c) begun next cert rest e made none h =
    hand-claim g c next begun cert rest made none h

-- at most eight claims begin
pub few-begun : (g : Game) (c : Present) (begun : ℕ) (cert : Cert) (rest : List Part)
    → IsWithinLimits cert
    → IsInHand g c begun cert rest
    → begun ≤ 8
few-begun g c begun cert rest limits h =
    let lt = slice_get_within cert.claims h.before h.claim h.at in
    omega (arith, lt, limits.few, h.begun_is)

assoc : (fed : List Part) (p : Part) (rest : List Part) → (fed ++ p ∷ []) ++ rest ≡ fed ++ p ∷ rest
assoc [] p rest = refl
assoc (q ∷ fed) p rest = ap (λ l. q ∷ l) (assoc fed p rest)

pub stands-next : (old next : Checking) (fed : List Part) (p : Part)
    → IsReadyFor next.tester next.game.now
    → ((cert : Cert) (rest : List Part) → IsWithinLimits cert
    → Stands old.game.now old.found old.present old.begun cert (p ∷ rest)
    → Stands next.game.now next.found next.present next.begun cert rest)
    → StandsFor old fed
    → StandsFor next (fed ++ p ∷ [])
stands-next old next fed p ready step s = record {
  ready = ready;
  told = λ cert rest limits e. step cert rest limits
      (s.told cert (p ∷ rest) limits (sym (assoc fed p rest) ∙ e));
}

-- the certificate that the parts begin, with the part
pub at-next : (c : Checking) (p : Part) (h : AreNext c (p ∷ []))
    → Stands c.game.now c.found c.present c.begun h.begins.cert (p ∷ h.begins.rest)
at-next c p h = h.stands.told h.begins.cert (p ∷ h.begins.rest) h.begins.limits
    (sym (assoc h.fed p h.begins.rest) ∙ h.begins.parts)

-- ---- the verdict

append_none : (xs : List Part) → xs ++ [] ≡ xs
append_none [] = refl
append_none (x ∷ xs) = ap (λ l. x ∷ l) (append_none xs)

pub all-told : (c : Checking) (cert : Cert)
    → IsWithinLimits cert
    → StandsFor c (parts_of cert)
    → Stands c.game.now c.found c.present c.begun cert []
all-told c cert limits s = s.told cert [] limits (append_none (parts_of cert))

pub verdict-valid : (g : Game) (found : Option Rejected) (present : Option Present) (begun : ℕ)
    (cert : Cert)
    → IsWithinLimits cert
    → found ≡ None
    → Stands g found present begun cert []
    → IsValid g cert
verdict-valid g (Some r) present begun cert limits e h = absurd cc
verdict-valid g None (Some c) begun cert limits e h = hand-end g c begun cert h
verdict-valid g None None begun cert limits e h = absurd (empty cert.claims limits.some h.1)
  where
    empty : (claims : List Claim) → 0 < length claims → [] ≡ all_parts claims → ⊥
    empty [] some e = omega (arith, some)
    empty (c ∷ cs) some e = cc

pub verdict-fault : (g : Game) (found : Option Rejected) (present : Option Present) (begun : ℕ)
    (cert : Cert) (r : Rejected)
    → found ≡ Some r
    → Stands g found present begun cert []
    → IsFirstFault g cert r.claim r.node r.why
verdict-fault g None present begun cert r e h = absurd cc
verdict-fault g (Some q) present begun cert r e h =
    let same : q ≡ r = cc in
    subst (λ (s : Rejected). IsFirstFault g cert s.claim s.node s.why) same h

-- ---- a node

pub in-hand : (g : Game) (found : Option Rejected) (present : Option Present) (c : Present)
    (begun : ℕ) (cert : Cert) (rest : List Part)
    → found ≡ None
    → present ≡ Some c
    → Stands g found present begun cert rest
    → IsInHand g c begun cert rest
in-hand g (Some r) present c begun cert rest e f h = absurd cc
in-hand g None None c begun cert rest e f h = absurd cc
in-hand g None (Some d) c begun cert rest e f h =
    let same : d ≡ c = cc in
    subst (λ (q : Present). IsInHand g q begun cert rest) same h

pub some-hand : (g : Game) (found : Option Rejected) (present : Option Present) (begun : ℕ)
    (cert : Cert) (n : Node) (rest : List Part)
    → found ≡ None
    → present ≡ None
    → Stands g found present begun cert (parts.Node n ∷ rest)
    → ⊥
some-hand g (Some r) present begun cert n rest e f h = cc
some-hand g None (Some d) begun cert n rest e f h = cc
some-hand g None None begun cert n rest e f h = no_node_first cert.claims n rest h.1

-- what the format says of the node, and of its number
pub record IsDue (g : Game) (c : Present) (n : Node) (begun : ℕ) : Type 0 where
  pub node : IsNode n
  pub place : length (kept c.marks) < c.count
  pub few : c.count ≤ 100000
  pub begun_some : 1 ≤ begun
  pub made : AreMarksOf g c.marks

pub due-in : (g : Game) (c : Present) (begun : ℕ) (cert : Cert) (n : Node) (rest : List Part)
    → IsWithinLimits cert
    → IsInHand g c begun cert (parts.Node n ∷ rest)
    → IsDue g c n begun
due-in g c begun cert n rest limits h =
    let here =
    next-node h.claim.nodes (length (kept c.marks)) (drop begun cert.claims) n rest h.rest_is in
    let claim = claim_limits cert limits h.before h.claim h.at in
    let within = slice_get_within h.claim.nodes (length (kept c.marks)) n here.0 in
    record {
      node = node_limits claim (length (kept c.marks)) n here.0;
      place = omega (arith, within, h.known.count);
      few = omega (arith, claim.few, h.known.count);
      begun_some = omega (arith, h.begun_is);
      made = h.made;
    }

pub due-next : (k : Checking) (c : Present) (n : Node)
    → k.found ≡ None
    → k.present ≡ Some c
    → AreNext k (parts.Node n ∷ [])
    → IsDue k.game.now c n k.begun
due-next k c n none some next =
    due-in k.game.now c k.begun next.begins.cert n next.begins.rest next.begins.limits
    (in-hand k.game.now k.found k.present c k.begun next.begins.cert
    (parts.Node n ∷ next.begins.rest) none some (at-next k (parts.Node n) next))

pub longer : (xs ys : List Position) (p : Position) → ys ≡ xs ++ p ∷ [] → length ys ≡ length xs + 1
longer xs ys p e = ap length e ∙ length-append xs (p ∷ [])

-- so many claims have begun when one comes
begun-before : (g : Game) (found : Option Rejected) (present : Option Present) (begun : ℕ)
    (cert : Cert) (p : Part) (rest : List Part)
    → IsWithinLimits cert
    → found ≡ None
    → Stands g found present begun cert (p ∷ rest)
    → begun ≤ 8
begun-before g (Some r) present begun cert p rest limits e h = absurd cc
begun-before g None None begun cert p rest limits e h = let z = h.0 in omega (arith, z)
begun-before g None (Some c) begun cert p rest limits e h =
    few-begun g c begun cert (p ∷ rest) limits h

pub claims-few : (k : Checking) (p : Part) → k.found ≡ None → AreNext k (p ∷ []) → k.begun ≤ 8
claims-few k p none next = begun-before k.game.now k.found k.present k.begun next.begins.cert p
    next.begins.rest next.begins.limits none (at-next k p next)
