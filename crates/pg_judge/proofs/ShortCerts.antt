-- A certificate that is cut short has the first fault of the whole one, for every game.
use Rattle.std.proofs.Common.{◌≡◌, ◌∙◌, ◌↔◌, ℕ, suc, ◌<◌, Bool, true, false, List, []}
use Rattle.std.proofs.Common.{◌∷◌, ◌++◌, length, map, get_or, Option, Some, None, Result, Ok, Err}
use Rattle.std.proofs.Common.{slice_get, refl, sym, ap, ap₂, subst, inl, inr, arith, take}
use Rattle.std.specs.Prelude.{◌==◌, option_map, IsErrAnd, MatchResult}
use Rattle.pg_judge.proofs.Common.{length-map, Game, AreSoundBefore, FollowMoves}
use Rattle.pg_judge.proofs.Common.{FollowsMove, HasWeaker, IsFirstFault, IsInGame, IsLeastFault}
use Rattle.pg_judge.proofs.Common.{IsNodeOf, IsOwed, IsValid, IsValidClaim, Passes, Cert}
use Rattle.pg_judge.proofs.Common.{Claim, Node, clash, share, short_body, short_cert, short_claim}
use Rattle.pg_judge.proofs.Common.{short_node, short_pairs, twice, certificate, short_result}
use Rattle.pg_judge.proofs.Common.{number_of}
use Rattle.std.specs.List.{AllPairs, list_any, slice_index_or}
use Rattle.std.proofs.lemmas.Bool.{eqb-true, or_cases}
use Rattle.std.proofs.lemmas.Option.{slice_get-map}
use Rattle.pg_base.specs.declared.limits.TheConstants.{MAX_MEMBERS}
use Rattle.pg_base.specs.declared.pair.Pair.{Pair}
use Rattle.pg_base.specs.declared.side.Side.{Side}
use Rattle.pg_game.specs.Pairs.{PairsHold, SharesNone, has_point}
use Rattle.pg_game.specs.declared.position.Position.{Position}
use Rattle.pg_game.specs.Weaker.{IsNoWorse}
use Rattle.pg_cert.specs.Node.{position_of}
use Rattle.pg_cert.specs.declared.node.Body.{Body}
use Rattle.pg_cert.specs.declared.node.Body.TheVariants.{Over, Move, All, Pairs, Potential, Trees}
use Rattle.pg_cert.specs.declared.node.Body.TheVariants.{Cuts, Threat, Weaker}
use Rattle.pg_cert.specs.declared.node_fault.NodeFault.{NodeFault}
use Rattle.pg_cert.specs.declared.node_fault.NodeFault.TheVariants as faults
use Rattle.pg_cert_lines.specs.declared.fault.Fault.{Fault}
use Rattle.pg_cert_lines.specs.declared.fault.Fault.TheVariants as form_faults
use Rattle.pg_cert_files.specs.declared.limits.TheConstants.{MAX_CERT_BYTES}
use Rattle.pg_cert_files.proofs.WholeFile.{too_large}
use Rattle.pg_text.specs.Text.{Bytes}
use Rattle.std.specs.Global.{Vec}
use Rattle.pg_judge.specs.Judged.{SaysValid, StandsAgainst}
use Rattle.pg_judge.specs.declared.fault.JudgeFault.{JudgeFault}
use Rattle.pg_judge.specs.declared.fault.JudgeFault.TheVariants as judge_faults
use Rattle.pg_judge.specs.Heads.{head_of, heads_of}
use Rattle.pg_judge.specs.declared.claim_head.ClaimHead.{ClaimHead}

-- ---- pairs of which two share a point

share_not : (s t : Pair) → share s t ≡ true → SharesNone s t → ⊥
share_not s t on none = elim (or_cases (has_point t.a s) (has_point t.b s) on) [
  | inl a ↦ elim (or_cases (s.a == t.a) (s.b == t.a) a) [
    | inl aa ↦ none.aa (eqb-true s.a t.a aa)
    | inr ba ↦ none.ba (eqb-true s.b t.a ba)
  ]
  | inr b ↦ elim (or_cases (s.a == t.b) (s.b == t.b) b) [
    | inl ab ↦ none.ab (eqb-true s.a t.b ab)
    | inr bb ↦ none.bb (eqb-true s.b t.b bb)
  ]
]

any_not : (s : Pair) (ps : List Pair)
    → list_any (share s) ps ≡ true
    → ((j : ℕ) (d : Pair) → j < length ps → SharesNone s (slice_index_or ps j d))
    → ⊥
any_not s [] on none = absurd cc
any_not s (t ∷ ps) on none = elim (or_cases (share s t) (list_any (share s) ps) on) [
  | inl here ↦ share_not s t here (none 0 t (omega arith))
  | inr later ↦ any_not s ps later (λ j d lt. none (suc j) d (omega (arith, lt)))
]

clash_not : (ps : List Pair) → clash ps ≡ true → AllPairs SharesNone ps → ⊥
clash_not [] on none = absurd cc
clash_not (s ∷ ps) on none = elim (or_cases (list_any (share s) ps) (clash ps) on) [
  | inl here ↦ any_not s ps here (λ j d lt. none 0 (suc j) d (omega arith) (omega (arith, lt)))
  | inr later ↦ clash_not ps later
      (λ i j d lt within. none (suc i) (suc j) d (omega (arith, lt)) (omega (arith, within)))
]

pairs_at : (g : Game) (p : Position) (side : Side) (ps : List Pair) (t : Bool)
    → clash ps ≡ t
    → PairsHold g p side (short_pairs ps) ↔ PairsHold g p side ps
pairs_at g p side ps true e =
    let short : short_pairs ps ≡ twice ++ take MAX_MEMBERS ps = rw e refl in (
      λ h. absurd
          (clash_not (twice ++ take MAX_MEMBERS ps) refl
          (subst (λ (l : List Pair). PairsHold g p side l) short h).apart.disjoint),
      λ h. absurd (clash_not ps e h.apart.disjoint),
    )
pairs_at g p side ps false e =
    let short : short_pairs ps ≡ ps = rw e refl in (
      λ h. subst (λ (l : List Pair). PairsHold g p side l) short h,
      λ h. subst (λ (l : List Pair). PairsHold g p side l) (sym short) h,
    )

same_pairs : (g : Game) (p : Position) (side : Side) (ps : List Pair)
    → PairsHold g p side (short_pairs ps) ↔ PairsHold g p side ps
same_pairs g p side ps = pairs_at g p side ps (clash ps) refl

-- ---- what a node owes where its own body is cut short

module _ (g : Game) (c : Claim) (k : ℕ) (n : Node) (ps : List Pair) where
  abbrev long : Node
  long = record n { body = Pairs ps }

  abbrev short : Node
  short = record n { body = Pairs (short_pairs ps) }

  game_in : IsInGame g short → IsInGame g long
  game_in h = record { x = h.x; y = h.y; left = h.left }

  game_out : IsInGame g long → IsInGame g short
  game_out h = record { x = h.x; y = h.y; left = h.left }

  owed_in : IsOwed g c short → IsOwed g c long
  owed_in o = record { allowed = o.allowed; in_game = game_in o.in_game }

  owed_out : IsOwed g c long → IsOwed g c short
  owed_out o = record { allowed = o.allowed; in_game = game_out o.in_game }

  same_owing : (fault : NodeFault) → Passes g c k short fault ↔ Passes g c k long fault
  same_owing faults.Child = (λ h. h, λ h. h)
  same_owing faults.Marks = (λ h. (game_in h.0, h.1), λ h. (game_out h.0, h.1))
  same_owing faults.Turn = (λ h o. h (owed_out o), λ h o. h (owed_in o))
  same_owing faults.Moves = (λ h o. h (owed_out o), λ h o. h (owed_in o))
  same_owing faults.End = (λ h o. h (owed_out o), λ h o. h (owed_in o))
  same_owing faults.Pairs =
      let same = same_pairs g (position_of n) c.side ps in
      (λ h o. same.0 (h (owed_out o)), λ h o. same.1 (h (owed_in o)))
  same_owing faults.Potential = (λ h o. h (owed_out o), λ h o. h (owed_in o))
  same_owing faults.Trees = (λ h o. h (owed_out o), λ h o. h (owed_in o))
  same_owing faults.Cuts = (λ h o. h (owed_out o), λ h o. h (owed_in o))
  same_owing faults.Threat = (λ h o. h (owed_out o), λ h o. h (owed_in o))
  same_owing faults.Root = (λ h. h, λ h. h)
  same_owing faults.Body = (λ h. h, λ h. h)
  same_owing faults.Weaker = (λ h o. h (owed_out o), λ h o. h (owed_in o))

same_body : (g : Game) (c : Claim) (k : ℕ) (n : Node) (body : Body) (fault : NodeFault)
    → Passes g c k (record n { body = short_body body }) fault
    ↔ Passes g c k (record n { body = body }) fault
same_body g c k n (Pairs ps) fault = same_owing g c k n ps fault
same_body g c k n Over fault = (λ h. h, λ h. h)
same_body g c k n (Move v child) fault = (λ h. h, λ h. h)
same_body g c k n (All rs) fault = (λ h. h, λ h. h)
same_body g c k n Potential fault = (λ h. h, λ h. h)
same_body g c k n (Trees e a b) fault = (λ h. h, λ h. h)
same_body g c k n (Cuts e a b) fault = (λ h. h, λ h. h)
same_body g c k n (Threat points) fault = (λ h. h, λ h. h)
same_body g c k n (Weaker child) fault = (λ h. h, λ h. h)

-- ---- members of lists whose members are cut short

pub record IsMember {A : Type 0} (f : A → A) (xs : List A) (i : ℕ) (y : A) : Type 0 where
  pub member : A
  pub at : slice_get xs i ≡ Some member
  pub is : f member ≡ y

member_of : {A : Type 0} (f : A → A) (xs : List A) (i : ℕ) (y : A) (o : Option A)
    → slice_get xs i ≡ o
    → option_map f o ≡ Some y
    → IsMember f xs i y
member_of f xs i y None at e = absurd cc
member_of f xs i y (Some x) at e = record { member = x; at = at; is = cc }

pub member : {A : Type 0} (f : A → A) (xs : List A) (i : ℕ) (y : A)
    → slice_get (map f xs) i ≡ Some y
    → IsMember f xs i y
member f xs i y e = member_of f xs i y (slice_get xs i) refl (sym (slice_get-map f xs i) ∙ e)

pub there : {A : Type 0} (f : A → A) (xs : List A) (i : ℕ) (x : A)
    → slice_get xs i ≡ Some x
    → slice_get (map f xs) i ≡ Some (f x)
there f xs i x e = slice_get-map f xs i ∙ ap (option_map f) e

-- ---- what a node owes where the nodes of its claim are cut short

module _ (g : Game) (c : Claim) (k : ℕ) (n : Node) where
  node_in : (child : ℕ) (q : Position)
      → IsNodeOf (map short_node c.nodes) child q
      → IsNodeOf c.nodes child q
  node_in child q h =
      let m = member short_node c.nodes child h.node h.at in
      record {
        node = m.member;
        at = m.at;
        position = ap position_of m.is ∙ h.position;
      }

  node_out : (child : ℕ) (q : Position)
      → IsNodeOf c.nodes child q
      → IsNodeOf (map short_node c.nodes) child q
  node_out child q h = record {
    node = short_node h.node;
    at = there short_node c.nodes child h.node h.at;
    position = h.position;
  }

  same_move : (p : Position) (v child : ℕ)
      → FollowsMove g (map short_node c.nodes) p v child ↔ FollowsMove g c.nodes p v child
  same_move p v child = (
    λ h. record { leads = λ range free. node_in child _ (h.leads range free) },
    λ h. record { leads = λ range free. node_out child _ (h.leads range free) },
  )

  same_moves : (p : Position) (body : Body)
      → FollowMoves g (map short_node c.nodes) p body ↔ FollowMoves g c.nodes p body
  same_moves p (Move v child) = same_move p v child
  same_moves p (All rs) = (
    λ h i d lt. (same_move p (get_or rs i d).point (get_or rs i d).child).0 (h i d lt),
    λ h i d lt. (same_move p (get_or rs i d).point (get_or rs i d).child).1 (h i d lt),
  )
  same_moves p Over = (λ h. h, λ h. h)
  same_moves p (Pairs ps) = (λ h. h, λ h. h)
  same_moves p Potential = (λ h. h, λ h. h)
  same_moves p (Trees e a b) = (λ h. h, λ h. h)
  same_moves p (Cuts e a b) = (λ h. h, λ h. h)
  same_moves p (Threat points) = (λ h. h, λ h. h)
  same_moves p (Weaker child) = (λ h. h, λ h. h)

  same_weaker : (side : Side) (p : Position) (body : Body)
      → HasWeaker (map short_node c.nodes) side p body ↔ HasWeaker c.nodes side p body
  same_weaker side p (Weaker child) = (
    λ h. let m = member short_node c.nodes child h.node h.at in
        record {
          node = m.member;
          at = m.at;
          no_worse = subst (λ (m : Node). IsNoWorse side (position_of m) p) (sym m.is) h.no_worse;
        },
    λ h. record {
      node = short_node h.node;
      at = there short_node c.nodes child h.node h.at;
      no_worse = h.no_worse;
    },
  )
  same_weaker side p Over = (λ h. h, λ h. h)
  same_weaker side p (Move v child) = (λ h. h, λ h. h)
  same_weaker side p (All rs) = (λ h. h, λ h. h)
  same_weaker side p (Pairs ps) = (λ h. h, λ h. h)
  same_weaker side p Potential = (λ h. h, λ h. h)
  same_weaker side p (Trees e a b) = (λ h. h, λ h. h)
  same_weaker side p (Cuts e a b) = (λ h. h, λ h. h)
  same_weaker side p (Threat points) = (λ h. h, λ h. h)

  claim_in : IsOwed g (short_claim c) n → IsOwed g c n
  claim_in o = record { allowed = o.allowed; in_game = o.in_game }

  claim_out : IsOwed g c n → IsOwed g (short_claim c) n
  claim_out o = record { allowed = o.allowed; in_game = o.in_game }

  same_claim : (fault : NodeFault) → Passes g (short_claim c) k n fault ↔ Passes g c k n fault
  same_claim faults.Child = (λ h. h, λ h. h)
  same_claim faults.Marks =
      let moves = same_moves (position_of n) n.body in
      (λ h. (h.0, moves.0 h.1), λ h. (h.0, moves.1 h.1))
  same_claim faults.Turn = (λ h o. h (claim_out o), λ h o. h (claim_in o))
  same_claim faults.Moves = (λ h o. h (claim_out o), λ h o. h (claim_in o))
  same_claim faults.End = (λ h o. h (claim_out o), λ h o. h (claim_in o))
  same_claim faults.Pairs = (λ h o. h (claim_out o), λ h o. h (claim_in o))
  same_claim faults.Potential = (λ h o. h (claim_out o), λ h o. h (claim_in o))
  same_claim faults.Trees = (λ h o. h (claim_out o), λ h o. h (claim_in o))
  same_claim faults.Cuts = (λ h o. h (claim_out o), λ h o. h (claim_in o))
  same_claim faults.Threat = (λ h o. h (claim_out o), λ h o. h (claim_in o))
  same_claim faults.Root =
      let same = length-map c.nodes short_node in
      (λ h last. h (last ∙ sym same), λ h last. h (last ∙ same))
  same_claim faults.Body = (λ h. h, λ h. h)
  same_claim faults.Weaker =
      let same = same_weaker c.side (position_of n) n.body in (
        λ h o earlier. same.0 (h (claim_out o) earlier),
        λ h o earlier. same.1 (h (claim_in o) earlier),
      )

module _ (g : Game) (c : Claim) (k : ℕ) (n : Node) where
  passes_in : (fault : NodeFault)
      → Passes g (short_claim c) k (short_node n) fault
      → Passes g c k n fault
  passes_in fault h =
      (same_body g c k n n.body fault).0 ((same_claim g c k (short_node n) fault).0 h)

  passes_out : (fault : NodeFault)
      → Passes g c k n fault
      → Passes g (short_claim c) k (short_node n) fault
  passes_out fault h =
      (same_claim g c k (short_node n) fault).1 ((same_body g c k n n.body fault).1 h)

  least_in : (fault : NodeFault)
      → IsLeastFault g (short_claim c) k (short_node n) fault
      → IsLeastFault g c k n fault
  least_in fault h = record {
    fails = λ p. h.fails (passes_out fault p);
    lesser = λ before lt. passes_in before (h.lesser before lt);
  }

  least_out : (fault : NodeFault)
      → IsLeastFault g c k n fault
      → IsLeastFault g (short_claim c) k (short_node n) fault
  least_out fault h = record {
    fails = λ p. h.fails (passes_in fault p);
    lesser = λ before lt. passes_out before (h.lesser before lt);
  }

-- ---- claims and certificates

before_in : (g : Game) (c : Claim) (k : ℕ)
    → AreSoundBefore g (short_claim c) k
    → AreSoundBefore g c k
before_in g c k h = λ j n lt at fault. passes_in g c j n fault
    (h j (short_node n) lt (there short_node c.nodes j n at) fault)

before_out : (g : Game) (c : Claim) (k : ℕ)
    → AreSoundBefore g c k
    → AreSoundBefore g (short_claim c) k
before_out g c k h = λ j n lt at fault.
    let m = member short_node c.nodes j n at in
    subst (λ (q : Node). Passes g (short_claim c) j q fault) m.is
    (passes_out g c j m.member fault (h j m.member lt m.at fault))

claim_valid_in : (g : Game) (c : Claim) → IsValidClaim g (short_claim c) → IsValidClaim g c
claim_valid_in g c h = λ k n at fault. passes_in g c k n fault
    (h k (short_node n) (there short_node c.nodes k n at) fault)

claim_valid_out : (g : Game) (c : Claim) → IsValidClaim g c → IsValidClaim g (short_claim c)
claim_valid_out g c h = λ k n at fault.
    let m = member short_node c.nodes k n at in
    subst (λ (q : Node). Passes g (short_claim c) k q fault) m.is
    (passes_out g c k m.member fault (h k m.member m.at fault))

valid_in : (g : Game) (cert : Cert) → IsValid g (short_cert cert) → IsValid g cert
valid_in g cert h =
    λ i c at. claim_valid_in g c (h i (short_claim c) (there short_claim cert.claims i c at))

valid_out : (g : Game) (cert : Cert) → IsValid g cert → IsValid g (short_cert cert)
valid_out g cert h = λ i c at.
    let m = member short_claim cert.claims i c at in
    subst (λ (d : Claim). IsValidClaim g d) m.is (claim_valid_out g m.member (h i m.member m.at))

fault_out : (g : Game) (cert : Cert) (claim node why : ℕ)
    → IsFirstFault g cert claim node why
    → IsFirstFault g (short_cert cert) claim node why
fault_out g cert claim node why h = record {
  claims_before = λ i c lt at.
      let m = member short_claim cert.claims i c at in
      subst (λ (d : Claim). IsValidClaim g d) m.is
      (claim_valid_out g m.member (h.claims_before i m.member lt m.at));
  faulty = short_claim h.faulty;
  claim_at = there short_claim cert.claims claim h.faulty h.claim_at;
  nodes_before = before_out g h.faulty node h.nodes_before;
  faulty_node = short_node h.faulty_node;
  node_at = there short_node h.faulty.nodes node h.faulty_node h.node_at;
  fault = h.fault;
  number = h.number;
  least = least_out g h.faulty node h.faulty_node h.fault h.least;
}

fault_in : (g : Game) (cert : Cert) (claim node why : ℕ)
    → IsFirstFault g (short_cert cert) claim node why
    → IsFirstFault g cert claim node why
fault_in g cert claim node why h =
    let c = member short_claim cert.claims claim h.faulty h.claim_at in
    let node_at : slice_get (map short_node c.member.nodes) node ≡ Some h.faulty_node =
    subst (λ (d : Claim). slice_get d.nodes node ≡ Some h.faulty_node) (sym c.is) h.node_at in
    let n = member short_node c.member.nodes node h.faulty_node node_at in
    let least : IsLeastFault g (short_claim c.member) node (short_node n.member) h.fault =
    subst (λ (d : Claim). IsLeastFault g d node (short_node n.member) h.fault) (sym c.is)
    (subst (λ (m : Node). IsLeastFault g h.faulty node m h.fault) (sym n.is) h.least) in
    record {
      claims_before = λ i d lt at. claim_valid_in g d
          (h.claims_before i (short_claim d) lt (there short_claim cert.claims i d at));
      faulty = c.member;
      claim_at = c.at;
      nodes_before = before_in g c.member node
          (subst (λ (d : Claim). AreSoundBefore g d node) (sym c.is) h.nodes_before);
      faulty_node = n.member;
      node_at = n.at;
      fault = h.fault;
      number = h.number;
      least = least_in g c.member node n.member h.fault least;
    }

head_short : (c : Claim) → head_of (short_claim c) ≡ head_of c
head_short c = ap (λ (count : ℕ). record {
  turn = c.turn;
  side = c.side;
  goal = c.goal;
  nodes = count;
}) (length-map c.nodes short_node)

heads_short : (claims : List Claim) → map head_of (map short_claim claims) ≡ map head_of claims
heads_short [] = refl
heads_short (c ∷ claims) =
    ap₂ (λ (h : ClaimHead) (hs : List ClaimHead). h ∷ hs) (head_short c) (heads_short claims)

-- certificates that are the same when they are cut short
module _ (g : Game) (c d : Cert) (same : short_cert c ≡ short_cert d) where
  pub valid_alike : IsValid g d → IsValid g c
  valid_alike h = valid_in g c (subst (λ (e : Cert). IsValid g e) (sym same) (valid_out g d h))

  pub fault_alike : (claim node why : ℕ)
      → IsFirstFault g d claim node why
      → IsFirstFault g c claim node why
  fault_alike claim node why h = fault_in g c claim node why
      (subst (λ (e : Cert). IsFirstFault g e claim node why) (sym same)
      (fault_out g d claim node why h))

  pub heads_alike : heads_of d ≡ heads_of c
  heads_alike = sym (heads_short d.claims) ∙ ap heads_of (sym same) ∙ heads_short c.claims

-- ---- what a text says that is like another

pub error_same : (P : (Fault × ℕ) → Type 0) (r s : Result Cert (Fault × ℕ))
    → short_result r ≡ short_result s
    → IsErrAnd s P
    → IsErrAnd r P
error_same P (Err a) (Err b) e h = let same : a ≡ b = cc in subst P (sym same) h
error_same P (Err a) (Ok d) e h = absurd h
error_same P (Ok c) (Err b) e h = absurd cc
error_same P (Ok c) (Ok d) e h = absurd h

-- the certificate that the other text says
pub record SaysLike (text : Bytes) (d : Cert) : Type 0 where
  pub cert : Cert
  pub says : certificate text ≡ Ok cert
  pub same : short_cert cert ≡ short_cert d

pub says_like : (text : Bytes) (d : Cert) (r : Result Cert (Fault × ℕ))
    → certificate text ≡ r
    → short_result r ≡ short_result (Ok d)
    → SaysLike text d
says_like text d (Ok c) says e = record { cert = c; says = says; same = cc }
says_like text d (Err bad) says e = absurd cc

module _ (g : Game) (text short : Bytes)
    (e : short_result (certificate text) ≡ short_result (certificate short)) where
  like : (d : Cert) → certificate short ≡ Ok d → SaysLike text d
  like d says = says_like text d (certificate text) refl (e ∙ ap short_result says)

  against : (fault : JudgeFault) → StandsAgainst g short fault → StandsAgainst g text fault
  against (judge_faults.Form number line) h =
      error_same (λ bad. (number ≡ number_of bad.0) × (line ≡ bad.1)) (certificate text)
      (certificate short) e h
  against (judge_faults.Reject claim node why) h =
      let l = like h.0 h.1 in
      (l.cert, l.says, fault_alike g l.cert h.0 l.same claim node why h.2)
  against judge_faults.Memory h = tt

  -- what was found of the short text is so of the long one
  pub judged_alike : (result : Result (Vec ClaimHead) JudgeFault)
      → MatchResult result (λ heads. SaysValid g short heads.items) (StandsAgainst g short)
      → MatchResult result (λ heads. SaysValid g text heads.items) (StandsAgainst g text)
  judged_alike (Ok heads) h =
      let l = like h.0 h.1 in
      (l.cert, l.says, valid_alike g l.cert h.0 l.same h.2, h.3 ∙ heads_alike g l.cert h.0 l.same)
  judged_alike (Err fault) h = against fault h

-- a text past the limit
pub judged_large : (g : Game) (text : Bytes) (number : ℕ)
    → MAX_CERT_BYTES < length text
    → number ≡ number_of form_faults.Size
    → StandsAgainst g text (judge_faults.Form number 0)
judged_large g text number past is = subst
    (λ (r : Result Cert (Fault × ℕ)). IsErrAnd r (λ bad. (number ≡ number_of bad.0) × (0 ≡ bad.1)))
    (sym (too_large text past)) (is, refl)
