-- Parts that come one after the other are those of a list.
use Rattle.std.proofs.Common.{◌≡◌, ◌∙◌, ℕ, ◌+◌, ◌<◌, List, [], ◌∷◌, ◌++◌, map, length, take, drop}
use Rattle.std.proofs.Common.{get_or, refl, sym, ap, subst}
use Rattle.pg_check.proofs.Common.{append_assoc, append-nil, map-append, take_more}
use Rattle.pg_check.proofs.Common.{take-append-drop, claim_parts, all_parts, BeginCert, Claim, Node}
use Rattle.pg_check.proofs.Common.{Part}
use Rattle.std.proofs.lemmas.Grind.{flat_map-append}
use Rattle.pg_cert.specs.declared.part.Part.TheVariants as parts
use Rattle.pg_check.specs.Checking.{StandsFor, AreNext}
use Rattle.pg_check.specs.declared.checking.Checking.{Checking}

-- parts that begin a certificate, with and without those behind them
begin-fewer : (xs ys : List Part) → BeginCert (xs ++ ys) → BeginCert xs
begin-fewer xs ys b = record {
  cert = b.cert;
  limits = b.limits;
  rest = ys ++ b.rest;
  parts = sym (append_assoc xs ys b.rest) ∙ b.parts;
}

-- the checking stands for the parts before and these
abbrev pub HasTaken : Checking → Checking → List Part → Type 0
HasTaken old now taken = (fed : List Part) → StandsFor old fed → StandsFor now (fed ++ taken)

-- the first of several parts
pub first-next : (c : Checking) (coming xs ys : List Part)
    → coming ≡ xs ++ ys
    → AreNext c coming
    → AreNext c xs
first-next c coming xs ys e h = record {
  fed = h.fed;
  stands = h.stands;
  begins = begin-fewer (h.fed ++ xs) ys
      (subst BeginCert
      (ap (λ (l : List Part). h.fed ++ l) e ∙ sym (append_assoc h.fed xs ys)) h.begins);
}

-- the others, when these have been taken
pub others-next : (old now : Checking) (coming xs ys : List Part)
    → coming ≡ xs ++ ys
    → HasTaken old now xs
    → AreNext old coming
    → AreNext now ys
others-next old now coming xs ys e taken h = record {
  fed = h.fed ++ xs;
  stands = taken h.fed h.stands;
  begins = subst BeginCert
      (ap (λ (l : List Part). h.fed ++ l) e ∙ sym (append_assoc h.fed xs ys)) h.begins;
}

-- parts taken and then others
pub taken-both : (old now next : Checking) (xs ys : List Part)
    → HasTaken old now xs
    → HasTaken now next ys
    → HasTaken old next (xs ++ ys)
taken-both old now next xs ys a b fed s =
    subst (StandsFor next) (append_assoc fed xs ys) (b (fed ++ xs) (a fed s))

pub taken-none : (c : Checking) → HasTaken c c []
taken-none c fed s = subst (StandsFor c) (sym (append-nil fed)) s

-- a claim's parts by a list that is that of its nodes
pub claim_parts-from : (c : Claim) (nodes : List Node)
    → nodes ≡ c.nodes
    → claim_parts c ≡ (parts.Claim c.turn c.side c.goal (length nodes) ∷ []) ++ map parts.Node nodes
claim_parts-from c nodes e = sym
    (ap (λ (ns : List Node). parts.Claim c.turn c.side c.goal (length ns) ∷ map parts.Node ns) e)

-- the parts of a list, one member after the other
module _ {A : Type 0} (f : List A → List Part) (one : A → List Part) (none : f [] ≡ [])
    (both : (xs ys : List A) → f (xs ++ ys) ≡ f xs ++ f ys)
    (single : (x : A) → f (x ∷ []) ≡ one x) where
  more : (xs : List A) (k : ℕ) (x : A)
      → k < length xs
      → x ≡ get_or xs k x
      → f (take (k + 1) xs) ≡ f (take k xs) ++ one x
  more xs k x lt is = ap f (take_more xs k x lt)
      ∙ both (take k xs) (get_or xs k x ∷ [])
      ∙ ap (λ (l : List Part). f (take k xs) ++ l) (ap (λ y. f (y ∷ [])) (sym is) ∙ single x)

  split : (xs : List A) (k : ℕ) (x : A)
      → k < length xs
      → x ≡ get_or xs k x
      → f xs ≡ f (take k xs) ++ (one x ++ f (drop (k + 1) xs))
  split xs k x lt is = ap f (sym (take-append-drop (k + 1) xs))
      ∙ both (take (k + 1) xs) (drop (k + 1) xs)
      ∙ ap (λ (l : List Part). l ++ f (drop (k + 1) xs)) (more xs k x lt is)
      ∙ append_assoc (f (take k xs)) (one x) (f (drop (k + 1) xs))

  member-next : (old now : Checking) (xs : List A) (k : ℕ) (x : A)
      → k < length xs
      → x ≡ get_or xs k x
      → AreNext old (f xs)
      → HasTaken old now (f (take k xs))
      → AreNext now (one x)
  member-next old now xs k x lt is h taken =
      first-next now (one x ++ f (drop (k + 1) xs)) (one x) (f (drop (k + 1) xs)) refl
      (others-next old now (f xs) (f (take k xs)) (one x ++ f (drop (k + 1) xs))
      (split xs k x lt is) taken h)

  member-taken : (old now next : Checking) (xs : List A) (k : ℕ) (x : A)
      → k < length xs
      → x ≡ get_or xs k x
      → HasTaken old now (f (take k xs))
      → HasTaken now next (one x)
      → HasTaken old next (f (take (k + 1) xs))
  member-taken old now next xs k x lt is a b = subst (HasTaken old next) (sym (more xs k x lt is))
      (taken-both old now next (f (take k xs)) (one x) a b)

-- nodes
pub node-next : (old now : Checking) (nodes : List Node) (k : ℕ) (n : Node)
    → k < length nodes
    → n ≡ get_or nodes k n
    → AreNext old (map parts.Node nodes)
    → HasTaken old now (map parts.Node (take k nodes))
    → AreNext now (parts.Node n ∷ [])
node-next =
    member-next (map parts.Node) (λ n. parts.Node n ∷ []) refl (map-append parts.Node) (λ n. refl)

pub node-taken : (old now next : Checking) (nodes : List Node) (k : ℕ) (n : Node)
    → k < length nodes
    → n ≡ get_or nodes k n
    → HasTaken old now (map parts.Node (take k nodes))
    → HasTaken now next (parts.Node n ∷ [])
    → HasTaken old next (map parts.Node (take (k + 1) nodes))
node-taken =
    member-taken (map parts.Node) (λ n. parts.Node n ∷ []) refl (map-append parts.Node) (λ n. refl)

-- claims
pub claim-next : (old now : Checking) (claims : List Claim) (i : ℕ) (c : Claim)
    → i < length claims
    → c ≡ get_or claims i c
    → AreNext old (all_parts claims)
    → HasTaken old now (all_parts (take i claims))
    → AreNext now (claim_parts c)
claim-next = member-next all_parts claim_parts refl (flat_map-append claim_parts)
    (λ c. append-nil (claim_parts c))

pub claim-taken : (old now next : Checking) (claims : List Claim) (i : ℕ) (c : Claim)
    → i < length claims
    → c ≡ get_or claims i c
    → HasTaken old now (all_parts (take i claims))
    → HasTaken now next (claim_parts c)
    → HasTaken old next (all_parts (take (i + 1) claims))
claim-taken = member-taken all_parts claim_parts refl (flat_map-append claim_parts)
    (λ c. append-nil (claim_parts c))
