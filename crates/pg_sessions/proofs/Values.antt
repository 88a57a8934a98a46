-- What is known of a game's values, by what solving tells.
use Rattle.std.proofs.Common.{◌≡◌, ◌∙◌, ℕ, zero, suc, List, [], ◌∷◌, Some, slice_get, map, refl}
use Rattle.std.proofs.Common.{sym, ap, subst, IfSome}
use Rattle.pg_sessions.proofs.Common.{none-some, Score, XWins, Draw, YWins, Side, X, Y}
use Rattle.pg_sessions.proofs.Common.{IsWithinLimits, position_of, IsNodeOf, IsValid, Cert, Claim}
use Rattle.pg_sessions.proofs.Common.{Node, start, with_turn, value, Forces, Game, Position}
use Rattle.pg_sessions.proofs.Common.{Heading, due_for_value, heading, winner, IsShown, IsTrueOf}
use Rattle.pg_sessions.proofs.Common.{certificate_of, due, Solution, Value, Unknown}
use Rattle.pg_check.proofs.ForcedNodes.{Forces-node, claim_limits}
use Rattle.pg_game.specs.Class.{class_by, class_of}
use Rattle.pg_solve.proofs.Values.{both-draw, x-wins, y-wins}
use Rattle.pg_solve.specs.EdgeClaims.{AreClassClaims, named}
use Rattle.pg_solve.specs.declared.solution.Class.{Class}
use Rattle.pg_solve.specs.declared.solution.Class.TheVariants.{Short, Cut, First}
use Rattle.pg_solve.specs.declared.solution.Solution.TheVariants.{Class as ForClass}
use Rattle.pg_sessions.proofs.Nodes.{headed, member}
use Rattle.pg_sessions.specs.Known.{HasNode, HaveNodes, IsKnown, known_by, won_by}
use Rattle.pg_sessions.specs.declared.known.Known.{Known}

-- ---- claims of a game on lines

module _ (g : Game) (cert : Cert) (limits : IsWithinLimits cert) (valid : IsValid g cert)
    (q : Position) (have : HaveNodes q cert) where
  -- where each claim has a node with the position, each claim is forced from it
  forced : (i : ℕ) (h : Heading)
      → slice_get (map heading cert.claims) i ≡ Some h
      → Forces g q h.side h.goal
  forced i h at =
      let found = headed cert.claims i h at in
      let c = found.0 in
      let has = member (HasNode q) cert.claims i c have found.1 in
      let node = has.1 in
      let from_node = Forces-node g c (claim_limits cert limits i c found.1)
      (valid i c found.1) has.0 node.node node.at in
      let from_here : Forces g q c.side c.goal =
      subst (λ (p : Position). Forces g p c.side c.goal) node.position from_node in
      subst (λ (k : Heading). Forces g q k.side k.goal) found.2 from_here

  -- so the value is the same there
  value-there : (turn : Side) (score : Score)
      → map heading cert.claims ≡ due_for_value turn score
      → value g q ≡ score
  value-there turn XWins is = x-wins _ (forced 0 _ (ap (λ (hs : List Heading). slice_get hs 0) is))
  value-there turn YWins is = y-wins _ (forced 0 _ (ap (λ (hs : List Heading). slice_get hs 0) is))
  value-there turn Draw is =
      both-draw _ (forced 1 _ (ap (λ (hs : List Heading). slice_get hs 1) is))
      (forced 0 _ (ap (λ (hs : List Heading). slice_get hs 0) is))

-- ---- classes

-- who wins a game of the class with either side to move
class_wins : (x y : Score) (class : Class)
    → class_by x y ≡ Some (named class)
    → (x ≡ won_by (winner class X)) × (y ≡ won_by (winner class Y))
class_wins XWins XWins Short e = (refl, refl)
class_wins XWins XWins Cut e = absurd (cc)
class_wins XWins XWins First e = absurd (cc)
class_wins XWins Draw class e = absurd (cc)
class_wins XWins YWins Short e = absurd (cc)
class_wins XWins YWins Cut e = absurd (cc)
class_wins XWins YWins First e = (refl, refl)
class_wins Draw XWins class e = absurd (cc)
class_wins Draw Draw class e = absurd (cc)
class_wins Draw YWins class e = absurd (cc)
class_wins YWins XWins class e = absurd (cc)
class_wins YWins Draw class e = absurd (cc)
class_wins YWins YWins Short e = absurd (cc)
class_wins YWins YWins Cut e = (refl, refl)
class_wins YWins YWins First e = absurd (cc)

class-value : (g : Game) (class : Class)
    → class_of g ≡ Some (named class)
    → (turn : Side) → value g (with_turn g turn) ≡ won_by (winner class turn)
unfolding class_of
class-value g class is X =
    (class_wins (value g (with_turn g X)) (value g (with_turn g Y)) class is).0
class-value g class is Y =
    (class_wins (value g (with_turn g X)) (value g (with_turn g Y)) class is).1

-- the only node of a claim
only-node : (nodes : List Node) (node : Node) (k : ℕ) (p : Position)
    → nodes ≡ node ∷ []
    → IsNodeOf nodes k p
    → position_of node ≡ p
only-node nodes node k p one is =
    here k (subst (λ (ns : List Node). slice_get ns k ≡ Some is.node) one is.at)
  where
    here : (k : ℕ) → slice_get (node ∷ []) k ≡ Some is.node → position_of node ≡ p
    here zero at = let same : node ≡ is.node = cc in ap position_of same ∙ is.position
    here (suc k) at = absurd (none-some is.node at)

-- the claims of a class have no position in common, for in one X moves first and in the other Y
apart : (g : Game) (class : Class) (cert : Cert) (q : Position)
    → AreClassClaims g class cert.claims
    → HaveNodes q cert
    → ⊥
apart g class cert q are have =
    let one = member (HasNode q) cert.claims 0 are.first have
    (ap (λ (cs : List Claim). slice_get cs 0) are.two) in
    let other = member (HasNode q) cert.claims 1 are.second have
    (ap (λ (cs : List Claim). slice_get cs 1) are.two) in
    let with_x : with_turn g X ≡ q = sym are.with_x.position
    ∙ only-node are.first.nodes are.with_x.node one.0 q are.with_x.one one.1 in
    let with_y : with_turn g Y ≡ q = sym are.with_y.position
    ∙ only-node are.second.nodes are.with_y.node other.0 q are.with_y.one other.1 in
    let same : X ≡ Y = ap (λ (p : Position). p.turn) (with_x ∙ sym with_y) in
    absurd (cc)

-- ---- what was solved

-- the certificate of what is known is that of what was solved
pub certificate-known : (turn : Side) (s : Solution) (known : Known) → known_by turn s ≡ Some known
    → certificate_of s ≡ Some known.certificate
certificate-known turn (Value score cert) known is =
    let same : record { score = score; certificate = cert } ≡ known = cc in
    ap (λ (k : Known). Some k.certificate) same
certificate-known turn (ForClass class cert) known is =
    let same : record { score = won_by (winner class turn); certificate = cert } ≡ known = cc in
    ap (λ (k : Known). Some k.certificate) same
certificate-known turn Unknown known is = absurd (none-some known is)

-- what solving tells is known
pub known-from : (g : Game) (budget : ℕ) (table : List Position) (s : Solution) (known : Known)
    → IsTrueOf g s
    → IfSome (certificate_of s) (λ c. map heading c.claims ≡ due g.turn s)
    → IfSome (certificate_of s) (IsValid g)
    → IfSome (certificate_of s) IsWithinLimits
    → IsShown g budget table s
    → known_by g.turn s ≡ Some known
    → IsKnown g (start g) known
known-from g budget table (Value score cert) known true-of claims valid limits shown is =
    let same : record { score = score; certificate = cert } ≡ known = cc in
    subst (λ (k : Known). IsKnown g (start g) k) same (record {
      here = true-of;
      wherever = λ q have. value-there g cert limits valid q have g.turn score claims;
    })
known-from g budget table (ForClass class cert) known true-of claims valid limits shown is =
    let same : record { score = won_by (winner class g.turn); certificate = cert } ≡ known = cc in
    subst (λ (k : Known). IsKnown g (start g) k) same (record {
      here = class-value g class true-of g.turn;
      wherever = λ q have. absurd (apart g class cert q shown have);
    })
known-from g budget table Unknown known true-of claims valid limits shown is =
    absurd (none-some known is)
