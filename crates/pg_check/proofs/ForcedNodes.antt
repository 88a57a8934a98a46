-- Every node of a valid claim is forced, by induction on its number.
use Rattle.std.proofs.Common.{◌≡◌, ◌∙◌, ℕ, zero, suc, ◌+◌, ◌<◌, true, ◌&&◌, ◌==◌, List, [], ◌∷◌}
use Rattle.std.proofs.Common.{Some, slice_get, length, map, get_or, refl, sym, ap, subst, inl, inr}
use Rattle.std.proofs.Common.{arith, eqb, eqb-true, eq-eqb}
use Rattle.pg_check.proofs.Common.{list_any, FinSet, nat_cmp, get_or_default, slice_get_within}
use Rattle.pg_check.proofs.Common.{slice_get-get_or, cases_Bool, and_parts, false≢true, Goal, Kind}
use Rattle.pg_check.proofs.Common.{MakerBreaker, MakerMaker, AvoiderEnforcer, Switching, Side, X, Y}
use Rattle.pg_check.proofs.Common.{Game, Position, is_free, point_count, free_points, after}
use Rattle.pg_check.proofs.Common.{with_turn, IsPosition, Forces, may_attack, IsThreatLine}
use Rattle.pg_check.proofs.Common.{Forces-threat, TreesHold, CutsHold, Claim, Cert, Node, Body}
use Rattle.pg_check.proofs.Common.{Over, Move, Pairs, Potential, Trees, Cuts, Threat, Weaker, Reply}
use Rattle.pg_check.proofs.Common.{position_of, IsTurn, IsNode, IsClaim, IsWithinLimits, is_allowed}
use Rattle.pg_check.proofs.Common.{shows_defence, shows_trees, shows_cuts, pairs_fit, allows_weaker}
use Rattle.pg_check.proofs.Common.{IsInGame, NamesEarlier, IsNodeOf, FollowsMove, FollowMoves}
use Rattle.pg_check.proofs.Common.{HasTurn, TakesFree, EndsRight, PotentialFits, with_e_named}
use Rattle.pg_check.proofs.Common.{HasPairs, HasPotential, HasTrees, HasCuts, HasThreat, HasWeaker}
use Rattle.pg_check.proofs.Common.{IsOwed, IsSound, IsValidClaim, IsValid}
use Rattle.std.specs.List.{All as Each}
use Rattle.pg_base.specs.declared.goal.Goal.TheVariants.{Win, Draw as AtLeastDraw}
use Rattle.pg_base.specs.declared.pair.Pair.{Pair}
use Rattle.pg_game.specs.Pairs.{PairsHold}
use Rattle.pg_game.proofs.ValueLaws.{Forces-over, Forces-move, Forces-all, Forces-any}
use Rattle.pg_game.proofs.FreePoints.{any-free_points}
use Rattle.pg_pairing.proofs.PairLaws.{Forces-pairs_breaker, Forces-pairs_draw}
use Rattle.pg_pairing.proofs.PairLaws.{Forces-pairs_avoider}
use Rattle.pg_potential.proofs.PotentialLaws.{Forces-potential_breaker, Forces-potential_draw}
use Rattle.pg_potential.proofs.AvoiderLaws.{Forces-avoider}
use Rattle.pg_switch.proofs.SwitchLaws.{Forces-trees, Forces-cuts}
use Rattle.pg_game.proofs.NoWorse.{Forces-no_worse}
use Rattle.pg_cert.specs.declared.node.Body.TheVariants.{All}
use Rattle.pg_cert.specs.declared.node_fault.NodeFault.TheVariants as faults

-- ---- pairs

-- where pairs are allowed and hold, they force the goal
pub pairs_at : (kind : Kind) (bias : ℕ) (side : Side) (goal : Goal) (g : Game) (p : Position)
    (pairs : List Pair)
    → g.kind ≡ kind
    → (shows_defence kind side goal && pairs_fit kind bias) ≡ true
    → IsPosition g p
    → PairsHold g p side pairs
    → Forces g p side goal
pairs_at MakerBreaker bias X goal g p pairs kind ok position h = absurd (false≢true ok)
pairs_at MakerBreaker bias Y goal g p pairs kind ok position h =
    Forces-any g p Y goal (Forces-pairs_breaker g p pairs kind position h)
pairs_at MakerMaker bias side Win g p pairs kind ok position h = absurd (false≢true ok)
pairs_at MakerMaker bias side AtLeastDraw g p pairs kind ok position h =
    Forces-pairs_draw g p side pairs kind position h
pairs_at AvoiderEnforcer bias X goal g p pairs kind ok position h =
    Forces-any g p X goal (Forces-pairs_avoider g p pairs kind position h)
pairs_at AvoiderEnforcer bias Y goal g p pairs kind ok position h = absurd (false≢true ok)
pairs_at Switching bias side goal g p pairs kind ok position h = absurd (false≢true ok)

-- ---- potentials

-- where a potential is allowed and holds, it forces the goal
potential_at : (kind : Kind) (side : Side) (goal : Goal) (g : Game) (p : Position)
    → g.kind ≡ kind
    → shows_defence kind side goal ≡ true
    → IsPosition g p
    → PotentialFits kind g p side
    → Forces g p side goal
potential_at MakerBreaker X goal g p kind ok position h = absurd (false≢true ok)
potential_at MakerBreaker Y goal g p kind ok position h =
    Forces-any g p Y goal (Forces-potential_breaker g p kind position h)
potential_at MakerMaker side Win g p kind ok position h = absurd (false≢true ok)
potential_at MakerMaker side AtLeastDraw g p kind ok position h =
    Forces-potential_draw g p side kind position h
potential_at AvoiderEnforcer X goal g p kind ok position h =
    Forces-any g p X goal (Forces-avoider g p kind position h)
potential_at AvoiderEnforcer Y goal g p kind ok position h = absurd (false≢true ok)
potential_at Switching side goal g p kind ok position h = absurd (false≢true ok)

-- ---- trees and cuts

-- where trees are allowed and hold, they force the goal
trees_at : (kind : Kind) (side : Side) (goal : Goal) (g : Game) (p : Position)
    (first second : FinSet nat_cmp)
    → shows_trees kind side ≡ true
    → IsPosition g p
    → TreesHold g p first second
    → Forces g p side goal
trees_at MakerBreaker side goal g p first second ok position h = absurd (false≢true ok)
trees_at MakerMaker side goal g p first second ok position h = absurd (false≢true ok)
trees_at AvoiderEnforcer side goal g p first second ok position h = absurd (false≢true ok)
trees_at Switching X goal g p first second ok position h =
    Forces-any g p X goal (Forces-trees g p first second position h)
trees_at Switching Y goal g p first second ok position h = absurd (false≢true ok)

-- where cuts are allowed and hold, they force the goal
cuts_at : (kind : Kind) (side : Side) (goal : Goal) (g : Game) (p : Position)
    (first second : FinSet nat_cmp)
    → shows_cuts kind side ≡ true
    → IsPosition g p
    → CutsHold g p first second
    → Forces g p side goal
cuts_at MakerBreaker side goal g p first second ok position h = absurd (false≢true ok)
cuts_at MakerMaker side goal g p first second ok position h = absurd (false≢true ok)
cuts_at AvoiderEnforcer side goal g p first second ok position h = absurd (false≢true ok)
cuts_at Switching X goal g p first second ok position h = absurd (false≢true ok)
cuts_at Switching Y goal g p first second ok position h =
    Forces-any g p Y goal (Forces-cuts g p first second position h)

-- ---- threat lines

-- where threat lines are allowed, one forces the goal
threat_at : (kind : Kind) (bias : ℕ) (side : Side) (goal : Goal) (g : Game) (p : Position)
    (points : List ℕ)
    → g.kind ≡ kind
    → (may_attack kind side && bias == 1) ≡ true
    → IsPosition g p
    → IsThreatLine g p side points
    → Forces g p side goal
threat_at kind bias side goal g p points same ok position h =
    let may = (and_parts (may_attack kind side) _ ok).0 in
    Forces-any g p side goal
    (Forces-threat g p side points
    (subst (λ (k : Kind). may_attack k side ≡ true) (sym same) may) position h)

-- ---- weaker positions

-- a weaker position is allowed in Maker-Breaker alone
pub breaker_at : (kind : Kind) → allows_weaker kind ≡ true → kind ≡ MakerBreaker
breaker_at MakerBreaker ok = refl
breaker_at MakerMaker ok = absurd (false≢true ok)
breaker_at AvoiderEnforcer ok = absurd (false≢true ok)
breaker_at Switching ok = absurd (false≢true ok)

-- ---- limits of the members

-- a member that is read with itself as the default
get_or_same : {A : Type 0} (xs : List A) (k : ℕ) (d : A)
    → k < length xs
    → get_or xs k d ≡ get_or xs k (get_or xs k d)
get_or_same xs k d lt = get_or_default xs k d (get_or xs k d) lt

-- what holds of all members holds of one
member : {A : Type 0} (P : A → Type 0) (xs : List A) (k : ℕ) (x : A)
    → Each P xs
    → slice_get xs k ≡ Some x
    → P x
member P xs k x all at =
    let within = slice_get_within xs k x at in
    let is : Some (get_or xs k x) ≡ Some x = sym (slice_get-get_or xs k x within) ∙ at in
    let same : get_or xs k x ≡ x = cc in
    subst (λ y. P y) same (all k x within)

pub claim_limits : (c : Cert)
    → IsWithinLimits c
    → (i : ℕ) (claim : Claim) → slice_get c.claims i ≡ Some claim
    → IsClaim claim
claim_limits c limits i claim at = member IsClaim c.claims i claim limits.claims at

pub node_limits : {c : Claim}
    → IsClaim c
    → (j : ℕ) (n : Node) → slice_get c.nodes j ≡ Some n
    → IsNode n
node_limits {c = c} limits j n at = member IsNode c.nodes j n limits.nodes at

-- the last node of a claim
last_node : {c : Claim}
    → IsClaim c
    → (k : ℕ) × (n : Node) × (k + 1 ≡ length c.nodes) × (slice_get c.nodes k ≡ Some n)
last_node {c = c} limits = last_of c.nodes limits.some
  where
    last_of : (nodes : List Node)
        → 0 < length nodes
        → (k : ℕ) × (n : Node) × (k + 1 ≡ length nodes) × (slice_get nodes k ≡ Some n)
    last_of [] h = absurd (omega arith)
    last_of (n ∷ []) h = (0, n, refl, refl)
    last_of (n ∷ (m ∷ nodes)) h =
        let rest = last_of (m ∷ nodes) (omega arith) in
        (suc rest.0, rest.1, omega (arith, rest.2), rest.3)

-- ---- all replies

-- the reply that takes the point
reply_of : (replies : List Reply) (v : ℕ)
    → list_any (λ q. eqb q v) (map (λ r. r.point) replies) ≡ true
    → (k : ℕ) × ((r : Reply) → r ≡ get_or replies k r → r.point ≡ v) × (k < length replies)
reply_of [] v h = absurd (false≢true h)
reply_of (r ∷ replies) v h = elim (cases_Bool (eqb r.point v)) [
  | inl on ↦ (0, λ q is. ap (λ (s : Reply). s.point) is ∙ eqb-true _ _ on, omega arith)
  | inr off ↦
      let rest = reply_of replies v (rw off at h) in
      (suc rest.0, rest.1, omega (arith, rest.2))
]

-- ---- nodes

-- the side to move of a turn claims a point
pub some-left : (turn : Side) (left : ℕ) → IsTurn turn left → 0 < left
some-left X left one = omega (arith, one)
some-left Y left several = several.0

-- a sound node's position is a position of the game
position-of : (g : Game) (n : Node) → IsNode n → IsInGame g n → IsPosition g (position_of n)
position-of g n limits in_game = record {
  x_range = in_game.x;
  y_range = in_game.y;
  disjoint = limits.apart;
  some_left = some-left n.turn n.left limits.turn;
  few_left = in_game.left;
}

module _ (g : Game) (c : Claim) where
  -- every node before k is forced
  ForcedBefore : ℕ → Type 0
  ForcedBefore k = (j : ℕ) (n : Node) → j < k
      → slice_get c.nodes j ≡ Some n
      → Forces g (position_of n) c.side c.goal

  child : (k j : ℕ) (q : Position)
      → ForcedBefore k
      → j < k
      → IsNodeOf c.nodes j q
      → Forces g q c.side c.goal
  unfolding ForcedBefore
  child k j q before lt h =
      subst (λ (p : Position). Forces g p c.side c.goal) h.position (before j h.node lt h.at)

  -- each reply leads to a forced node
  reply_forced : (k : ℕ) (p : Position) (replies : List Reply)
      → ForcedBefore k
      → ((i : ℕ) (d : Reply) → i < length replies → (get_or replies i d).child < k)
      → ((i : ℕ) (d : Reply) → i < length replies
      → FollowsMove g c.nodes p (get_or replies i d).point (get_or replies i d).child)
      → map (λ r. r.point) replies ≡ free_points g p
      → (v : ℕ) → v < point_count g
      → is_free p v ≡ true
      → Forces g (after g p v) c.side c.goal
  reply_forced k p replies before earlier follow exact v range free =
      let listed : list_any (λ q. eqb q v) (map (λ r. r.point) replies) ≡ true =
      subst (λ (vs : List ℕ). list_any (λ q. eqb q v) vs ≡ true) (sym exact)
      (any-free_points g p (λ q. eqb q v) v range free (eq-eqb v v refl)) in
      let found = reply_of replies v listed in
      let some : Reply = record { point = 0; child = 0 } in
      let r : Reply = get_or replies found.0 some in
      let point : r.point ≡ v = found.1 r (get_or_same replies found.0 some found.2) in
      let next = follow found.0 some found.2 in
      child k r.child (after g p v) before (earlier found.0 some found.2)
      (subst (λ (q : ℕ). IsNodeOf c.nodes r.child (after g p q)) point
      (next.leads (subst (λ (q : ℕ). q < point_count g) (sym point) range)
      (subst (λ (q : ℕ). is_free p q ≡ true) (sym point) free)))

  body : (k : ℕ) (p : Position) (b : Body)
      → ForcedBefore k
      → is_allowed g.kind g.bias c.side c.goal b ≡ true
      → IsPosition g p
      → NamesEarlier k b
      → FollowMoves g c.nodes p b
      → HasTurn c.side p b
      → TakesFree g p b
      → EndsRight g c.side c.goal p b
      → HasPairs g c.side p b
      → HasPotential g c.side p b
      → HasTrees g p b
      → HasCuts g p b
      → HasThreat g c.side p b
      → HasWeaker c.nodes c.side p b
      → Forces g p c.side c.goal
  body k p Over before allowed position earlier follow turn takes ends pairs potential trees cuts
      threat weaker = Forces-over g p c.side c.goal ends.0 ends.1
  body k p (Move point j) before allowed position earlier follow turn takes ends pairs potential
      trees cuts threat weaker = Forces-move g p c.side c.goal ends turn point takes.0 takes.1
      (child k j (after g p point) before earlier (follow.leads takes.0 takes.1))
  body k p (All replies) before allowed position earlier follow turn takes ends pairs potential
      trees cuts threat weaker =
      Forces-all g p c.side c.goal ends turn (reply_forced k p replies before earlier follow takes)
  body k p (Pairs pairs_of) before allowed position earlier follow turn takes ends pairs potential
      trees cuts threat weaker =
      pairs_at g.kind g.bias c.side c.goal g p pairs_of refl allowed position pairs
  body k p Potential before allowed position earlier follow turn takes ends pairs potential trees
      cuts threat weaker = potential_at g.kind c.side c.goal g p refl allowed position potential
  body k p (Trees with_e first second) before allowed position earlier follow turn takes ends pairs
      potential trees cuts threat weaker = trees_at g.kind c.side c.goal g p
      (with_e_named g with_e first) second allowed position trees.1
  body k p (Cuts with_e first second) before allowed position earlier follow turn takes ends pairs
      potential trees cuts threat weaker =
      cuts_at g.kind c.side c.goal g p (with_e_named g with_e first) second allowed position cuts.1
  body k p (Threat points) before allowed position earlier follow turn takes ends pairs potential
      trees cuts threat weaker =
      threat_at g.kind g.bias c.side c.goal g p points refl allowed position threat
  body k p (Weaker j) before allowed position earlier follow turn takes ends pairs potential trees
      cuts threat weaker =
      Forces-no_worse g (position_of weaker.node) p c.side c.goal (breaker_at g.kind allowed)
      weaker.no_worse (child k j (position_of weaker.node) before earlier (record {
        node = weaker.node;
        at = weaker.at;
        position = refl;
      }))

  sound : (k : ℕ) (n : Node)
      → ForcedBefore k
      → IsPosition g (position_of n)
      → IsSound g c k n
      → Forces g (position_of n) c.side c.goal
  sound k n before position h =
      let allowed = h faults.Body in
      let marks = h faults.Marks in
      let owed : IsOwed g c n = record { allowed = allowed; in_game = marks.0 } in
      body k (position_of n) n.body before allowed position (h faults.Child allowed) marks.1
      (h faults.Turn owed) (h faults.Moves owed) (h faults.End owed) (h faults.Pairs owed)
      (h faults.Potential owed) (h faults.Trees owed) (h faults.Cuts owed) (h faults.Threat owed)
      (h faults.Weaker owed (h faults.Child allowed))

  forced-before : ((k : ℕ) (n : Node) → slice_get c.nodes k ≡ Some n → IsPosition g (position_of n))
      → IsValidClaim g c
      → (k : ℕ) → ForcedBefore k
  unfolding ForcedBefore
  forced-before stands valid zero j n lt at = absurd (omega arith)
  forced-before stands valid (suc k) j n lt at =
      sound j n (λ i m below here. forced-before stands valid k i m (omega arith) here)
      (stands j n at) (valid j n at)

  -- every node of a valid claim is forced, where the nodes stand on positions of the game, at any
  -- bias
  pub Forces-standing :
      ((k : ℕ) (n : Node) → slice_get c.nodes k ≡ Some n → IsPosition g (position_of n))
      → IsValidClaim g c
      → (k : ℕ) (n : Node) → slice_get c.nodes k ≡ Some n
      → Forces g (position_of n) c.side c.goal
  unfolding ForcedBefore
  Forces-standing stands valid k n at = forced-before stands valid (suc k) k n (omega arith) at

  -- the nodes of a claim within the limits do
  pub Forces-node : IsClaim c
      → IsValidClaim g c
      → (k : ℕ) (n : Node) → slice_get c.nodes k ≡ Some n
      → Forces g (position_of n) c.side c.goal
  Forces-node limits valid = Forces-standing
      (λ k n at. position-of g n (node_limits limits k n at) (valid k n at faults.Marks).0) valid

  -- so its claim is forced from the game's marks
  pub Forces-claim : IsClaim c → IsValidClaim g c → Forces g (with_turn g c.turn) c.side c.goal
  Forces-claim limits valid =
      let last = last_node limits in
      subst (λ (p : Position). Forces g p c.side c.goal)
      (valid last.0 last.1 last.3 faults.Root last.2)
      (Forces-node limits valid last.0 last.1 last.3)

-- every claim of a valid certificate
pub Forces-claims : (g : Game) (c : Cert)
    → IsWithinLimits c
    → IsValid g c
    → (i : ℕ) (claim : Claim) → slice_get c.claims i ≡ Some claim
    → Forces g (with_turn g claim.turn) claim.side claim.goal
Forces-claims g c limits valid i claim at =
    Forces-claim g claim (claim_limits c limits i claim at) (valid i claim at)
