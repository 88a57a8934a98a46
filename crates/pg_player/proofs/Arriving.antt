-- What a player has at a node of its claim when it comes there.
use Rattle.std.proofs.Common.{◌≡◌, ◌∙◌, ℕ, zero, suc, ◌<◌, true, false, Option, Some, None}
use Rattle.std.proofs.Common.{option_map, slice_get, refl, sym, ap, subst, inl, inr, arith}
use Rattle.pg_player.proofs.Common.{∥∥₁_elim, le_prop, false≢true, Coded-set, coded_bool, other}
use Rattle.pg_player.proofs.Common.{Kind, MakerBreaker, MakerMaker, AvoiderEnforcer, Switching}
use Rattle.pg_player.proofs.Common.{Side, Game, Position, is_over, IsPosition, Forces, side≢other}
use Rattle.pg_player.proofs.Common.{Claim, Node, Body, Over, Move, All, Pairs, Potential, Trees}
use Rattle.pg_player.proofs.Common.{Cuts, Threat, Weaker, position_of, Standing, settles_by}
use Rattle.pg_player.proofs.Common.{settled_within, arrives, is_allowed, NamesEarlier, FollowMoves}
use Rattle.pg_player.proofs.Common.{HasTurn, TakesFree, EndsRight, PotentialFits, HasPairs}
use Rattle.pg_player.proofs.Common.{HasPotential, HasTrees, HasCuts, HasThreat, IsNoWorseThanNode}
use Rattle.pg_player.proofs.Common.{HasWeaker, IsNodeOf, IsOwed, IsSound, breaker_at, node_limits}
use Rattle.pg_player.proofs.Common.{some-left, Forces-node}
use Rattle.pg_pairing.proofs.OpenPairs.{RestHolds-from, ArePairsOf-from}
use Rattle.pg_cert.specs.declared.node_fault.NodeFault.TheVariants as faults
use Rattle.pg_player.specs.Beside.{IsBeside}
use Rattle.pg_player.specs.InPlay.{Ready, Waiting, Stands, PotentialWaiting, IsSoundClaim, GoesOn}
use Rattle.pg_player.specs.Stand.{Settles}
use Rattle.pg_player.proofs.Beside.{IsBeside-trans}
use Rattle.pg_player.proofs.Settling.{IsOwn, weaker_or_own, settles_by-own, settled_within-at}

-- what a sound node gives, part by part
record Owed (g : Game) (c : Claim) (p : Position) (b : Body) : Type 0 where
  pub allowed : is_allowed g.kind g.bias c.side c.goal b ≡ true
  pub follow : FollowMoves g c.nodes p b
  pub turn : HasTurn c.side p b
  pub takes : TakesFree g p b
  pub ends : EndsRight g c.side c.goal p b
  pub pairs : HasPairs g c.side p b
  pub potential : HasPotential g c.side p b
  pub trees : HasTrees g p b
  pub cuts : HasCuts g p b
  pub threat : HasThreat g c.side p b
  pub weaker : HasWeaker c.nodes c.side p b

owed : (g : Game) (c : Claim) (k : ℕ) (n : Node) → IsSound g c k n → Owed g c (position_of n) n.body
owed g c k n h =
    let due : IsOwed g c n = record { allowed = h faults.Body; in_game = (h faults.Marks).0 } in
    record {
      allowed = h faults.Body;
      follow = (h faults.Marks).1;
      turn = h faults.Turn due;
      takes = h faults.Moves due;
      ends = h faults.End due;
      pairs = h faults.Pairs due;
      potential = h faults.Potential due;
      trees = h faults.Trees due;
      cuts = h faults.Cuts due;
      threat = h faults.Threat due;
      weaker = h faults.Weaker due (h faults.Child due.allowed);
    }

potential-waits : (kind : Kind) (g : Game) (p : Position) (side : Side)
    → PotentialFits kind g p side
    → PotentialWaiting kind g p side
potential-waits MakerBreaker g p side h = h
potential-waits MakerMaker g p side h = h
potential-waits AvoiderEnforcer g p side h = inl h
potential-waits Switching g p side h = h

-- ---- from `weaker` to its child, until a node has another body

-- where a player stands that comes to the node with the number k, whose position is beside q: at a
-- node with another body than `weaker`, whose position is beside q too
record Settled (g : Game) (c : Claim) (q : Position) (steps k : ℕ) : Type 0 where
  pub number : ℕ
  pub node : Node
  pub at : slice_get c.nodes number ≡ Some node
  pub is : settled_within steps c.nodes k ≡ Some node
  pub own : IsOwn node.body
  pub beside : IsBeside g c.side (position_of node) q

module _ (g : Game) (c : Claim) (h : IsSoundClaim g c) where
  -- at `weaker` the child is earlier, and the position is no worse than the child's
  settles-weaker : (k j : ℕ) (n : Node)
      → slice_get c.nodes k ≡ Some n
      → n.body ≡ Weaker j
      → (j < k)
      × (m : Node) × (slice_get c.nodes j ≡ Some m)
      × IsBeside g c.side (position_of m) (position_of n)
  settles-weaker k j n at is =
      let all = owed g c k n (h.valid k n at) in
      let earlier : j < k =
      subst (λ (b : Body). NamesEarlier k b) is (h.valid k n at faults.Child all.allowed) in
      let child : IsNoWorseThanNode c.nodes c.side (position_of n) j =
      subst (λ (b : Body). HasWeaker c.nodes c.side (position_of n) b) is all.weaker in
      let kind = breaker_at g.kind
      (subst (λ (b : Body). is_allowed g.kind g.bias c.side c.goal b ≡ true) is all.allowed) in
      (earlier, child.node, child.at, inr (kind, child.no_worse))

  settles : (q : Position) (steps k : ℕ) (n : Node)
      → k < steps
      → slice_get c.nodes k ≡ Some n
      → IsBeside g c.side (position_of n) q
      → Settled g c q steps k
  settles q zero k n few at beside = absurd (omega arith)
  settles q (suc steps) k n few at beside = elim (weaker_or_own n.body) [
    | inl weaker ↦
        let child = settles-weaker k weaker.0 n at weaker.1 in
        let further = settles q steps weaker.0 child.1 (omega (arith, child.0)) child.2
        (IsBeside-trans g c.side (position_of child.1) (position_of n) q child.3 beside) in
        record {
          number = further.number;
          node = further.node;
          at = further.at;
          is = settled_within-at c.nodes steps k n at
              ∙ ap (settles_by (settled_within steps c.nodes) n) weaker.1
              ∙ further.is;
          own = further.own;
          beside = further.beside;
        }
    | inr own ↦ record {
      number = k;
      node = n;
      at = at;
      is = settled_within-at c.nodes steps k n at
          ∙ settles_by-own (settled_within steps c.nodes) n n.body own;
      own = own;
      beside = beside;
    }
  ]

  -- so a player that comes to a node finds one to stand at
  pub Settles-node : (k : ℕ) (n : Node) → slice_get c.nodes k ≡ Some n → Settles c.nodes k
  Settles-node k n at =
      let end = settles (position_of n) (suc k) k n (omega arith) at (inl refl) in
      (end.node, end.is)

-- ---- what it has there

module _ (g : Game) (c : Claim) (p : Position) where
  ready : (b : Body)
      → IsOwn b
      → Owed g c p b
      → is_over g p ≡ false
      → p.turn ≡ c.side
      → Ready g c p b None
  ready Over own h going mine = false≢true (sym going ∙ h.ends.0)
  ready (Move point child) own h going mine = record {
    within = h.takes.0;
    free = h.takes.1;
    next = h.follow.leads h.takes.0 h.takes.1;
  }
  ready (All replies) own h going mine = side≢other c.side (sym mine ∙ h.turn)
  ready (Pairs pairs) own h going mine = record {
    are = ArePairsOf-from g p c.side pairs h.pairs;
    state = inr (inl (refl, RestHolds-from g p c.side pairs h.pairs));
  }
  ready Potential own h going mine = h.potential
  ready (Trees with_e first second) own h going mine = h.trees.1
  ready (Cuts with_e first second) own h going mine = h.cuts.1
  ready (Threat points) own h going mine = h.threat.leads
  ready (Weaker child) own h going mine = own

  waiting : (b : Body)
      → IsOwn b
      → Owed g c p b
      → is_over g p ≡ false
      → p.turn ≡ other c.side
      → Waiting g c p b
  waiting Over own h going theirs = false≢true (sym going ∙ h.ends.0)
  waiting (Move point child) own h going theirs = side≢other c.side (sym h.turn ∙ theirs)
  waiting (All replies) own h going theirs = record { exact = h.takes; next = h.follow }
  waiting (Pairs pairs) own h going theirs = record {
    are = ArePairsOf-from g p c.side pairs h.pairs;
    holds = RestHolds-from g p c.side pairs h.pairs;
  }
  waiting Potential own h going theirs = potential-waits g.kind g p c.side h.potential
  waiting (Trees with_e first second) own h going theirs = h.trees.1
  waiting (Cuts with_e first second) own h going theirs = h.cuts.1
  waiting (Threat points) own h going theirs = absurd (side≢other c.side (sym h.turn ∙ theirs))
  waiting (Weaker child) own h going theirs = own

Stands-node : (g : Game) (c : Claim) (k : ℕ) (n : Node)
    → IsOwn n.body
    → IsSound g c k n
    → Stands g c (record { body = n.body; last = None; imagined = position_of n })
Stands-node g c k n own h =
    let all = owed g c k n h in
    record {
      allowed = all.allowed;
      ready = ready g c (position_of n) n.body own all;
      waiting = waiting g c (position_of n) n.body own all;
    }

Forces-sound : (g : Game) (c : Claim) (k : ℕ) (n : Node)
    → IsSoundClaim g c
    → slice_get c.nodes k ≡ Some n
    → Forces g (position_of n) c.side c.goal
Forces-sound g c k n h at =
    ∥∥₁_elim h.limits (Coded-set coded_bool _ _) (λ limits. Forces-node g c limits h.valid k n at)

-- a sound claim's nodes have positions of the game
IsPosition-sound : (g : Game) (c : Claim) (k : ℕ) (n : Node)
    → IsSoundClaim g c
    → slice_get c.nodes k ≡ Some n
    → IsPosition g (position_of n)
IsPosition-sound g c k n h at =
    let in_game = (h.valid k n at faults.Marks).0 in
    record {
      x_range = in_game.x;
      y_range = in_game.y;
      disjoint = λ v on. ∥∥₁_elim h.limits (Coded-set coded_bool _ _)
          (λ limits. (node_limits limits k n at).apart v on);
      some_left = ∥∥₁_elim h.limits le_prop
          (λ limits. some-left n.turn n.left (node_limits limits k n at).turn);
      few_left = in_game.left;
    }

-- a player goes on where it imagines the position itself
pub goes_on : (g : Game) (c : Claim) (q : Position) (body : Body) (last : Option ℕ)
    → IsSoundClaim g c
    → IsPosition g q
    → Forces g q c.side c.goal
    → Stands g c (record { body = body; last = last; imagined = q })
    → GoesOn g c q (record { body = body; last = last; imagined = q })
goes_on g c q body last sound position forced stands = record {
  playing = record { sound = sound; position = position; forced = forced; stands = stands };
  beside = inl refl;
}

-- a player that comes to the node of the position goes on there
pub arrived : (g : Game) (c : Claim) (k : ℕ) (q : Position) (s : Standing)
    → IsSoundClaim g c
    → IsNodeOf c.nodes k q
    → arrives c.nodes k ≡ Some s
    → GoesOn g c q s
arrived g c k q s h there comes =
    let end = settles g c h q (suc k) k there.node (omega arith) there.at (inl there.position) in
    let n = end.node in
    let is : Some (record {
      body = n.body;
      last = None;
      imagined = position_of n;
    }) ≡ Some s = sym (ap (option_map (λ (m : Node). record {
      body = m.body;
      last = None;
      imagined = position_of m;
    })) end.is)
    ∙ comes in
    let same : ◌≡◌ {A = Standing} (record {
      body = n.body;
      last = None;
      imagined = position_of n;
    }) s = cc in
    subst (λ (t : Standing). GoesOn g c q t) same (record {
      playing = record {
        sound = h;
        position = IsPosition-sound g c end.number n h end.at;
        forced = Forces-sound g c end.number n h end.at;
        stands = Stands-node g c end.number n end.own (h.valid end.number n end.at);
      };
      beside = end.beside;
    })
