-- The soundness of a node is decided by tests, so that it holds wherever it is known to hold
-- without a proof at hand.
use Rattle.std.proofs.Common.{◌≡◌, ◌∙◌, ℕ, suc, Bool, true, false, ◌&&◌, List, Option}
use Rattle.std.proofs.Common.{Some, None, slice_get, refl, sym, ap, subst}
use Rattle.std.proofs.Common.{eqb, Any}
use Rattle.pg_player.proofs.Common.{∥∥₁_elim, ∥∥₁_map, le_prop, and_parts, Coded-set}
use Rattle.pg_player.proofs.Common.{coded_ℕ, coded_list, FinSet, list_any}
use Rattle.pg_player.proofs.Common.{nat_cmp, AreBelow, Goal, Kind, MakerBreaker, MakerMaker}
use Rattle.pg_player.proofs.Common.{AvoiderEnforcer, Switching, Pair, Side, X, Y, Field, Lines}
use Rattle.pg_player.proofs.Common.{Game, Position, point_count, after, PairsHold}
use Rattle.pg_player.proofs.Common.{HoldsPair, IsThreatLine, AreTrees}
use Rattle.pg_player.proofs.Common.{AreCuts, TreesHoldOn, CutsHoldOn, with_set, IsNoWorse, Claim}
use Rattle.pg_player.proofs.Common.{Node, Body, Over, Move, Pairs, Potential, Trees, Cuts, Threat}
use Rattle.pg_player.proofs.Common.{Weaker, position_of, IsInGame, NamesEarlier, IsNodeOf}
use Rattle.pg_player.proofs.Common.{FollowsMove, FollowMoves, HasTurn, TakesFree, EndsRight}
use Rattle.pg_player.proofs.Common.{PotentialFits, with_e_named, HasPairs, HasPotential, HasTrees}
use Rattle.pg_player.proofs.Common.{HasCuts, HasThreat, IsNoWorseThanNode, HasWeaker, Passes}
use Rattle.pg_player.proofs.Common.{IsSound, IsValidClaim}
use Rattle.pg_base.specs.Sets.{IsBelow}
use Rattle.pg_graph.specs.declared.graph.Graph.{Graph}
use Rattle.pg_graph.specs.Graph.{edge_count, IsJoinedIn}
use Rattle.pg_graph.proofs.GraphLemmas.{joins_in-sound, joins_in-complete}
use Rattle.pg_game.specs.contracts.position.Position as position_row
use Rattle.pg_game.specs.declared.field.Field.TheVariants.{Graph as OnGraph}
use Rattle.pg_game.specs.Field.{field_points}
use Rattle.pg_game.proofs.ThreatSearch.{leads_test, leads-tested, tested-leads}
use Rattle.pg_game.proofs.Members.{list_any-one, member-from_any}
use Rattle.pg_switch.proofs.EdgeSets.{with_e-edges, free-edges, with_set-edges}
use Rattle.pg_switch.proofs.Known.{same_bool, same_number, same_side, less, are_free, free_or_e}
use Rattle.pg_pairing.proofs.PairLoops.{Contains-any, any-Contains}
use Rattle.pg_cert.specs.declared.node.Body.TheVariants.{All as Every}
use Rattle.pg_cert.specs.declared.node_fault.NodeFault.{NodeFault}
use Rattle.pg_cert.specs.declared.node_fault.NodeFault.TheVariants as faults

-- ---- facts that have one proof at most

same_position : (a b : Position) → ∥ a ≡ b ∥₁ → a ≡ b
same_position a b t = ∥∥₁_elim t (Coded-set position_row.the_row.coded a b) (λ x. x)

same_list : (a b : List ℕ) → ∥ a ≡ b ∥₁ → a ≡ b
same_list a b t = ∥∥₁_elim t (Coded-set (coded_list coded_ℕ) a b) (λ x. x)

never : ∥ ⊥ ∥₁ → ⊥
never t = let one : IsProp ⊥ = hlevel in ∥∥₁_elim t one (λ (x : ⊥). x)

-- ---- nodes and children

node-of : (nodes : List Node) (j : ℕ) (q : Position) (o : Option Node)
    → slice_get nodes j ≡ o
    → ∥ IsNodeOf nodes j q ∥₁
    → IsNodeOf nodes j q
node-of nodes j q None e t =
    absurd (never (∥∥₁_map t (λ c. let f : None ≡ Some c.node = sym e ∙ c.at in cc)))
node-of nodes j q (Some n) e t = record {
  node = n;
  at = e;
  position = same_position (position_of n) q (∥∥₁_map t (λ c.
      let f : Some n ≡ Some c.node = sym e ∙ c.at in
      let s : n ≡ c.node = cc in ap position_of s ∙ c.position));
}

follows : (g : Game) (nodes : List Node) (p : Position) (v j : ℕ)
    → ∥ FollowsMove g nodes p v j ∥₁
    → FollowsMove g nodes p v j
follows g nodes p v j t = record {
  leads = λ within free. node-of nodes j (after g p v) (slice_get nodes j) refl
      (∥∥₁_map t (λ h. h.leads within free));
}

-- ---- pairs

some_pair : (line : List ℕ) (pairs : List Pair)
    → ∥ Any (HoldsPair line) pairs ∥₁
    → Any (HoldsPair line) pairs
some_pair line pairs t =
    let has : ℕ → Bool = λ q. list_any (λ v. eqb v q) line in
    let on : list_any (λ s. has s.a && has s.b) pairs ≡ true = same_bool _ _ (∥∥₁_map t (λ held.
    let s = held.1 in
    list_any-one (λ r. has r.a && has r.b) pairs s (held.0, held.2, held.3) (both (has s.a)
    (has s.b) (any-Contains line s.a held.4.0) (any-Contains line s.b held.4.1)))) in
    let found = member-from_any (λ s. has s.a && has s.b) pairs on in
    let parts = and_parts (has found.0.a) (has found.0.b) found.2 in (
      found.1.0,
      found.0,
      found.1.1,
      found.1.2,
      (Contains-any line found.0.a parts.0, Contains-any line found.0.b parts.1),
    )
  where
    both : (a b : Bool) → a ≡ true → b ≡ true → (a && b) ≡ true
    both true b x y = y
    both false b x y = x

pairs-hold : (g : Game) (p : Position) (side : Side) (pairs : List Pair)
    → ∥ PairsHold g p side pairs ∥₁
    → PairsHold g p side pairs
pairs-hold g p side pairs t = record {
  apart = record {
    range = λ k d lt. (
      less _ _ (∥∥₁_map t (λ h. (h.apart.range k d lt).0)),
      less _ _ (∥∥₁_map t (λ h. (h.apart.range k d lt).1)),
    );
    free = λ k d lt. same_bool _ _ (∥∥₁_map t (λ h. h.apart.free k d lt));
    different = λ k d lt e. never (∥∥₁_map t (λ h. h.apart.different k d lt e));
    disjoint = λ i j d low high. record {
      aa = λ e. never (∥∥₁_map t (λ h. (h.apart.disjoint i j d low high).aa e));
      ab = λ e. never (∥∥₁_map t (λ h. (h.apart.disjoint i j d low high).ab e));
      ba = λ e. never (∥∥₁_map t (λ h. (h.apart.disjoint i j d low high).ba e));
      bb = λ e. never (∥∥₁_map t (λ h. (h.apart.disjoint i j d low high).bb e));
    };
  };
  held = λ k d lt untouched. some_pair _ pairs (∥∥₁_map t (λ h. h.held k d lt untouched));
  avoider = λ kind. record {
    single = same_number _ _ (∥∥₁_map t (λ h. (h.avoider kind).single));
    left_out = same_number _ _ (∥∥₁_map t (λ h. (h.avoider kind).left_out));
  };
}

-- ---- trees and cuts

joined : (h : Graph) (set : ℕ → Bool) (u v : ℕ)
    → IsBelow set (suc (edge_count h))
    → ∥ IsJoinedIn h set u v ∥₁
    → IsJoinedIn h set u v
joined h set u v small t =
    joins_in-sound h set u v (same_bool _ _ (∥∥₁_map t (joins_in-complete h set u v small)))

trees-on : (h : Graph) (p : Position) (a1 a2 : FinSet nat_cmp)
    → AreBelow p.x (edge_count h)
    → ∥ AreTrees h p a1 a2 ∥₁
    → AreTrees h p a1 a2
trees-on h p a1 a2 x_range t =
    let first_free = free_or_e (edge_count h) p X a1 (∥∥₁_map t (λ s. s.first_free)) in
    let second_free = are_free (edge_count h) p a2 (∥∥₁_map t (λ s. s.second_free)) in
    let first_small = with_set-edges h p a1 x_range (with_e-edges h p X a1 first_free) in
    let second_small = with_set-edges h p a2 x_range (free-edges h p a2 second_free) in
    record {
      first_free = first_free;
      second_free = second_free;
      apart = λ f on. same_bool _ _ (∥∥₁_map t (λ s. s.apart f on));
      first = λ f on. joined h (with_set p a1) _ _ first_small (∥∥₁_map t (λ s. s.first f on));
      first_joins = joined h (with_set p a1) _ _ first_small (∥∥₁_map t (λ s. s.first_joins));
      second = λ f on. joined h (with_set p a2) _ _ second_small (∥∥₁_map t (λ s. s.second f on));
      second_joins = joined h (with_set p a2) _ _ second_small (∥∥₁_map t (λ s. s.second_joins));
    }

cuts-on : (h : Graph) (p : Position) (d1 d2 : FinSet nat_cmp)
    → ∥ AreCuts h p d1 d2 ∥₁
    → AreCuts h p d1 d2
cuts-on h p d1 d2 t = record {
  first_free = free_or_e (edge_count h) p Y d1 (∥∥₁_map t (λ s. s.first_free));
  second_free = are_free (edge_count h) p d2 (∥∥₁_map t (λ s. s.second_free));
  apart = λ f on. same_bool _ _ (∥∥₁_map t (λ s. s.apart f on));
  first = λ f on z. never (∥∥₁_map t (λ s. s.first f on z));
  first_parts = λ off z. never (∥∥₁_map t (λ s. s.first_parts off z));
  second = λ f on z. never (∥∥₁_map t (λ s. s.second f on z));
  second_parts = λ z. never (∥∥₁_map t (λ s. s.second_parts z));
}

trees-hold : (field : Field) (p : Position) (a1 a2 : FinSet nat_cmp)
    → AreBelow p.x (field_points field)
    → ∥ TreesHoldOn field p a1 a2 ∥₁
    → TreesHoldOn field p a1 a2
trees-hold (Lines f) p a1 a2 small t = never t
trees-hold (OnGraph h) p a1 a2 small t = trees-on h p a1 a2 small t

cuts-hold : (field : Field) (p : Position) (d1 d2 : FinSet nat_cmp)
    → ∥ CutsHoldOn field p d1 d2 ∥₁
    → CutsHoldOn field p d1 d2
cuts-hold (Lines f) p d1 d2 t = never t
cuts-hold (OnGraph h) p d1 d2 t = cuts-on h p d1 d2 t

-- ---- what a node owes, by its body

names_earlier : (k : ℕ) (b : Body) → ∥ NamesEarlier k b ∥₁ → NamesEarlier k b
names_earlier k Over t = tt
names_earlier k (Move point child) t = less _ _ t
names_earlier k (Every replies) t = λ i d lt. less _ _ (∥∥₁_map t (λ h. h i d lt))
names_earlier k (Pairs pairs) t = tt
names_earlier k Potential t = tt
names_earlier k (Trees with_e first second) t = tt
names_earlier k (Cuts with_e first second) t = tt
names_earlier k (Threat points) t = tt
names_earlier k (Weaker child) t = less _ _ t

follow-moves : (g : Game) (nodes : List Node) (p : Position) (b : Body)
    → ∥ FollowMoves g nodes p b ∥₁
    → FollowMoves g nodes p b
follow-moves g nodes p Over t = tt
follow-moves g nodes p (Move point child) t = follows g nodes p point child t
follow-moves g nodes p (Every replies) t =
    λ i d lt. follows g nodes p _ _ (∥∥₁_map t (λ h. h i d lt))
follow-moves g nodes p (Pairs pairs) t = tt
follow-moves g nodes p Potential t = tt
follow-moves g nodes p (Trees with_e first second) t = tt
follow-moves g nodes p (Cuts with_e first second) t = tt
follow-moves g nodes p (Threat points) t = tt
follow-moves g nodes p (Weaker child) t = tt

has_turn : (side : Side) (p : Position) (b : Body) → ∥ HasTurn side p b ∥₁ → HasTurn side p b
has_turn side p Over t = tt
has_turn side p (Move point child) t = same_side _ _ t
has_turn side p (Every replies) t = same_side _ _ t
has_turn side p (Pairs pairs) t = tt
has_turn side p Potential t = tt
has_turn side p (Trees with_e first second) t = tt
has_turn side p (Cuts with_e first second) t = tt
has_turn side p (Threat points) t = same_side _ _ t
has_turn side p (Weaker child) t = tt

takes_free : (g : Game) (p : Position) (b : Body) → ∥ TakesFree g p b ∥₁ → TakesFree g p b
takes_free g p Over t = tt
takes_free g p (Move point child) t =
    (less _ _ (∥∥₁_map t (λ h. h.0)), same_bool _ _ (∥∥₁_map t (λ h. h.1)))
takes_free g p (Every replies) t = same_list _ _ t
takes_free g p (Pairs pairs) t = tt
takes_free g p Potential t = tt
takes_free g p (Trees with_e first second) t = tt
takes_free g p (Cuts with_e first second) t = tt
takes_free g p (Threat points) t = tt
takes_free g p (Weaker child) t = tt

ends_right : (g : Game) (side : Side) (goal : Goal) (p : Position) (b : Body)
    → ∥ EndsRight g side goal p b ∥₁
    → EndsRight g side goal p b
ends_right g side goal p Over t =
    (same_bool _ _ (∥∥₁_map t (λ h. h.0)), same_bool _ _ (∥∥₁_map t (λ h. h.1)))
ends_right g side goal p (Move point child) t = same_bool _ _ t
ends_right g side goal p (Every replies) t = same_bool _ _ t
ends_right g side goal p (Pairs pairs) t = tt
ends_right g side goal p Potential t = tt
ends_right g side goal p (Trees with_e first second) t = tt
ends_right g side goal p (Cuts with_e first second) t = tt
ends_right g side goal p (Threat points) t = tt
ends_right g side goal p (Weaker child) t = tt

has_pairs : (g : Game) (side : Side) (p : Position) (b : Body)
    → ∥ HasPairs g side p b ∥₁
    → HasPairs g side p b
has_pairs g side p Over t = tt
has_pairs g side p (Move point child) t = tt
has_pairs g side p (Every replies) t = tt
has_pairs g side p (Pairs pairs) t = pairs-hold g p side pairs t
has_pairs g side p Potential t = tt
has_pairs g side p (Trees with_e first second) t = tt
has_pairs g side p (Cuts with_e first second) t = tt
has_pairs g side p (Threat points) t = tt
has_pairs g side p (Weaker child) t = tt

fits : (kind : Kind) (g : Game) (p : Position) (side : Side)
    → ∥ PotentialFits kind g p side ∥₁
    → PotentialFits kind g p side
fits MakerBreaker g p side t = less _ _ t
fits MakerMaker g p side t = less _ _ t
fits AvoiderEnforcer g p side t = less _ _ t
fits Switching g p side t = less _ _ t

has_potential : (g : Game) (side : Side) (p : Position) (b : Body)
    → ∥ HasPotential g side p b ∥₁
    → HasPotential g side p b
has_potential g side p Over t = tt
has_potential g side p (Move point child) t = tt
has_potential g side p (Every replies) t = tt
has_potential g side p (Pairs pairs) t = tt
has_potential g side p Potential t = fits g.kind g p side t
has_potential g side p (Trees with_e first second) t = tt
has_potential g side p (Cuts with_e first second) t = tt
has_potential g side p (Threat points) t = tt
has_potential g side p (Weaker child) t = tt

below : (s : FinSet nat_cmp) (n : ℕ) → ∥ AreBelow s n ∥₁ → AreBelow s n
below s n t v on = less _ _ (∥∥₁_map t (λ h. h v on))

has_trees : (g : Game) (p : Position) (b : Body)
    → AreBelow p.x (point_count g)
    → ∥ HasTrees g p b ∥₁
    → HasTrees g p b
has_trees g p Over small t = tt
has_trees g p (Move point child) small t = tt
has_trees g p (Every replies) small t = tt
has_trees g p (Pairs pairs) small t = tt
has_trees g p Potential small t = tt
has_trees g p (Trees with_e first second) small t = (
  (
    below first (point_count g) (∥∥₁_map t (λ h. h.0.0)),
    below second (point_count g) (∥∥₁_map t (λ h. h.0.1)),
  ),
  trees-hold g.field p (with_e_named g with_e first) second small (∥∥₁_map t (λ h. h.1)),
)
has_trees g p (Cuts with_e first second) small t = tt
has_trees g p (Threat points) small t = tt
has_trees g p (Weaker child) small t = tt

has_cuts : (g : Game) (p : Position) (b : Body) → ∥ HasCuts g p b ∥₁ → HasCuts g p b
has_cuts g p Over t = tt
has_cuts g p (Move point child) t = tt
has_cuts g p (Every replies) t = tt
has_cuts g p (Pairs pairs) t = tt
has_cuts g p Potential t = tt
has_cuts g p (Trees with_e first second) t = tt
has_cuts g p (Cuts with_e first second) t = (
  (
    below first (point_count g) (∥∥₁_map t (λ h. h.0.0)),
    below second (point_count g) (∥∥₁_map t (λ h. h.0.1)),
  ),
  cuts-hold g.field p (with_e_named g with_e first) second (∥∥₁_map t (λ h. h.1)),
)
has_cuts g p (Threat points) t = tt
has_cuts g p (Weaker child) t = tt

-- a threat line is one by tests
threat-line : (g : Game) (p : Position) (side : Side) (points : List ℕ)
    → ∥ IsThreatLine g p side points ∥₁
    → IsThreatLine g p side points
threat-line g p side points t = record {
  single = same_number _ _ (∥∥₁_map t (λ h. h.single));
  going = same_bool _ _ (∥∥₁_map t (λ h. h.going));
  turn = same_side _ _ (∥∥₁_map t (λ h. h.turn));
  leads = tested-leads g side points p
      (same_bool (leads_test g p side points) true
      (∥∥₁_map t (λ h. leads-tested g side points p h.leads)));
}

has_threat : (g : Game) (side : Side) (p : Position) (b : Body)
    → ∥ HasThreat g side p b ∥₁
    → HasThreat g side p b
has_threat g side p Over t = tt
has_threat g side p (Move point child) t = tt
has_threat g side p (Every replies) t = tt
has_threat g side p (Pairs pairs) t = tt
has_threat g side p Potential t = tt
has_threat g side p (Trees with_e first second) t = tt
has_threat g side p (Cuts with_e first second) t = tt
has_threat g side p (Threat points) t = threat-line g p side points t
has_threat g side p (Weaker child) t = tt

-- ---- weaker positions

no_worse : (side : Side) (q p : Position) → ∥ IsNoWorse side q p ∥₁ → IsNoWorse side q p
no_worse side q p t = record {
  own = λ v on. same_bool _ _ (∥∥₁_map t (λ h. h.own v on));
  theirs = λ v on. same_bool _ _ (∥∥₁_map t (λ h. h.theirs v on));
  turn = same_side _ _ (∥∥₁_map t (λ h. h.turn));
  left = same_number _ _ (∥∥₁_map t (λ h. h.left));
}

no_worse-than : (nodes : List Node) (side : Side) (p : Position) (child : ℕ) (o : Option Node)
    → slice_get nodes child ≡ o
    → ∥ IsNoWorseThanNode nodes side p child ∥₁
    → IsNoWorseThanNode nodes side p child
no_worse-than nodes side p child None e t =
    absurd (never (∥∥₁_map t (λ h. let f : None ≡ Some h.node = sym e ∙ h.at in cc)))
no_worse-than nodes side p child (Some n) e t = record {
  node = n;
  at = e;
  no_worse = no_worse side (position_of n) p (∥∥₁_map t (λ h.
      let f : Some n ≡ Some h.node = sym e ∙ h.at in
      let s : h.node ≡ n = cc in
      subst (λ (m : Node). IsNoWorse side (position_of m) p) s h.no_worse));
}

has_weaker : (nodes : List Node) (side : Side) (p : Position) (b : Body)
    → ∥ HasWeaker nodes side p b ∥₁
    → HasWeaker nodes side p b
has_weaker nodes side p (Weaker child) t =
    no_worse-than nodes side p child (slice_get nodes child) refl t
has_weaker nodes side p Over t = tt
has_weaker nodes side p (Move point child) t = tt
has_weaker nodes side p (Every replies) t = tt
has_weaker nodes side p (Pairs pairs) t = tt
has_weaker nodes side p Potential t = tt
has_weaker nodes side p (Trees with_e first second) t = tt
has_weaker nodes side p (Cuts with_e first second) t = tt
has_weaker nodes side p (Threat points) t = tt

-- ---- nodes and claims

in_game : (g : Game) (n : Node) → ∥ IsInGame g n ∥₁ → IsInGame g n
in_game g n t = record {
  x = below n.x (point_count g) (∥∥₁_map t (λ h. h.x));
  y = below n.y (point_count g) (∥∥₁_map t (λ h. h.y));
  left = ∥∥₁_elim t le_prop (λ h. h.left);
}

passes : (g : Game) (c : Claim) (k : ℕ) (n : Node) (fault : NodeFault)
    → ∥ IsSound g c k n ∥₁
    → Passes g c k n fault
passes g c k n faults.Child t =
    λ allowed. names_earlier k n.body (∥∥₁_map t (λ h. h faults.Child allowed))
passes g c k n faults.Marks t = (
  in_game g n (∥∥₁_map t (λ h. (h faults.Marks).0)),
  follow-moves g c.nodes (position_of n) n.body (∥∥₁_map t (λ h. (h faults.Marks).1)),
)
passes g c k n faults.Turn t =
    λ owed. has_turn c.side (position_of n) n.body (∥∥₁_map t (λ h. h faults.Turn owed))
passes g c k n faults.Moves t =
    λ owed. takes_free g (position_of n) n.body (∥∥₁_map t (λ h. h faults.Moves owed))
passes g c k n faults.End t =
    λ owed. ends_right g c.side c.goal (position_of n) n.body (∥∥₁_map t (λ h. h faults.End owed))
passes g c k n faults.Pairs t =
    λ owed. has_pairs g c.side (position_of n) n.body (∥∥₁_map t (λ h. h faults.Pairs owed))
passes g c k n faults.Potential t =
    λ owed. has_potential g c.side (position_of n) n.body (∥∥₁_map t (λ h. h faults.Potential owed))
passes g c k n faults.Trees t =
    λ owed. has_trees g (position_of n) n.body owed.in_game.x (∥∥₁_map t (λ h. h faults.Trees owed))
passes g c k n faults.Cuts t =
    λ owed. has_cuts g (position_of n) n.body (∥∥₁_map t (λ h. h faults.Cuts owed))
passes g c k n faults.Threat t =
    λ owed. has_threat g c.side (position_of n) n.body (∥∥₁_map t (λ h. h faults.Threat owed))
passes g c k n faults.Root t = λ end. same_position _ _ (∥∥₁_map t (λ h. h faults.Root end))
passes g c k n faults.Body t = same_bool _ _ (∥∥₁_map t (λ h. h faults.Body))
passes g c k n faults.Weaker t = λ owed earlier. has_weaker c.nodes c.side (position_of n) n.body
    (∥∥₁_map t (λ h. h faults.Weaker owed earlier))

-- a claim that is valid has its proof
pub valid_claim : (g : Game) (c : Claim) → ∥ IsValidClaim g c ∥₁ → IsValidClaim g c
valid_claim g c t k n at fault = passes g c k n fault (∥∥₁_map t (λ h. h k n at))
