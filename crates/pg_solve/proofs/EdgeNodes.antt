-- Claims of one node by trees or by cuts are valid and within the limits.
use Rattle.std.proofs.Common.{◌≡◌, ◌∙◌, ℕ, zero, suc, Bool, true, false, if◌then◌else◌, List, refl}
use Rattle.std.proofs.Common.{sym, subst, inl, inr, arith}
use Rattle.pg_solve.proofs.Common.{both_ways, cases_Bool, cases_eq, false_from_ne_true, none-some}
use Rattle.pg_solve.proofs.Common.{FinSet, contains, insert, remove, nat_cmp, Win, Kind, Switching}
use Rattle.pg_solve.proofs.Common.{Side, X, Y, ArePoints, IsBody, IsClaim, IsOfVersion, has_body}
use Rattle.pg_solve.proofs.Common.{position_of, AreEdgeSets, EndsRight, FollowMoves, HasCuts}
use Rattle.pg_solve.proofs.Common.{HasPairs, HasPotential, HasThreat, HasTrees, HasTurn}
use Rattle.pg_solve.proofs.Common.{IsValidClaim, NamesEarlier, TakesFree, is_allowed, with_e_named}
use Rattle.pg_solve.proofs.Common.{Claim, One, Body, Trees, Cuts, Node, IsPosition-with_turn}
use Rattle.pg_solve.proofs.Common.{point_count, with_turn, AreFreeEdges, AreFreeWithE, TreesHoldOn}
use Rattle.pg_solve.proofs.Common.{CutsHoldOn, Game, Position, one_at, SetsHold}
use Rattle.pg_base.proofs.PointSetLaws.{insert-remove, remove-old, remove-other, remove-self}
use Rattle.pg_base.specs.Points.{AreBelow}
use Rattle.pg_base.specs.Side.{other}
use Rattle.pg_base.specs.WordLemmas.{same_points}
use Rattle.pg_game.proofs.Limits.{point_count-le}
use Rattle.pg_game.proofs.Sides.{side≢other}
use Rattle.pg_game.specs.Field.{field_points}
use Rattle.pg_game.specs.declared.field.Field.{Field}
use Rattle.pg_game.specs.declared.field.Field.TheVariants.{Lines, Graph as OnGraph}
use Rattle.pg_graph.specs.Graph.{edge_count}
use Rattle.pg_graph.specs.declared.graph.Graph.{Graph}
use Rattle.pg_pns.proofs.ValidNodes.{valid-claim, within-limits, of-version}
use Rattle.pg_pns.specs.Sound.{BodyHolds, NodesHold}
use Rattle.pg_lehman.specs.ClassClaims.{class_claims, node_at, one_node, set_claim, sets_body}
use Rattle.pg_lehman.specs.declared.class.Class.{Class as Sets}
use Rattle.pg_lehman.specs.declared.class.Class.TheVariants as sets
use Rattle.pg_solve.specs.EdgeClaims.{AreClassClaims, EdgeSetsHold, IsEdgeBody, IsEdgeClaim}
use Rattle.pg_solve.specs.EdgeClaims.{without_sets}

-- ---- e, and the members of the sets

-- without e, which it doesn't hold, a set is as it was
remove-absent : (s : FinSet nat_cmp) (e : ℕ) → contains s e ≡ false → remove s e ≡ s
remove-absent s e lacks = same_points _ _ (λ q. elim (cases_eq q e) [
  | inl same ↦ subst (λ (v : ℕ). contains (remove s e) v ≡ contains s v) (sym same)
      (remove-self s e ∙ sym lacks)
  | inr apart ↦ remove-other s e q apart
])

-- with e taken out and named, the set is as it was
named-again : (s : FinSet nat_cmp) (e : ℕ)
    → (if contains s e then insert (remove s e) e else remove s e) ≡ s
named-again s e = elim (cases_Bool (contains s e)) [
  | inl has ↦ rw has (insert-remove s e has)
  | inr lacks ↦ rw lacks (remove-absent s e lacks)
]

-- edges of the game, in the first set beside e, which it holds only where the side is to move
record AreEdges (side turn : Side) (n : ℕ) (one second : FinSet nat_cmp) : Type 0 where
  one_below : AreBelow (remove one n) n
  second_below : AreBelow second n
  e_turn : contains one n ≡ true → turn ≡ side

are-edges : (h : Graph) (p : Position) (side : Side) (one second : FinSet nat_cmp)
    → AreFreeWithE h p side one
    → AreFreeEdges h p second
    → AreEdges side p.turn (edge_count h) one second
are-edges h p side one second first_free second_free = record {
  one_below = λ f here. elim (first_free f (remove-old one (edge_count h) f here)) [
    | inl edge ↦ edge.0
    | inr e ↦ absurd (both_ways _ (subst (λ (v : ℕ). contains (remove one (edge_count h)) v ≡ false)
        (sym e.0) (remove-self one (edge_count h))) here)
  ];
  second_below = λ f here. (second_free f here).0;
  e_turn = λ here. elim (first_free (edge_count h) here) [
    | inl edge ↦ let lt = edge.0 in absurd (omega (arith, lt))
    | inr e ↦ e.1
  ];
}

trees-edges : (field : Field) (p : Position) (one second : FinSet nat_cmp)
    → TreesHoldOn field p one second
    → AreEdges X p.turn (field_points field) one second
trees-edges (Lines f) p one second h = absurd h
trees-edges (OnGraph h) p one second is = are-edges h p X one second is.first_free is.second_free

cuts-edges : (field : Field) (p : Position) (one second : FinSet nat_cmp)
    → CutsHoldOn field p one second
    → AreEdges Y p.turn (field_points field) one second
cuts-edges (Lines f) p one second h = absurd h
cuts-edges (OnGraph h) p one second is = are-edges h p Y one second is.first_free is.second_free

edges-of : (side : Side) (g : Game) (turn : Side) (one second : FinSet nat_cmp)
    → EdgeSetsHold side g (with_turn g turn) one second
    → AreEdges side turn (point_count g) one second
edges-of X g turn one second holds = trees-edges g.field (with_turn g turn) one second holds
edges-of Y g turn one second holds = cuts-edges g.field (with_turn g turn) one second holds

-- where the other side is to move, the sets don't hold e
pub no-e : (side : Side) (g : Game) (one second : FinSet nat_cmp)
    → EdgeSetsHold side g (with_turn g (other side)) one second
    → contains one (point_count g) ≡ false
no-e side g one second holds = false_from_ne_true _
    (λ here. side≢other side (sym ((edges-of side g (other side) one second holds).e_turn here)))

-- ---- the one node

-- what both bodies have, the side's has
for-body : (P : Body → Type 0) (side : Side) (e : Bool) (first second : FinSet nat_cmp)
    → P (Trees e first second)
    → P (Cuts e first second)
    → P (sets_body side e first second)
for-body P X e first second trees cuts = trees
for-body P Y e first second trees cuts = cuts

has-trees : (side : Side) (g : Game) (p : Position) (e : Bool) (first second : FinSet nat_cmp)
    → AreEdgeSets g first second
    → EdgeSetsHold side g p (with_e_named g e first) second
    → HasTrees g p (sets_body side e first second)
has-trees X g p e first second edges holds = (edges, holds)
has-trees Y g p e first second edges holds = tt

has-cuts : (side : Side) (g : Game) (p : Position) (e : Bool) (first second : FinSet nat_cmp)
    → AreEdgeSets g first second
    → EdgeSetsHold side g p (with_e_named g e first) second
    → HasCuts g p (sets_body side e first second)
has-cuts X g p e first second edges holds = tt
has-cuts Y g p e first second edges holds = (edges, holds)

body-allowed : (side : Side) (bias : ℕ) (e : Bool) (first second : FinSet nat_cmp)
    → is_allowed Switching bias side Win (sets_body side e first second) ≡ true
body-allowed X bias e first second = refl
body-allowed Y bias e first second = refl

body-holds : (side : Side) (g : Game) (turn : Side) (one second : FinSet nat_cmp)
    → g.kind ≡ Switching
    → EdgeSetsHold side g (with_turn g turn) one second
    → (nodes : List Node) (k : ℕ) → BodyHolds g side Win nodes k (with_turn g turn)
    (sets_body side (contains one (point_count g)) (remove one (point_count g)) second)
body-holds side g turn one second kind holds nodes k =
    let e = contains one (point_count g) in
    let first = remove one (point_count g) in
    let few = point_count-le g in
    let edges = edges-of side g turn one second holds in
    let sets : AreEdgeSets g first second = (edges.one_below, edges.second_below) in
    let named : EdgeSetsHold side g (with_turn g turn) (with_e_named g e first) second =
    subst (λ (s : FinSet nat_cmp). EdgeSetsHold side g (with_turn g turn) s second)
    (sym (named-again one (point_count g))) holds in
    let small : ArePoints first × ArePoints second = (
      (λ f here. let lt = edges.one_below f here in omega (arith, lt, few)),
      (λ f here. let lt = edges.second_below f here in omega (arith, lt, few)),
    ) in
    record {
      owes = record {
        position = IsPosition-with_turn g turn;
        allowed = subst
            (λ (k : Kind). is_allowed k g.bias side Win (sets_body side e first second) ≡ true)
            (sym kind) (body-allowed side g.bias e first second);
        turn = for-body (HasTurn side (with_turn g turn)) side e first second tt tt;
        free = for-body (TakesFree g (with_turn g turn)) side e first second tt tt;
        end = for-body (EndsRight g side Win (with_turn g turn)) side e first second tt tt;
        pairs = for-body (HasPairs g side (with_turn g turn)) side e first second tt tt;
        potential = for-body (HasPotential g side (with_turn g turn)) side e first second tt tt;
        trees = has-trees side g (with_turn g turn) e first second sets named;
        cuts = has-cuts side g (with_turn g turn) e first second sets named;
        threat = for-body (HasThreat g side (with_turn g turn)) side e first second tt tt;
        version = for-body (λ (b : Body). has_body One b ≡ true) side e first second refl refl;
      };
      range = for-body IsBody side e first second small small;
      earlier = for-body (NamesEarlier k) side e first second tt tt;
      follows = for-body (FollowMoves g nodes (with_turn g turn)) side e first second tt tt;
    }

-- ---- the claim

module _ (g : Game) (turn side : Side) (body : Body)
    (holds : (nodes : List Node) (k : ℕ)
    → BodyHolds g side Win nodes k (with_turn g turn) body) where
  -- the claim of that one node
  abbrev claim : Claim
  claim = one_node (with_turn g turn) side body

  nodes-hold : NodesHold g side Win claim.nodes
  nodes-hold zero n at =
      subst (λ (m : Node). BodyHolds g side Win claim.nodes 0 (position_of m) m.body)
      (one_at claim.nodes 0 (node_at (with_turn g turn) body) n refl at) (holds claim.nodes 0)
  nodes-hold (suc k) n at = absurd (none-some n at)

  claim-valid : IsValidClaim g claim
  claim-valid = valid-claim g claim nodes-hold 0 (node_at (with_turn g turn) body) refl refl refl

  claim-version : IsOfVersion One claim
  claim-version = of-version g claim nodes-hold 0 (node_at (with_turn g turn) body) refl refl refl

  claim-limits : IsClaim claim
  claim-limits = within-limits g claim nodes-hold 0 (node_at (with_turn g turn) body) refl refl refl
      (omega arith)

-- the body says whether e is in the first set
says-e : (side : Side) (e : Bool) (first second : FinSet nat_cmp)
    → IsEdgeBody side e (sets_body side e first second)
says-e X e first second = refl
says-e Y e first second = refl

-- the side's claim by its sets
edge-claim : (side : Side) (g : Game) (turn : Side) (one second : FinSet nat_cmp)
    → g.kind ≡ Switching
    → EdgeSetsHold side g (with_turn g turn) one second
    → (e : Bool) → contains one (point_count g) ≡ e
    → IsEdgeClaim g turn side e (set_claim (with_turn g turn) side (point_count g) one second)
edge-claim side g turn one second kind holds e is =
    let n = point_count g in
    let whole : Body = sets_body side (contains one n) (remove one n) second in
    let hold = body-holds side g turn one second kind holds in
    subst (λ (b : Bool). IsEdgeClaim g turn side b (set_claim (with_turn g turn) side n one second))
    is (record {
      same_turn = refl;
      same_side = refl;
      goal = refl;
      node = node_at (with_turn g turn) whole;
      one = refl;
      position = refl;
      body = says-e side (contains one n) (remove one n) second;
      valid = claim-valid g turn side whole hold;
      limits = claim-limits g turn side whole hold;
      version = claim-version g turn side whole hold;
    })

-- the two claims of a class whose sets hold
class-claims : (g : Game) (s : Sets)
    → g.kind ≡ Switching
    → SetsHold g s
    → AreClassClaims g (without_sets s)
    (class_claims (with_turn g X) (with_turn g Y) (point_count g) s)
class-claims g (sets.Short a1 a2) kind hold =
    let no_e = no-e X g a1 a2 hold.y_to_move in
    record {
      first = _;
      second = _;
      two = refl;
      with_x = edge-claim X g X a1 a2 kind hold.x_to_move false no_e;
      with_y = edge-claim X g Y a1 a2 kind hold.y_to_move false no_e;
    }
class-claims g (sets.Cut d1 d2) kind hold =
    let no_e = no-e Y g d1 d2 hold.x_to_move in
    record {
      first = _;
      second = _;
      two = refl;
      with_x = edge-claim Y g X d1 d2 kind hold.x_to_move false no_e;
      with_y = edge-claim Y g Y d1 d2 kind hold.y_to_move false no_e;
    }
class-claims g (sets.First a1 a2 d1 d2) kind hold = record {
  first = _;
  second = _;
  two = refl;
  with_x = edge-claim X g X a1 a2 kind hold.trees true hold.e_in_trees;
  with_y = edge-claim Y g Y d1 d2 kind hold.cuts true hold.e_in_cuts;
}

-- the same where the positions and e are told by equations
pub class-claims-told : (g : Game) (s : Sets) (with_x with_y : Position) (e : ℕ)
    (claims : List Claim)
    → g.kind ≡ Switching
    → SetsHold g s
    → with_x ≡ with_turn g X
    → with_y ≡ with_turn g Y
    → e ≡ point_count g
    → claims ≡ class_claims with_x with_y e s
    → AreClassClaims g (without_sets s) claims
class-claims-told g s with_x with_y e claims kind hold is_x is_y is_e is =
    rw (is, is_x, is_y, is_e) (class-claims g s kind hold)
