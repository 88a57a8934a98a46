-- The claim that the root's answer makes.
use Rattle.std.proofs.Common.{◌≡◌, ℕ, suc, ◌+◌, ◌*◌, ◌<◌, ◌≤◌, ◌⊎◌, inl, inr, Bool, true, false}
use Rattle.std.proofs.Common.{Option, Some, List, [], length, get_or, take, sym, ap, ◌∙◌, subst}
use Rattle.std.proofs.Common.{arith, slice_get}
use Rattle.pg_pns.proofs.Common.{cases_eq, slice_get_within, slice_get-get_or, length-take-le}
use Rattle.pg_pns.proofs.Common.{Contains, count_by, Position, Side, Body, Over, Move, Pairs}
use Rattle.pg_pns.proofs.Common.{Potential, Trees, Cuts, Threat, Weaker, Node, nodes-cut, Game}
use Rattle.pg_pns.proofs.Common.{Goal, Score, free_points, start, with_turn, NodesHold, position_of}
use Rattle.pg_pns.proofs.Common.{Claim, claimer, claimed_goal, criterion_of, AreMarked, IsMoved}
use Rattle.pg_pns.proofs.Common.{IsPruned, IsUsed, Renumbers, is_none, one_at, from_take, in_take}
use Rattle.pg_pns.proofs.Common.{same_some}
use Rattle.pg_cert.specs.declared.node.Body.TheVariants.{All as AllReplies}
use Rattle.pg_pns.proofs.ValidNodes.{valid-claim, within-limits, of-version}
use Rattle.pg_met.specs.declared.known.Answered.{Answered}
use Rattle.pg_met.specs.declared.table.Table.{Table}
use Rattle.pg_met.specs.Claims.{nodes_of}
use Rattle.pg_game.specs.Decided.{first_criterion}
use Rattle.pg_base.specs.Sets.{IsMarked}
use Rattle.pg_pns.specs.Search.{Follows, IsSearch}
use Rattle.pg_pns.specs.Found.{IsClaimOf}
use Rattle.pg_leaf.proofs.KeptNodes.{names-earlier, renumbers-names}
use Rattle.std.proofs.Common.{add-one}
use Rattle.pg_met.proofs.Showing.{number_of}

side-fewer : (nodes : Bool → List Node) (b : Bool) (n : ℕ) (total : ℕ)
    → length (nodes true) + length (nodes false) + n ≡ total
    → length (nodes b) ≤ total
side-fewer nodes true n total e = omega arith
side-fewer nodes false n total e = omega arith

-- the nodes show the answer, whatever claim holds them
pub record AreNodesOf (g : Game) (t : Score) (list : List Position) (b : Bool)
    (nodes : List Node) : Type 0 where
  pub hold : NodesHold g (claimer b) (claimed_goal g.kind t b) nodes
  pub limit : length nodes ≤ 100000
  pub leaf : (i : ℕ) (n : Node)
      → slice_get nodes i ≡ Some n
      → criterion_of n.body ≡ first_criterion g t (position_of n)
  pub root : (last : ℕ)
      × (node : Node) × (length nodes ≡ suc last)
      × (slice_get nodes last ≡ Some node)
      × (position_of node ≡ start g)
  pub different : (i k : ℕ) (m n : Node)
      → slice_get nodes i ≡ Some m
      → slice_get nodes k ≡ Some n
      → position_of m ≡ position_of n
      → i ≡ k
  pub reached : (i : ℕ) (n : Node)
      → slice_get nodes i ≡ Some n
      → (position_of n ≡ start g) ⊎ ((p : Position) × Contains list p × Follows g p (position_of n))
  pub few : length nodes ≤ 1 + length list * length (free_points g (start g))

-- ---- the nodes of one side up to the root's

pub cut-nodes : (g : Game) (t : Score) (list : List Position) (s : Table) (a : Answered)
    → IsSearch g t [] list s
    → length s.positions.items ≤ 100000
    → slice_get s.answers.items 0 ≡ Some (Some a)
    → AreNodesOf g t list a.answer (take (a.node + 1) (nodes_of s.claims a.answer))
unfolding number_of
cut-nodes g t list s a is few root = record {
  hold =
      nodes-cut g (claimer b) (claimed_goal g.kind t b) nodes (a.node + 1) (is.tree.shown.hold b);
  limit =
      let fewer = side-fewer (nodes_of s.claims) b (count_by is_none s.answers.items)
      (length s.answers.items) is.tree.shown.count in
      omega (arith, fewer, cut, w, is.tree.agree.count, few);
  leaf = λ i n at. is.tree.shown.kinds b i n (from_take nodes (a.node + 1) i n at).0;
  root = (
    a.node,
    by.0,
    cut ∙ add-one a.node,
    in_take nodes (a.node + 1) a.node by.0 (omega arith) by.1,
    same_some (sym by.2 ∙ is.root),
  );
  different = λ i k m n m_at n_at e.
      let fm = from_take nodes (a.node + 1) i m m_at in
      let fn = from_take nodes (a.node + 1) k n n_at in
      let pm = is.tree.shown.placed b i m fm.0 in
      let pn = is.tree.shown.placed b k n fn.0 in
      let qm = position_there i m fm.0 in
      let qn = position_there k n fn.0 in
      let same : pm.0 ≡ pn.0 =
      is.tree.shape.different pm.0 pn.0 (position_of n) (qm ∙ ap Some e) qn in
      let shown : ◌≡◌ {A = Option (Option Answered)} (Some (Some (record { answer = b; node = i })))
      (Some (Some (record { answer = b; node = k }))) =
      sym pm.1 ∙ ap (slice_get s.answers.items) same ∙ pn.1 in
      ap number_of shown;
  reached = λ i n at.
      let f = from_take nodes (a.node + 1) i n at in
      is.reached (is.tree.shown.placed b i n f.0).0 (position_of n) (position_there i n f.0);
  few =
      let fewer = side-fewer (nodes_of s.claims) b (count_by is_none s.answers.items)
      (length s.answers.items) is.tree.shown.count in
      omega (arith, fewer, cut, w, is.tree.agree.count, is.few);
}
  where
    b : Bool
    b = a.answer

    nodes : List Node
    nodes = nodes_of s.claims a.answer

    by : (node : Node)
        × (slice_get (nodes_of s.claims a.answer) a.node ≡ Some node)
        × (slice_get s.positions.items 0 ≡ Some (position_of node))
    by = is.tree.shown.shown 0 a.answer a.node root

    w : a.node < length (nodes_of s.claims a.answer)
    w = slice_get_within (nodes_of s.claims a.answer) a.node by.0 by.1

    cut : length (take (a.node + 1) (nodes_of s.claims a.answer)) ≡ a.node + 1
    cut = length-take-le (a.node + 1) nodes (omega (arith, w))

    position_there : (k : ℕ) (n : Node) (at : slice_get (nodes_of s.claims a.answer) k ≡ Some n)
        → slice_get s.positions.items (is.tree.shown.placed a.answer k n at).0
        ≡ Some (position_of n)
    position_there k n at =
        let p = is.tree.shown.placed a.answer k n at in
        let f = is.tree.shown.shown p.0 a.answer k p.1 in
        f.2 ∙ ap (λ m. Some (position_of m)) (one_at (nodes_of s.claims a.answer) k f.0 n f.1 at)

-- ---- those that the root reaches

-- a body with new numbers is by the same criterion
renumbers-kind : (numbers : List ℕ) (old new : Body)
    → Renumbers numbers old new
    → criterion_of new ≡ criterion_of old
renumbers-kind numbers Over new h = ap criterion_of h
renumbers-kind numbers (Move point child) new h = ap criterion_of h.2
renumbers-kind numbers (AllReplies replies) new h = ap criterion_of h.2
renumbers-kind numbers (Pairs pairs) new h = ap criterion_of h
renumbers-kind numbers Potential new h = ap criterion_of h
renumbers-kind numbers (Trees e first second) new h = ap criterion_of h
renumbers-kind numbers (Cuts e first second) new h = ap criterion_of h
renumbers-kind numbers (Threat points) new h = ap criterion_of h
renumbers-kind numbers (Weaker child) new h = ap criterion_of h.2

module _ (g : Game) (t : Score) (list : List Position) (b : Bool) (nodes out : List Node)
    (marks : List Bool) (numbers : List ℕ) (are : AreNodesOf g t list b nodes)
    (marked : AreMarked nodes 0 marks) (is : IsPruned nodes marks (length nodes) numbers out) where
  out-hold : NodesHold g (claimer b) (claimed_goal g.kind t b) out
  out-hold = is.hold g (claimer b) (claimed_goal g.kind t b) are.hold

  -- the number of a node
  number-at : (i : ℕ) (n : Node)
      → slice_get nodes i ≡ Some n
      → slice_get numbers i ≡ Some (get_or numbers i 0)
  number-at i n at =
      let within = slice_get_within nodes i n at in
      slice_get-get_or numbers i 0 (omega (arith, within, is.count))

  root-number : ℕ
  root-number = get_or numbers are.root.0 0

  root-moved : IsMoved numbers out (get_or numbers are.root.0 0) are.root.1
  root-moved = is.moved are.root.0 (get_or numbers are.root.0 0) are.root.1
      (marked.last are.root.0 are.root.2) (number-at are.root.0 are.root.1 are.root.3) are.root.3

  root-last : length out ≡ get_or numbers are.root.0 0 + 1
  root-last = is.last are.root.0 (get_or numbers are.root.0 0) (sym are.root.2)
      (marked.last are.root.0 are.root.2) (number-at are.root.0 are.root.1 are.root.3)

  pub pruned-nodes : AreNodesOf g t list b out
  pruned-nodes = record {
    hold = out-hold;
    limit = omega (arith, is.few, are.limit);
    leaf = λ i m at.
        let f = is.source i m at in
        renumbers-kind numbers f.node.body m.body f.body
        ∙ are.leaf f.from f.node f.at
        ∙ ap (first_criterion g t) (sym f.position);
    root = (
      get_or numbers are.root.0 0,
      root-moved.node,
      root-last ∙ add-one (get_or numbers are.root.0 0),
      root-moved.at,
      root-moved.position ∙ are.root.4,
    );
    different = λ i k m n m_at n_at e.
        let fm = is.source i m m_at in
        let fn = is.source k n n_at in
        let same = are.different fm.from fn.from fm.node fn.node fm.at fn.at
        (sym fm.position ∙ e ∙ fn.position) in
        one_at numbers fn.from i k (ap (slice_get numbers) (sym same) ∙ fm.number) fn.number;
    reached = λ i m at.
        let f = is.source i m at in
        subst (λ (q : Position). (q ≡ start g) ⊎ ((p : Position) × Contains list p × Follows g p q))
        (sym f.position) (are.reached f.from f.node f.at);
    few = omega (arith, is.few, are.few);
  }

  used-by : (i : ℕ) (m : Node)
      → slice_get out i ≡ Some m
      → suc i < length out
      → (from : ℕ) → slice_get numbers from ≡ Some i
      → IsMarked marks from
      → suc from < length nodes
      → IsUsed out i
  used-by i m at high from number on inner =
      let u = marked.used from on inner in
      let moved =
      is.moved u.by (get_or numbers u.by 0) u.node u.marked (number-at u.by u.node u.at) u.at in
      let names =
      renumbers-names numbers u.node.body moved.node.body from i moved.body u.names number in
      record {
        by = get_or numbers u.by 0;
        node = moved.node;
        later = names-earlier moved.node.body (get_or numbers u.by 0) i
            (out-hold (get_or numbers u.by 0) moved.node moved.at).earlier names;
        at = moved.at;
        names = names;
      }

  pub pruned-used : (i : ℕ) → suc i < length out → IsUsed out i
  pruned-used i high =
      let m = get_or out i root-moved.node in
      let at : slice_get out i ≡ Some m =
      slice_get-get_or out i root-moved.node (omega (arith, high)) in
      let f = is.source i m at in
      let within = slice_get_within nodes f.from f.node f.at in
      elim (cases_eq f.from are.root.0) [
        | inl e ↦
            let same = one_at numbers f.from i (get_or numbers are.root.0 0) f.number
            (ap (slice_get numbers) e ∙ number-at are.root.0 are.root.1 are.root.3) in
            absurd (omega (arith, same, root-last, high))
        | inr ne ↦
            used-by i m at high f.from f.number f.marked (omega (arith, within, ne, are.root.2))
      ]

-- ---- the claim

pub claim-of : (g : Game) (t : Score) (list : List Position) (b : Bool) (c : Claim)
    → AreNodesOf g t list b c.nodes
    → ((i : ℕ) → suc i < length c.nodes → IsUsed c.nodes i)
    → c.turn ≡ g.turn
    → c.side ≡ claimer b
    → c.goal ≡ claimed_goal g.kind t b
    → IsClaimOf g t list b c
claim-of g t list b c are used turn side goal = record {
  turn = turn;
  side = side;
  goal = goal;
  valid = valid-claim g c hold are.root.0 are.root.1 count are.root.3 starts;
  limits = within-limits g c hold are.root.0 are.root.1 count are.root.3 starts are.limit;
  version = of-version g c hold are.root.0 are.root.1 count are.root.3 starts;
  leaf = are.leaf;
  root = are.root;
  different = are.different;
  reached = are.reached;
  used = used;
  few = are.few;
}
  where
    count : length c.nodes ≡ are.root.0 + 1
    count = are.root.2 ∙ sym (add-one are.root.0)

    starts : position_of are.root.1 ≡ with_turn g c.turn
    starts = are.root.4 ∙ ap (with_turn g) (sym turn)

    hold : NodesHold g c.side c.goal c.nodes
    hold = subst (λ (x : Side). NodesHold g x c.goal c.nodes) (sym side)
        (subst (λ (x : Goal). NodesHold g (claimer b) x c.nodes) (sym goal) are.hold)

pub claim-pruned : (g : Game) (t : Score) (list : List Position) (s : Table) (a : Answered)
    (nodes out : List Node) (c : Claim)
    → IsSearch g t [] list s
    → length s.positions.items ≤ 100000
    → slice_get s.answers.items 0 ≡ Some (Some a)
    → nodes ≡ take (a.node + 1) (nodes_of s.claims a.answer)
    → ((marks : List Bool) × (numbers : List ℕ) × AreMarked nodes 0 marks
    × IsPruned nodes marks (length nodes) numbers out)
    → c.nodes ≡ out
    → c.turn ≡ g.turn
    → c.side ≡ claimer a.answer
    → c.goal ≡ claimed_goal g.kind t a.answer
    → IsClaimOf g t list a.answer c
claim-pruned g t list s a nodes out c is few root cut p e turn side goal =
    let are = subst (λ (ns : List Node). AreNodesOf g t list a.answer ns) (sym cut)
    (cut-nodes g t list s a is few root) in
    claim-of g t list a.answer c
    (subst (λ (ns : List Node). AreNodesOf g t list a.answer ns) (sym e)
    (pruned-nodes g t list a.answer nodes out p.0 p.1 are p.2 p.3))
    (subst (λ (ns : List Node). (i : ℕ) → suc i < length ns → IsUsed ns i) (sym e)
    (pruned-used g t list a.answer nodes out p.0 p.1 are p.2 p.3)) turn side goal
