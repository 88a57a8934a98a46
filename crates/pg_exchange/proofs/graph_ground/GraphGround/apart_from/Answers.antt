use Rattle.std.proofs.Common.{◌≡◌, ◌<◌, ◌≤◌, suc, ℕ, Bool, true, false, arith, ap, ◌∙◌, sym, subst}
use Rattle.std.proofs.Common.{inl, inr, List}
use Rattle.pg_exchange.proofs.Common.{both_ways, contains, below, either, outside, IsWithin}
use Rattle.pg_exchange.proofs.Common.{either_cases, outside_parts, below_parts, Graph, IsGraph}
use Rattle.pg_exchange.proofs.Common.{spans_in, edge_count, AreEdges, AreLabels, IsBase}
use Rattle.pg_exchange.specs.Forest.{graph_matroid, IsGrown}
use Rattle.pg_exchange.specs.Path.{IsLabelled}
use Rattle.pg_exchange.specs.Stars.{AreStars}
use Rattle.pg_exchange.specs.ForestLaws.{IsSpan-graph_matroid}
use Rattle.pg_exchange.proofs.Tests.{emptied, of_outside}
use Rattle.pg_exchange.proofs.ForestLemmas.{elements-edges, IsBase-apart, spanned-apart}
use Rattle.pg_exchange.proofs.graph_ground.GraphGround.apart_from.Goals as goal

pub grown-others-requires-clause-base : goal.grown-others-requires-clause-base
grown-others-requires-clause-base c z h =
    absurd (both_ways _ (emptied c.empty-none.result c.empty-none.ensures z) h)

pub grown-others-requires-clause-free : goal.grown-others-requires-clause-free
grown-others-requires-clause-free c f h =
    absurd (both_ways _ (emptied c.empty-none.result c.empty-none.ensures f) h)

within_elements : (none others elements candidates : ℕ → Bool) (n : ℕ)
    → ((z : ℕ) → none z ≡ false)
    → IsWithin candidates elements
    → IsWithin others (either none (below candidates n))
    → IsWithin others elements
within_elements none others elements candidates n empty inside w z h =
    elim (either_cases none (below candidates n) z (w z h)) [
      | inl k ↦ absurd (both_ways _ (empty z) k)
      | inr k ↦ inside z (below_parts candidates n z k).0
    ]

pub grown-base-requires-clause-base : goal.grown-base-requires-clause-base
grown-base-requires-clause-base c z h =
    let e = of_outside c.elements_of-elements.result c.args.avoided.now c.without.result
    c.without.ensures.difference in
    let in_elements =
    within_elements (contains c.empty-none.result) (contains c.grown-others.result)
    (contains c.elements_of-elements.result) (contains c.without.result)
    (suc (edge_count c.args.g.now)) (emptied c.empty-none.result c.empty-none.ensures)
    (λ q k. (outside_parts _ _ q (subst (λ (s : ℕ → Bool). s q ≡ true) e k)).0)
    c.grown-others.ensures.grown.within in
    elements-edges c.args.g.now (contains c.args.x.now) (contains c.args.y.now) c.args.with_e z
    (subst (λ (s : ℕ → Bool). s z ≡ true) c.elements_of-elements.ensures (in_elements z h))

pub stars_of-requires : goal.stars_of-requires
stars_of-requires c =
    subst (λ (names : List ℕ). IsLabelled c.args.g.now names) (sym c.deref.ensures.value) (record {
      graph = c.requires.graph;
      few = c.requires.few;
      size = c.in_ok-names.ensures.size;
      range = c.in_ok-names.ensures.range;
    })

-- a copy of a list of pairs is the list
copied : (x y : ℕ × ℕ) → (y.0 ≡ x.0) × (y.1 ≡ x.1) → y ≡ x
copied x y h = ap (λ (a : ℕ). (a, y.1)) h.0 ∙ ap (λ (b : ℕ). (x.0, b)) h.1

pub invariant_of-result : goal.invariant_of-result
invariant_of-result c =
    let g = c.args.g.now in
    let x = contains c.args.x.now in
    let elements = contains c.elements_of-elements.result in
    let spans : (ℕ → Bool) → ℕ → Bool = λ a k. spans_in g (either x a) k in
    let same : c.from_vec.result ≡ g.ends = c.from_vec.ensures
    ∙ (c.in_ok-ends.ensures.items_if_clones_equal (λ a b h. copied a b h) ∙ c.as_slice.ensures) in
    let own : record {
      vertices = g.vertices;
      s = g.s;
      t = g.t;
      ends = c.from_vec.result;
    } ≡ g = ap (λ (ends : List (ℕ × ℕ)). record {
      vertices = g.vertices;
      s = g.s;
      t = g.t;
      ends = ends;
    }) same in
    let edges : AreEdges g elements = λ z h. elements-edges g x (contains c.args.y.now)
    c.args.with_e z (subst (λ (s : ℕ → Bool). s z ≡ true) c.elements_of-elements.ensures h) in
    let e = of_outside c.elements_of-elements.result c.args.avoided.now c.without.result
    c.without.ensures.difference in
    let n : ℕ = suc (edge_count g) in
    let none = contains c.empty-none.result in
    let others = contains c.grown-others.result in
    let avoided = contains c.args.avoided.now in
    let first = subst (λ (s : ℕ → Bool). IsGrown spans none (below s n) others) e
    c.grown-others.ensures.grown in
    let second =
    subst (λ (s : ℕ → Bool). IsGrown spans others (below s n) (contains c.grown-base.result))
    c.shared.ensures c.grown-base.ensures.grown in
    let base = IsBase-apart spans (IsSpan-graph_matroid g x x) elements avoided none others
    (contains c.grown-base.result) n edges
    (emptied c.empty-none.result c.empty-none.ensures) first second in
    record {
      fits = subst (λ (h : Graph). IsGraph h) (sym own) c.requires.graph;
      few = subst (λ (h : Graph). h.vertices ≤ 1024) (sym own) c.requires.few;
      labelled = subst (λ (h : Graph). AreLabels h x c.in_ok-names.names.items)
          (sym own) c.in_ok-names.ensures;
      starred = subst
          (λ (h : Graph). AreStars h c.in_ok-names.names.items (suc (edge_count h))
          c.in_ok-stars.stars.items) (sym own)
          (subst (λ (names : List ℕ). AreStars g names (suc (edge_count g))
          c.in_ok-stars.stars.items) c.deref.ensures.value c.in_ok-stars.ensures);
      steps_size = c.in_ok-steps.ensures.len;
      x_edges = λ z h. subst (λ (h : Graph). z < suc (edge_count h)) (sym own)
          (let low : z < edge_count g = c.requires.x z h in omega arith);
      element_edges = subst (λ (h : Graph). AreEdges h elements) (sym own) edges;
      is_forest = subst (λ (h : Graph). IsBase (graph_matroid h x elements).spans elements
          (contains c.grown-base.result)) (sym own) base;
    }

pub returns-clause-apart : goal.returns-clause-apart
returns-clause-apart c f on off =
    let g = c.args.g.now in
    let x = contains c.args.x.now in
    let elements = contains c.elements_of-elements.result in
    let avoided = contains c.args.avoided.now in
    let base = contains c.grown-base.result in
    let spans : (ℕ → Bool) → ℕ → Bool = λ a k. spans_in g (either x a) k in
    let same : c.from_vec.result ≡ g.ends = c.from_vec.ensures
    ∙ (c.in_ok-ends.ensures.items_if_clones_equal (λ a b h. copied a b h) ∙ c.as_slice.ensures) in
    let own : record {
      vertices = g.vertices;
      s = g.s;
      t = g.t;
      ends = c.from_vec.result;
    } ≡ g = ap (λ (ends : List (ℕ × ℕ)). record {
      vertices = g.vertices;
      s = g.s;
      t = g.t;
      ends = ends;
    }) same in
    let edges : AreEdges g elements = λ z h. elements-edges g x (contains c.args.y.now)
    c.args.with_e z (subst (λ (s : ℕ → Bool). s z ≡ true) c.elements_of-elements.ensures h) in
    let e = of_outside c.elements_of-elements.result c.args.avoided.now c.without.result
    c.without.ensures.difference in
    let n : ℕ = suc (edge_count g) in
    let none = contains c.empty-none.result in
    let others = contains c.grown-others.result in
    let first = subst (λ (s : ℕ → Bool). IsGrown spans none (below s n) others) e
    c.grown-others.ensures.grown in
    let second = subst (λ (s : ℕ → Bool). IsGrown spans others (below s n) base) c.shared.ensures
    c.grown-base.ensures.grown in
    subst (λ (h : Graph). spans_in h (either x (outside base avoided)) f ≡ true) (sym own)
    (spanned-apart spans (IsSpan-graph_matroid g x x) elements avoided none others base n edges
    (emptied c.empty-none.result c.empty-none.ensures) first second f on off)
