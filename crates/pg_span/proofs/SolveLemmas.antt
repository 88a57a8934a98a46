-- What two settled bases of a connectivity game's free edges show.
use Rattle.std.proofs.Common.{◌≡◌, ◌≢◌, ℕ, ◌<◌, ◌≤◌, ◌+◌, zero, suc, Bool, true, false, not, eqb}
use Rattle.std.proofs.Common.{length, List, [], ◌∷◌, Some, None, inl, inr, refl, sym, ◌∙◌, subst}
use Rattle.std.proofs.Common.{arith}
use Rattle.std.specs.Prelude.{slice_index, Option, IfSome, IfNone, is_some}
use Rattle.pg_span.proofs.Common.{All, All-from_get_or, IsLeastFrom, both_ways, and_parts, and_from}
use Rattle.pg_span.proofs.Common.{or_cases, or_left, false_from_ne_true, not-true, not_from_false}
use Rattle.pg_span.proofs.Common.{eqb-false, eqb-true, true_from_ne_false, FinSet, contains}
use Rattle.pg_span.proofs.Common.{nat_cmp, minus, either, outside, both, count, IsBelow, Side, X, Y}
use Rattle.pg_span.proofs.Common.{below_parts, below_from, same_sets, either_cases, either_left}
use Rattle.pg_span.proofs.Common.{either_right, find_below, minus_from, count_minus, both_parts}
use Rattle.pg_span.proofs.Common.{both_from, outside_parts, outside_from, Graph, edge_count}
use Rattle.pg_span.proofs.Common.{first_end_of, second_end_of, IsJoinedIn, AreLabels, IsBase}
use Rattle.pg_span.proofs.Common.{ends_in_range, joins_in-complete, loops_after, joins_sound}
use Rattle.pg_span.proofs.Common.{AreBases, elements_of, is_free, joins_all, spare}
use Rattle.pg_switch.proofs.Settled.{AreParts-shared, AreParts-apart, joined_by_base}
use Rattle.pg_switch.proofs.Settled.{AreJoiningTrees-none, AreJoiningTrees-one}
use Rattle.pg_span.specs.declared.game.SpanGame.{SpanGame}
use Rattle.pg_span.specs.Game.{marks_at}
use Rattle.pg_span.specs.FreeEdges.{free_matroid}
use Rattle.pg_span.specs.Solved.{ArePartsBelow, HavePartsBelow, SolvedIsSmall, claims_of}
use Rattle.pg_span.specs.Solved.{parts_claim, trees_claim}
use Rattle.pg_span.specs.Valid.{AreTreesOfGame, ArePartsOfGame}
use Rattle.pg_span.specs.declared.cert.SpanClaim.{SpanClaim}
use Rattle.pg_span.specs.declared.solved.Solved.{Solved}
use Rattle.pg_span.specs.declared.solved.Solved.TheVariants.{Maker, Breaker, First}
use Rattle.pg_span.specs.declared.cert.TheConstants.{PART_NUMBERS}
use Rattle.pg_span.proofs.Connects.{connects-complete}

-- a free edge is an element, and an element a free edge
elements-parts : (h : Graph) (x y : ℕ → Bool) (f : ℕ)
    → elements_of h x y false f ≡ true
    → (f < edge_count h) × (either x y f ≡ false)
unfolding elements_of
elements-parts h x y f k = elim (or_cases _ _ k) [
  | inl i ↦
      let p = below_parts (λ z. not (either x y z)) (edge_count h) f i in
      (p.1, not-true _ p.0)
  | inr i ↦ absurd (both_ways _ refl i)
]

elements-from : (h : Graph) (x y : ℕ → Bool) (f : ℕ)
    → f < edge_count h
    → either x y f ≡ false
    → elements_of h x y false f ≡ true
unfolding elements_of
elements-from h x y f l k =
    or_left _ _ (below_from (λ z. not (either x y z)) (edge_count h) f (not_from_false _ k) l)

-- one label says that edges of the set join, and the other way round
label-joined : (h : Graph) (set : ℕ → Bool) (names : List ℕ)
    → AreLabels h set names
    → (u v : ℕ) → u < h.vertices
    → v < h.vertices
    → slice_index names u ≡ slice_index names v
    → IsJoinedIn h set u v
label-joined h set names named u v lu lv same = joins_sound (first_end_of h) (second_end_of h) set
    (suc (edge_count h)) u v ((named.same u v lu lv).0 same)

joined-label : (h : Graph) (set : ℕ → Bool) (names : List ℕ)
    → AreLabels h set names
    → IsBelow set (edge_count h)
    → (u v : ℕ) → u < h.vertices
    → v < h.vertices
    → IsJoinedIn h set u v
    → slice_index names u ≡ slice_index names v
joined-label h set names named small u v lu lv joined = (named.same u v lu lv).1
    (joins_in-complete h set u v (λ z k. let l = small z k in omega (arith, l)) joined)

module _ (g : SpanGame) (one two near : FinSet nat_cmp)
    (s : AreBases (free_matroid g) (contains one) (contains two) (contains near)) where
  abbrev h : Graph
  h = g.graph

  abbrev m : ℕ
  m = edge_count h

  abbrev x : ℕ → Bool
  x = contains g.x

  abbrev elements : ℕ → Bool
  elements = elements_of h (contains g.x) (contains g.y) false

  ends : (f : ℕ)
      → f < edge_count h
      → (first_end_of h f < h.vertices) × (second_end_of h f < h.vertices)
  ends f l = ends_in_range h f g.fits.graph (omega arith)

  some : 0 < h.vertices
  some = let l = g.fits.graph.s_range in omega arith

  pub small : IsBelow elements (edge_count h)
  small f k = (elements-parts h (contains g.x) (contains g.y) f k).0

  all_elements : (turn : Side) (f : ℕ)
      → f < edge_count h
      → is_free (marks_at g turn) f ≡ true
      → elements f ≡ true
  all_elements turn f l k =
      let p : (not (contains g.x f) ≡ true) × (not (contains g.y f) ≡ true) = and_parts _ _ k in
      elements-from h (contains g.x) (contains g.y) f l
      (false_from_ne_true _ (λ i. elim (either_cases (contains g.x) (contains g.y) f i) [
        | inl q ↦ both_ways _ (not-true _ p.0) q
        | inr q ↦ both_ways _ (not-true _ p.1) q
      ]))

  free_element : (turn : Side) (f : ℕ)
      → elements f ≡ true
      → (f < edge_count h) × (is_free (marks_at g turn) f ≡ true)
  free_element turn f k =
      let p = elements-parts h (contains g.x) (contains g.y) f k in (
        p.0,
        and_from _ _
            (not_from_false _
            (false_from_ne_true _
            (λ i. both_ways _ p.1 (either_left (contains g.x) (contains g.y) f i))))
            (not_from_false _
            (false_from_ne_true _
            (λ i. both_ways _ p.1 (either_right (contains g.x) (contains g.y) f i)))),
      )

  module _ (names whole : List ℕ) (named : AreLabels h (either x (contains near)) names)
      (wholly : AreLabels h (either x elements) whole) where
    near_small : IsBelow (either x (contains near)) (edge_count h)
    near_small z k = elim (either_cases x (contains near) z k) [
      | inl i ↦ g.fits.x_range z i
      | inr i ↦ small z (s.reached.elements_only z i)
    ]

    whole_small : IsBelow (either x elements) (edge_count h)
    whole_small z k = elim (either_cases x elements z k) [
      | inl i ↦ g.fits.x_range z i
      | inr i ↦ small z i
    ]

    few_numbers : (v : ℕ) → v < h.vertices → slice_index names v < PART_NUMBERS
    few_numbers v l =
        let r = named.range v l in
        let few = g.fits.few_vertices in
        omega (arith, r, few)

    -- where some vertex has another label in the whole than vertex 0, the parts are Breaker's
    pub parts_apart : (turn : Side)
        → (((v : ℕ) → v < length whole → slice_index whole v ≡ slice_index whole 0) → ⊥)
        → ArePartsOfGame g (marks_at g turn) names
    parts_apart turn others = (
      named.size,
      elim (find_below (λ v. not (eqb (slice_index whole v) (slice_index whole 0))) h.vertices) [
        | inr none ↦ absurd (others (λ v l. eqb-true _ _ (true_from_ne_false _ (λ o.
            both_ways _ (none v (subst (λ (k : ℕ). v < k) wholly.size l)) (not_from_false _ o)))))
        | inl w ↦ AreParts-apart (first_end_of h) (second_end_of h) (edge_count h) h.vertices
            (suc (edge_count h)) PART_NUMBERS (omega arith)
            (loops_after h) ends some x elements g.fits.x_range small (contains one) (contains two)
            (contains near) s.first_base s.second_base s.reached (slice_index names) few_numbers
            (label-joined h (either x (contains near)) names named)
            (joined-label h (either x (contains near)) names named near_small) (marks_at g turn)
            refl (all_elements turn) w.0 0 w.1 some (λ j. eqb-false _ _ (not-true _ w.2)
            (joined-label h (either x elements) whole wholly whole_small w.0 0 w.1 some j))
      ],
    )

    pub parts_shared : (turn : Side)
        → 2 ≤ count (both (contains one) (contains two)) (edge_count h) + spare turn
        → ArePartsOfGame g (marks_at g turn) names
    parts_shared turn enough = (
      named.size,
      AreParts-shared (first_end_of h) (second_end_of h) (edge_count h) h.vertices
          (suc (edge_count h)) PART_NUMBERS (omega arith)
          (loops_after h) ends some x elements g.fits.x_range small (contains one) (contains two)
          (contains near) s.first_base s.second_base s.reached (slice_index names) few_numbers
          (label-joined h (either x (contains near)) names named)
          (joined-label h (either x (contains near)) names named near_small) (marks_at g turn) refl
          (all_elements turn) enough (few turn),
    )
      where
        few : (turn : Side) → spare turn ≤ 1
        few X = omega arith
        few Y = omega arith

    -- where all vertices have one label, each base joins them
    module _ (same : (v : ℕ) → v < length whole → slice_index whole v ≡ slice_index whole 0) where
      base_joins : (base : FinSet nat_cmp)
          → IsBase (free_matroid g).spans elements (contains base)
          → joins_all (first_end_of h) (second_end_of h) (edge_count h) h.vertices
          (either x (contains base)) ≡ true
      base_joins base pb = connects-complete h (either x (contains base))
          (λ z k. elim (either_cases x (contains base) z k) [
            | inl i ↦ g.fits.x_range z i
            | inr i ↦ small z (pb.within z i)
          ]) (λ u v lu lv.
          let len = wholly.size in
          let e : slice_index whole u ≡ slice_index whole v =
          same u (subst (λ (k : ℕ). u < k) (sym len) lu)
          ∙ sym (same v (subst (λ (k : ℕ). v < k) (sym len) lv)) in
          joined_by_base (first_end_of h) (second_end_of h) (edge_count h) h.vertices
          (suc (edge_count h)) h.vertices (omega arith)
          (loops_after h) ends some x elements g.fits.x_range small (contains base) pb u v
          (label-joined h (either x elements) whole wholly u v lu lv e))

      free_base : (turn : Side) (base : FinSet nat_cmp)
          → IsBase (free_matroid g).spans elements (contains base)
          → (f : ℕ) → contains base f ≡ true
          → (f < edge_count h) × (is_free (marks_at g turn) f ≡ true)
      free_base turn base pb f k = free_element turn f (pb.within f k)

      pub trees_none : (turn : Side)
          → ((f : ℕ) → both (contains one) (contains two) f ≡ false)
          → AreTreesOfGame g (marks_at g turn) None one two
      trees_none turn none = AreJoiningTrees-none (first_end_of h) (second_end_of h)
          (edge_count h) h.vertices (marks_at g turn) one two (free_base turn one s.first_base)
          (free_base turn two s.second_base) none (base_joins one s.first_base)
          (base_joins two s.second_base)

      pub trees_one : (a1 a2 : FinSet nat_cmp) (v : ℕ)
          → contains one v ≡ true
          → ((f : ℕ) → both (contains one) (contains two) f ≡ true → v ≡ f)
          → contains a1 ≡ minus (contains one) v
          → contains a2 ≡ minus (contains two) v
          → AreTreesOfGame g (marks_at g X) (Some v) a1 a2
      trees_one a1 a2 v own only is1 is2 = AreJoiningTrees-one (first_end_of h) (second_end_of h)
          (edge_count h) h.vertices (marks_at g X) one two a1 a2 v refl
          (free_base X one s.first_base) (free_base X two s.second_base) own only is1 is2
          (base_joins one s.first_base) (base_joins two s.second_base)

  -- how many common elements there are at least
  pub shared_one : (v : ℕ)
      → both (contains one) (contains two) v ≡ true
      → v < edge_count h
      → 1 ≤ count (both (contains one) (contains two)) (edge_count h)
  shared_one v k l =
      let c = count_minus (both (contains one) (contains two)) v (edge_count h) k l in
      omega arith

  pub shared_two : (v w : ℕ)
      → both (contains one) (contains two) v ≡ true
      → both (contains one) (contains two) w ≡ true
      → v ≢ w
      → v < edge_count h
      → w < edge_count h
      → 2 ≤ count (both (contains one) (contains two)) (edge_count h)
  shared_two v w k i d l r =
      let c = count_minus (both (contains one) (contains two)) v (edge_count h) k l in
      let e = count_minus (minus (both (contains one) (contains two)) v) w (edge_count h)
      (minus_from (both (contains one) (contains two)) v w i d) r in
      omega arith

-- ---- options, and common members

pub some_member : (s : FinSet nat_cmp) (o : Option ℕ)
    → is_some o ≡ true
    → IfSome o (λ v. IsLeastFrom s 0 v)
    → (v : ℕ) × (contains s v ≡ true)
some_member s (Some v) e i = (v, i.member)
some_member s None e i = absurd (both_ways _ refl e)

pub no_member : (s : FinSet nat_cmp) (o : Option ℕ)
    → is_some o ≡ false
    → IfNone o ((q : ℕ) → 0 ≤ q → contains s q ≡ false)
    → (q : ℕ) → contains s q ≡ false
no_member s None e i q = i q (omega arith)
no_member s (Some v) e i q = absurd (both_ways _ e refl)

-- what is in a and not in a without b is in both
pub outside_twice : (a b : ℕ → Bool) → outside a (outside a b) ≡ both a b
outside_twice a b = same_sets (outside a (outside a b)) (both a b) (λ z h.
    let p = outside_parts a (outside a b) z h in
    both_from a b z p.0 (true_from_ne_false _ (λ o. both_ways _ p.1 (outside_from a b z p.0 o))))
    (λ z h.
    let p = both_parts a b z h in
    outside_from a (outside a b) z p.0
    (false_from_ne_true _ (λ i. both_ways _ (outside_parts a b z i).1 p.1)))

-- ---- labels

-- every label is below the number of vertices
pub labels_below : (h : Graph) (set : ℕ → Bool) (names : List ℕ)
    → AreLabels h set names
    → All (λ n. n < h.vertices) names
labels_below h set names named = All-from_get_or (λ n. n < h.vertices) names 0
    (λ v l. named.range v (subst (λ (k : ℕ). v < k) named.size l))

-- the parts of the certificate are those that were found
pub claims_small : (g : SpanGame) (found : Solved) (claims : List SpanClaim)
    → claims ≡ claims_of found
    → SolvedIsSmall g found
    → HavePartsBelow g.graph.vertices claims
claims_small g found claims is below =
    subst (λ (l : List SpanClaim). HavePartsBelow g.graph.vertices l) (sym is) (go found below)
  where
    two : (first second : SpanClaim)
        → ArePartsBelow g.graph.vertices first.body
        → ArePartsBelow g.graph.vertices second.body
        → HavePartsBelow g.graph.vertices (first ∷ second ∷ [])
    two first second one other zero d l = one
    two first second one other (suc zero) d l = other
    two first second one other (suc (suc k)) d l = absurd (omega (arith, l))

    go : (found : Solved)
        → SolvedIsSmall g found
        → HavePartsBelow g.graph.vertices (claims_of found)
    go (Maker a1 a2) below = two (trees_claim X None a1 a2) (trees_claim Y None a1 a2) tt tt
    go (Breaker parts) below = two (parts_claim X parts) (parts_claim Y parts) below below
    go (First v a1 a2 parts) below =
        two (trees_claim X (Some v) a1 a2) (parts_claim Y parts) tt below
