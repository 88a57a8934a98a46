-- Trees force Maker's win in a connectivity game.
use Rattle.std.proofs.Common.{◌≡◌, ℕ, ◌+◌, ◌-◌, ◌<◌, ◌≤◌, Bool, true, false, not, ◌&&◌, ltb, cond}
use Rattle.std.proofs.Common.{List, [], ◌∷◌, Some, None, inl, inr, sym, ap, ◌∙◌, subst, subst₂}
use Rattle.std.proofs.Common.{arith}
use Rattle.std.specs.Prelude.{Option}
use Rattle.pg_switch.proofs.Common.{cases_Bool, cases_lt, both_ways, and_parts, and_from, not-true}
use Rattle.pg_switch.proofs.Common.{not_from_false, cond-true, cond-false, lt-ltb, le-ltb, ltb-true}
use Rattle.pg_switch.proofs.Common.{FinSet, contains, insert, nat_cmp, plus, below, either}
use Rattle.pg_switch.proofs.Common.{IsWithin, IsBelow, Win, X, Y, other, below_parts, below_from}
use Rattle.pg_switch.proofs.Common.{contains-insert_plus, minus_from, either_cases, plus_cases}
use Rattle.pg_switch.proofs.Common.{IsSpan, IsTrees, IsWalk, IsJoined, joins, edge_spans}
use Rattle.pg_switch.proofs.Common.{IsSpan-edges, edge_spans_sound, edge_spans_complete, joined_on}
use Rattle.pg_switch.proofs.Common.{joined_back, joined_more, joins_sound, joins_complete}
use Rattle.pg_switch.proofs.Common.{joins-below, Position, is_free, ForcesBy, ForcesBy-over}
use Rattle.pg_switch.proofs.Common.{ForcesBy-move, side≢other}
use Rattle.pg_switch.specs.Claims.{kept, claim_rules, IsPlace}
use Rattle.pg_switch.specs.Span.{joins_all, connectivity_rules, AreJoiningTrees}
use Rattle.pg_switch.proofs.ClaimLaws.{next, turn-next, IsPlace-next, IsEnding-claims, free-next}
use Rattle.pg_switch.proofs.ClaimLaws.{x-plus, x-kept, free-kept, x_wins}
use Rattle.pg_switch.proofs.TreeForces.{ForcesBy-targets}
use Rattle.pg_switch.proofs.AllJoined.{joins_all-from}
use Rattle.pg_switch.proofs.PartLemmas.{joined_pairs}
use Rattle.pg_switch.proofs.PartLaws.{joins_all-more}
use Rattle.pg_switch.proofs.TargetAnswers.{AllStand, AllOwed-stand}

-- ---- the edges below m, and an edge from vertex 0 to each vertex below n

module _ (a b : ℕ → ℕ) (m n : ℕ) where
  first_of : ℕ → ℕ
  first_of k = cond (ltb k m) (a k) 0

  second_of : ℕ → ℕ
  second_of k = cond (ltb k m) (b k) (cond (ltb k (m + n)) (k - m) 0)

  first-edge : (k : ℕ) → k < m → first_of k ≡ a k
  unfolding first_of
  first-edge k l = cond-true (ltb k m) _ _ (lt-ltb k m l)

  second-edge : (k : ℕ) → k < m → second_of k ≡ b k
  unfolding second_of
  second-edge k l = cond-true (ltb k m) _ _ (lt-ltb k m l)

  first-star : (k : ℕ) → m ≤ k → first_of k ≡ 0
  unfolding first_of
  first-star k l = cond-false (ltb k m) _ _ (le-ltb k m l)

  second-star : (k : ℕ) → m ≤ k → k < m + n → second_of k ≡ k - m
  unfolding second_of
  second-star k l h =
      cond-false (ltb k m) _ _ (le-ltb k m l) ∙ cond-true (ltb k (m + n)) _ _ (lt-ltb k (m + n) h)

  second-past : (k : ℕ) → m + n ≤ k → second_of k ≡ 0
  unfolding second_of
  second-past k l = cond-false (ltb k m) _ _ (le-ltb k m (omega arith))
      ∙ cond-false (ltb k (m + n)) _ _ (le-ltb k (m + n) l)

  loops : (k : ℕ) → m + n ≤ k → first_of k ≡ second_of k
  loops k l = first-star k (omega arith) ∙ sym (second-past k l)

  pub star_spans : (ℕ → Bool) → ℕ → Bool
  star_spans set f = edge_spans first_of second_of (m + n) set f

  pub IsSpan-star : IsSpan star_spans
  unfolding star_spans
  IsSpan-star = IsSpan-edges first_of second_of (m + n) loops

  -- the edges from vertex 0
  pub targets : ℕ → Bool
  targets f = not (ltb f m) && ltb f (m + n)

  pub target : (i : ℕ) → i < n → targets (m + i) ≡ true
  unfolding targets
  target i l = and_from _ _ (not_from_false _ (le-ltb (m + i) m (omega arith)))
      (lt-ltb (m + i) (m + n) (omega arith))

  target-parts : (f : ℕ) → targets f ≡ true → (m ≤ f) × (f < m + n)
  unfolding targets
  target-parts f h =
      let p : (not (ltb f m) ≡ true) × (ltb f (m + n) ≡ true) =
      and_parts (not (ltb f m)) (ltb f (m + n)) h in (
        elim (cases_lt f m) [
          | inl l ↦ absurd (both_ways _ (not-true _ p.0) (lt-ltb f m l))
          | inr l ↦ l
        ],
        ltb-true f (m + n) p.1,
      )

  -- ---- sets of edges join the same

  walk_ends : (c d e f : ℕ → ℕ) (set : ℕ → Bool)
      → ((k : ℕ) → set k ≡ true → c k ≡ e k)
      → ((k : ℕ) → set k ≡ true → d k ≡ f k)
      → (ks : List ℕ) (u v : ℕ) → IsWalk c d set ks u v
      → IsWalk e f set ks u v
  walk_ends c d e f set s t [] u v h = h
  walk_ends c d e f set s t (k ∷ ks) u v h = (
    h.0,
    elim h.1 [
      | inl p ↦ inl (
        sym (s k h.0) ∙ p.0,
        subst (λ (z : ℕ). IsWalk e f set ks z v) (t k h.0)
            (walk_ends c d e f set s t ks (d k) v p.1),
      )
      | inr p ↦ inr (
        sym (t k h.0) ∙ p.0,
        subst (λ (z : ℕ). IsWalk e f set ks z v) (s k h.0)
            (walk_ends c d e f set s t ks (c k) v p.1),
      )
    ],
  )

  into_star : (set : ℕ → Bool) (u v : ℕ)
      → joins a b set m u v ≡ true
      → IsJoined first_of second_of set u v
  into_star set u v h =
      let j = joins_sound a b (below set m) m u v (joins-below a b set m u v ∙ h) in
      joined_more first_of second_of (below set m) set u v (λ z k. (below_parts set m z k).0)
      (record {
        edges = j.edges;
        walk = walk_ends a b first_of second_of (below set m)
            (λ k i. sym (first-edge k (below_parts set m k i).1))
            (λ k i. sym (second-edge k (below_parts set m k i).1)) j.edges u v j.walk;
      })

  out_of_star : (set : ℕ → Bool) (u v : ℕ)
      → IsBelow set m
      → IsJoined first_of second_of set u v
      → joins a b set m u v ≡ true
  out_of_star set u v small j = joins_complete a b set m u v
      (joined_more a b set (below set m) u v (λ z k. below_from set m z k (small z k)) (record {
        edges = j.edges;
        walk = walk_ends first_of second_of a b set (λ k i. first-edge k (small k i))
            (λ k i. second-edge k (small k i)) j.edges u v j.walk;
      }))

  pair_joined : (set : ℕ → Bool) (u v : ℕ)
      → joins_all a b m n set ≡ true
      → u < n
      → v < n
      → joins a b set m u v ≡ true
  pair_joined set u v h lu lv = joined_pairs a b set (λ z. z) n 0 m n u v h lu lv

  -- what joins every two vertices spans each target, and each edge
  pub spans_target : (set : ℕ → Bool) (f : ℕ)
      → joins_all a b m n set ≡ true
      → targets f ≡ true
      → star_spans set f ≡ true
  unfolding star_spans
  spans_target set f h t =
      let p = target-parts f t in
      edge_spans_complete first_of second_of (m + n) loops set f
      (subst₂ (λ (u v : ℕ). IsJoined first_of second_of set u v) (sym (first-star f p.0))
      (sym (second-star f p.0 p.1)) (into_star set 0 (f - m) (pair_joined set 0 (f - m) h (omega (
        arith,
        p.0,
        p.1,
      )) (omega (arith, p.0, p.1)))))

  pub spans_edge : (set : ℕ → Bool) (f : ℕ)
      → joins_all a b m n set ≡ true
      → f < m
      → a f < n
      → b f < n
      → star_spans set f ≡ true
  unfolding star_spans
  spans_edge set f h l la lb = edge_spans_complete first_of second_of (m + n) loops set f
      (subst₂ (λ (u v : ℕ). IsJoined first_of second_of set u v) (sym (first-edge f l))
      (sym (second-edge f l)) (into_star set (a f) (b f) (pair_joined set (a f) (b f) h la lb)))

  -- edges that span each target join every two vertices
  from_zero : (set : ℕ → Bool) (i : ℕ)
      → i < n
      → star_spans set (m + i) ≡ true
      → IsJoined first_of second_of set 0 i
  unfolding star_spans
  from_zero set i l h =
      let at : m + i - m ≡ i = omega arith in
      subst₂ (λ (u v : ℕ). IsJoined first_of second_of set u v) (first-star (m + i) (omega arith))
      (second-star (m + i) (omega arith) (omega arith) ∙ at)
      (edge_spans_sound first_of second_of (m + n) loops set (m + i) h)

  module _ (set : ℕ → Bool) (small : IsBelow set m)
      (all : (f : ℕ) → targets f ≡ true → star_spans set f ≡ true) where
    each_pair : (u v : ℕ) → u < n → v < n → joins a b set m u v ≡ true
    each_pair u v lu lv = out_of_star set u v small
        (joined_on first_of second_of set u 0 v
        (joined_back first_of second_of set 0 u (from_zero set u lu (all (m + u) (target u lu))))
        (from_zero set v lv (all (m + v) (target v lv))))

    pub joins_targets : joins_all a b m n set ≡ true
    joins_targets = joins_all-from a b m n set each_pair

-- ---- Maker's answers

module _ (a b : ℕ → ℕ) (m n : ℕ) (some : 0 < n)
    (ends : (f : ℕ) → f < m → (a f < n) × (b f < n)) where
  abbrev all : (ℕ → Bool) → Bool
  all set = joins_all a b m n set

  abbrev spans : (ℕ → Bool) → ℕ → Bool
  spans = star_spans a b m n

  law : IsSpan (star_spans a b m n)
  law = IsSpan-star a b m n

  abbrev free : Position → ℕ → Bool
  free p = below (is_free p) m

  abbrev Stands : Position → Type 0
  Stands p = AllStand spans (targets a b m n) (contains p.x) (free p)

  some_target : targets a b m n (m + 0) ≡ true
  some_target = target a b m n 0 some

  passes : (set : ℕ → Bool)
      → IsBelow set m
      → ((f : ℕ) → targets a b m n f ≡ true → spans set f ≡ true)
      → all set ≡ true
  passes set small each = joins_targets a b m n set small each

  -- sets that join every two vertices are trees for each target
  trees_for : (s a1 a2 : ℕ → Bool)
      → ((f : ℕ) → a1 f ≡ true → f < m)
      → ((f : ℕ) → a2 f ≡ true → f < m)
      → ((f : ℕ) → a1 f ≡ true → a2 f ≡ false)
      → all (either s a1) ≡ true
      → all (either s a2) ≡ true
      → (e : ℕ) → targets a b m n e ≡ true
      → IsTrees spans e s a1 a2
  trees_for s a1 a2 l1 l2 apart one two e t = record {
    apart = apart;
    first = λ f h.
        let low = l2 f h in
        spans_edge a b m n (either s a1) f one low (ends f low).0 (ends f low).1;
    first_joins = spans_target a b m n (either s a1) e one t;
    second = λ f h.
        let low = l1 f h in
        spans_edge a b m n (either s a2) f two low (ends f low).0 (ends f low).1;
    second_joins = spans_target a b m n (either s a2) e two t;
  }

  stand : (s fr : ℕ → Bool) (a1 a2 : FinSet nat_cmp)
      → IsWithin (contains a1) fr
      → IsWithin (contains a2) fr
      → ((f : ℕ) → contains a1 f ≡ true → f < m)
      → ((f : ℕ) → contains a2 f ≡ true → f < m)
      → ((f : ℕ) → contains a1 f ≡ true → contains a2 f ≡ false)
      → all (either s (contains a1)) ≡ true
      → all (either s (contains a2)) ≡ true
      → AllStand spans (targets a b m n) s fr
  stand s fr a1 a2 w1 w2 l1 l2 apart one two = record {
    first = contains a1;
    second = contains a2;
    trees = trees_for s (contains a1) (contains a2) l1 l2 apart one two;
    first_free = w1;
    second_free = w2;
  }

  -- trees force X's win
  pub ForcesBy-joining_trees : (p : Position) (first : Option ℕ) (a1 a2 : FinSet nat_cmp)
      → IsPlace m p
      → AreJoiningTrees a b m n p first a1 a2
      → ForcesBy (connectivity_rules a b m n) p X Win
  ForcesBy-joining_trees p None a1 a2 place t =
      let s : Stands p = stand (contains p.x) (free p) a1 a2
      (λ f h. let i = t.one_free f h in below_from (is_free p) m f i.1 i.0)
      (λ f h. let i = t.two_free f h in below_from (is_free p) m f i.1 i.0)
      (λ f h. (t.one_free f h).0) (λ f h. (t.two_free f h).0) t.apart t.one_joins t.two_joins in
      ForcesBy-targets m all (joins_all-more a b m n) spans law (targets a b m n)
      (m + 0) some_target passes p place
      (λ mine. AllOwed-stand spans law (targets a b m n) (m + 0) some_target (contains p.x)
      (free p) s) (λ yours. s)
  ForcesBy-joining_trees p (Some v) a1 a2 place t =
      let c = t.first_claimed in
      let fv : free p v ≡ true = below_from (is_free p) m v c.1 c.0 in
      let x : contains (next m all p v).x ≡ plus (contains p.x) v = x-plus m all p v c.4 in
      let same : (set : ℕ → Bool)
      → either (plus (contains p.x) v) set ≡ either (contains (next m all p v).x) set =
      λ set. ap (λ (q : ℕ → Bool). either q set) (sym x) in
      let plain : contains (insert p.x v) ≡ contains (next m all p v).x =
      contains-insert_plus p.x v ∙ sym x in
      let open_one : IsWithin (contains a1) (free (next m all p v)) =
      λ f h. let i = t.one_free f h in
      subst (λ (s : ℕ → Bool). s f ≡ true) (sym (free-next m all p v))
      (minus_from (free p) v f (below_from (is_free p) m f i.1 i.0)
      (λ e. both_ways _ c.2 (subst (λ (j : ℕ). contains a1 j ≡ true) (sym e) h))) in
      let open_two : IsWithin (contains a2) (free (next m all p v)) =
      λ f h. let i = t.two_free f h in
      subst (λ (s : ℕ → Bool). s f ≡ true) (sym (free-next m all p v))
      (minus_from (free p) v f (below_from (is_free p) m f i.1 i.0)
      (λ e. both_ways _ c.3 (subst (λ (j : ℕ). contains a2 j ≡ true) (sym e) h))) in
      let s : Stands (next m all p v) = stand (contains (next m all p v).x) (free (next m all p v))
      a1 a2 open_one open_two (λ f h. (t.one_free f h).0) (λ f h. (t.two_free f h).0) t.apart
      (subst (λ (q : ℕ → Bool). all (either q (contains a1)) ≡ true) plain t.one_joins)
      (subst (λ (q : ℕ → Bool). all (either q (contains a2)) ≡ true) plain t.two_joins) in
      let turn : (next m all p v).turn ≡ Y = turn-next m all p v place ∙ ap other c.4 in
      elim (cases_Bool ((claim_rules m all).over p)) [
        | inl over ↦ ForcesBy-over (claim_rules m all)
            (IsEnding-claims m all (joins_all-more a b m n)) p X Win over
            (x_wins m all p over
            (joins_all-more a b m n (either (contains (insert p.x v)) (contains a1)) (kept m p)
            (λ z k. elim (either_cases (contains (insert p.x v)) (contains a1) z k) [
              | inl i ↦ elim (plus_cases (contains p.x) v z
                  (subst (λ (q : ℕ → Bool). q z ≡ true) (contains-insert_plus p.x v) i)) [
                    | inl q ↦ x-kept m all p place z q
                    | inr e ↦ subst (λ (j : ℕ). kept m p j ≡ true) e (free-kept m all p v fv)
                  ]
              | inr i ↦
                  let f = t.one_free z i in
                  free-kept m all p z (below_from (is_free p) m z f.1 f.0)
            ]) t.one_joins))
        | inr going ↦ ForcesBy-move (claim_rules m all)
            (IsEnding-claims m all (joins_all-more a b m n)) p X Win going c.4 v c.0 c.1
            (ForcesBy-targets m all (joins_all-more a b m n) spans law (targets a b m n)
            (m + 0) some_target passes (next m all p v) (IsPlace-next m all p v place fv)
            (λ mine. absurd (side≢other X (sym mine ∙ turn))) (λ yours. s))
      ]
