-- Roots that stand for joined vertices, a union at a time.
use Rattle.std.proofs.Common.{◌≡◌, ◌≢◌, ℕ, ◌<◌, ◌≤◌, ◌↔◌, IsTrue, Bool, false, ◌⊎◌, eqb, cond, List}
use Rattle.std.proofs.Common.{length, get_or, arith, sym, ap, ◌∙◌, subst, inl, inr, refl}
use Rattle.pg_graph.proofs.Common.{set, plus, cases_eq, eq-eqb, ne_eqb, both_ways}
use Rattle.pg_graph.specs.declared.graph.Graph.{Graph}
use Rattle.pg_graph.specs.Graph.{IsGraph, JoinsEndsOf, edge_count, first_end_of, second_end_of}
use Rattle.pg_graph.specs.Walks.{IsJoined}
use Rattle.pg_graph.specs.Labels.{IsMerged, IsLabelling, HaveOneRoot}
use Rattle.pg_graph.specs.Roots.{root_of, IsUpward, SameRoots}
use Rattle.pg_graph.proofs.RootLemmas.{root-merged, root-own, own_from_root}
use Rattle.pg_graph.proofs.GraphLemmas.{ends_in_range}
use Rattle.pg_graph.proofs.LabelLemmas.{lowered-joined, joined-lowered}
use Rattle.pg_graph.proofs.WalkLemmas.{joined_self, joined_none}

-- the root hi goes below the root lo
pub merged : (parents parents2 : List ℕ) (u v lo hi : ℕ)
    → IsUpward parents2
    → length parents2 ≡ length parents
    → SameRoots parents parents2
    → hi < length parents
    → lo ≤ hi
    → root_of parents lo ≡ lo
    → root_of parents hi ≡ hi
    → ((root_of parents u ≡ lo) × (root_of parents v ≡ hi))
    ⊎ ((root_of parents u ≡ hi) × (root_of parents v ≡ lo))
    → IsMerged parents (set parents2 hi lo) u v
merged parents parents2 u v lo hi upward size same within le root_lo root_hi ends = record {
  lo = lo;
  hi = hi;
  ends = ends;
  roots = λ w l.
      let q : root_of (set parents2 hi lo) w ≡ cond (eqb (root_of parents2 w) hi) lo
      (root_of parents2 w) = root-merged parents2 lo hi upward (omega arith) le
      (own_from_root parents2 upward lo (omega arith) (same lo (omega arith) ∙ root_lo))
      (own_from_root parents2 upward hi (omega arith) (same hi within ∙ root_hi)) w (omega arith) in
      q ∙ ap (λ z. cond (eqb z hi) lo z) (same w l);
}

-- vertices below one root are united: the roots stay
merged-idle : (parents new : List ℕ) (u v : ℕ)
    → root_of parents u ≡ root_of parents v
    → IsMerged parents new u v
    → SameRoots parents new
merged-idle parents new u v one m w l =
    let same : m.lo ≡ m.hi = elim m.ends [
      | inl p ↦ sym p.0 ∙ (one ∙ p.1)
      | inr p ↦ sym p.1 ∙ (sym one ∙ p.0)
    ] in
    m.roots w l ∙ elim (cases_eq (root_of parents w) m.hi) [
      | inl e ↦ rw (eq-eqb (root_of parents w) m.hi e) (same ∙ sym e)
      | inr d ↦ rw (ne_eqb (root_of parents w) m.hi d) refl
    ]

module _ (a b : ℕ → ℕ) (s : ℕ → Bool) where
  pub IsLabelling-begin : (parents : List ℕ)
      → ((k : ℕ) → s k ≡ false)
      → ((v : ℕ) → v < length parents → get_or parents v 0 ≡ v)
      → IsLabelling a b s parents
  IsLabelling-begin parents none own = record {
    upward = λ v l. let e : get_or parents v 0 ≡ v = own v l in omega arith;
    same = λ u v lu lv.
        let top_u : root_of parents u ≡ u = root-own parents u (own u lu) in
        let top_v : root_of parents v ≡ v = root-own parents v (own v lv) in (
          λ e. subst (λ z. IsJoined a b s u z) (sym top_u ∙ (e ∙ top_v)) (joined_self a b s u),
          λ j. top_u ∙ (joined_none a b s none u v j ∙ sym top_v),
        );
  }

  IsLabelling-merged : (k : ℕ) (parents new : List ℕ)
      → a k < length parents
      → b k < length parents
      → length new ≡ length parents
      → IsUpward new
      → IsMerged parents new (a k) (b k)
      → IsLabelling a b s parents
      → IsLabelling a b (plus s k) new
  IsLabelling-merged k parents new la lb size upward m l = record {
    upward = upward;
    same = λ u v lu lv.
        let in_u : u < length parents = omega arith in
        let in_v : v < length parents = omega arith in
        let now_u = m.roots u in_u in
        let now_v = m.roots v in_v in (
          λ e. lowered-joined a b s (length parents) k m.lo m.hi
              (root_of parents) l.same la lb m.ends u v in_u in_v (sym now_u ∙ (e ∙ now_v)),
          λ j. now_u
              ∙ (joined-lowered a b s (length parents) k m.lo m.hi
              (root_of parents) l.same la lb m.ends u v in_u in_v j
              ∙ sym now_v),
        );
  }

  pub IsLabelling-same : (old new : List ℕ)
      → length new ≡ length old
      → IsUpward new
      → SameRoots old new
      → IsLabelling a b s old
      → IsLabelling a b s new
  IsLabelling-same old new size upward same l = record {
    upward = upward;
    same = λ u v lu lv.
        let u_same : root_of new u ≡ root_of old u = same u (omega arith) in
        let v_same : root_of new v ≡ root_of old v = same v (omega arith) in
        let q = l.same u v (omega arith) (omega arith) in
        (λ e. q.0 (sym u_same ∙ (e ∙ v_same)), λ p. u_same ∙ (q.1 p ∙ sym v_same));
  }

-- an edge of a graph whose ends, as the code reads them, are united
pub IsLabelling-joined : (g : Graph) (s : ℕ → Bool) (k : ℕ) (parents new : List ℕ) (ends : ℕ × ℕ)
    → IsGraph g
    → k ≤ edge_count g
    → length parents ≡ g.vertices
    → length new ≡ length parents
    → ◌≡◌ {A = ℕ × ℕ} ends (first_end_of g k, second_end_of g k)
    → IsUpward new
    → IsMerged parents new ends.0 ends.1
    → IsLabelling (first_end_of g) (second_end_of g) s parents
    → IsLabelling (first_end_of g) (second_end_of g) (plus s k) new
IsLabelling-joined g s k parents new ends h l size same is upward m labelled =
    let range = ends_in_range g k h l in
    IsLabelling-merged (first_end_of g) (second_end_of g) s k parents new (omega (arith, range.0))
    (omega (arith, range.1)) same upward
    (subst (λ (e : ℕ × ℕ). IsMerged parents new e.0 e.1) is m) labelled

-- the two ends of an edge have one root just where the set joins them
pub ends_label : (g : Graph) (s : ℕ → Bool) (k : ℕ) (parents : List ℕ)
    → IsGraph g
    → k ≤ edge_count g
    → length parents ≡ g.vertices
    → IsLabelling (first_end_of g) (second_end_of g) s parents
    → HaveOneRoot g parents k ↔ JoinsEndsOf g s k
ends_label g s k parents h l size labelled =
    let range = ends_in_range g k h l in
    labelled.same (first_end_of g k) (second_end_of g k) (omega (arith, range.0))
    (omega (arith, range.1))

-- the ends of an edge, as the code reads them, had two roots just where the set doesn't join them
pub ends_two : (g : Graph) (s : ℕ → Bool) (k : ℕ) (parents : List ℕ) (ends : ℕ × ℕ) (r : Bool)
    → IsGraph g
    → k ≤ edge_count g
    → length parents ≡ g.vertices
    → ◌≡◌ {A = ℕ × ℕ} ends (first_end_of g k, second_end_of g k)
    → IsLabelling (first_end_of g) (second_end_of g) s parents
    → (IsTrue r ↔ (root_of parents ends.0 ≢ root_of parents ends.1))
    → IsTrue r ↔ (JoinsEndsOf g s k → ⊥)
ends_two g s k parents ends r h l size is labelled two =
    let label = ends_label g s k parents h l size labelled in
    let q = subst (λ (e : ℕ × ℕ). IsTrue r ↔ (root_of parents e.0 ≢ root_of parents e.1)) is two in
    (λ t j. q.0 t (label.1 j), λ apart. q.1 (λ e. apart (label.0 e)))

-- the ends of an edge, as the code reads them, had one root when they were united: the set joins
-- them, and the labels stay
pub IsLabelling-idle : (g : Graph) (s : ℕ → Bool) (k : ℕ) (parents new : List ℕ) (ends : ℕ × ℕ)
    (r : Bool)
    → IsGraph g
    → k ≤ edge_count g
    → length parents ≡ g.vertices
    → length new ≡ length parents
    → ◌≡◌ {A = ℕ × ℕ} ends (first_end_of g k, second_end_of g k)
    → IsUpward new
    → IsMerged parents new ends.0 ends.1
    → (IsTrue r ↔ (root_of parents ends.0 ≢ root_of parents ends.1))
    → r ≡ false
    → IsLabelling (first_end_of g) (second_end_of g) s parents
    → JoinsEndsOf g s k × IsLabelling (first_end_of g) (second_end_of g) s new
IsLabelling-idle g s k parents new ends r h l size same is upward m two off labelled =
    let one : root_of parents ends.0 ≡ root_of parents ends.1 =
    elim (cases_eq (root_of parents ends.0) (root_of parents ends.1)) [
      | inl e ↦ e
      | inr d ↦ absurd (both_ways _ off (two.1 d))
    ] in
    let here = subst (λ (e : ℕ × ℕ). root_of parents e.0 ≡ root_of parents e.1) is one in (
      (ends_label g s k parents h l size labelled).0 here,
      IsLabelling-same (first_end_of g) (second_end_of g) s parents new same upward
          (merged-idle parents new ends.0 ends.1 one m) labelled,
    )
