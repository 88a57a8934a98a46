use Rattle.std.proofs.Common.{◌≡◌, ℕ, ◌+◌, ◌<◌, Bool, true, false, List, [], ◌∷◌, ◌++◌, length, ap}
use Rattle.std.proofs.Common.{◌∙◌, subst, sym, arith}
use Rattle.pg_gf2.proofs.Common.{both_ways, length-append, contains, either, both, below, outside}
use Rattle.pg_gf2.proofs.Common.{IsBelow, emptied, of_outside, IsBase-apart, spanned-apart, IsFree}
use Rattle.pg_gf2.proofs.Common.{IsGrown}
use Rattle.pg_exchange.proofs.SearchSteps.{outside-outside}
use Rattle.pg_gf2.specs.declared.row.Row.{Row}
use Rattle.pg_gf2.specs.Vectors.{vector_at, spans_over}
use Rattle.pg_gf2.specs.GroundLaws.{IsSpan-over_vectors}
use Rattle.pg_gf2.specs.Rows.{IsEliminated}
use Rattle.pg_gf2.proofs.GroundLemmas.{elements_range, eliminated_start}
use Rattle.pg_gf2.proofs.ground.VecGround.apart_from.Goals as goal

pub invariant_of-result : goal.invariant_of-result
invariant_of-result c =
    let g = c.args.g.now in
    let vectors = c.in_ok-vectors.vectors.items in
    let n = length vectors in
    let x = contains g.x in
    let elements = contains c.elements_of-elements.result in
    let avoided = contains c.args.avoided.now in
    let none = emptied c.empty.result c.empty.ensures in
    let made : vectors ≡ g.vectors ++ (g.target ∷ []) = c.in_ok-vectors.ensures in
    let small : IsBelow elements n = λ z h. subst (λ (vs : List ℕ). z < length vs) (sym made)
    (elements_range x (contains g.y) g.vectors g.target z
    (subst (λ (s : ℕ → Bool). s z ≡ true) c.elements_of-elements.ensures h)) in
    let begun : IsEliminated (vector_at vectors) n x (contains c.empty.result)
    (either x (contains c.empty.result)) c.in_ok-rows.rows.items =
    eliminated_start (vector_at vectors) n x (contains c.empty.result) c.in_ok-rows.rows.items none
    (subst (λ (vs : List ℕ). IsEliminated (vector_at vs) (length vs) x
    (λ _. false) x c.in_ok-rows.rows.items) c.deref.ensures.value c.in_ok-rows.ensures) in
    let there : (vs : List ℕ) (base : ℕ → Bool) (rows : List Row) → vs ≡ vectors
    → IsEliminated (vector_at vectors) n x base (either x base) rows
    → IsEliminated (vector_at vs) (length vs) x base (either x base) rows =
    λ vs base rows e i. subst
    (λ (q : List ℕ). IsEliminated (vector_at q) (length q) x base (either x base) rows) (sym e) i in
    let grown = c.in_ok-grow.ensures.grown x
    (there c.deref-2.result.now (contains c.empty.result) c.in_ok-rows.rows.items
    c.deref-2.ensures.value begun) (λ f h. absurd (both_ways _ (none f) h)) in
    let first_rows : IsEliminated (vector_at vectors) n x (contains c.grow.new.solved.base)
    (either x (contains c.grow.new.solved.base)) c.grow.new.solved.rows.items = subst
    (λ (q : List ℕ). IsEliminated (vector_at q) (length q) x (contains c.grow.new.solved.base)
    (either x (contains c.grow.new.solved.base)) c.grow.new.solved.rows.items)
    c.deref-2.ensures.value
    (c.in_ok-grow.ensures.eliminated x (there c.deref-2.result.now
    (contains c.empty.result) c.in_ok-rows.rows.items c.deref-2.ensures.value begun)) in
    let grown_free =
    subst (λ (q : List ℕ). IsFree (spans_over q x) (contains c.grow.new.solved.base))
    (c.deref-2.ensures.value ∙ sym c.deref-3.ensures.value) grown.free in
    let more = c.in_ok-grow-2.ensures.grown x
    (there c.deref-3.result.now (contains c.grow.new.solved.base) c.grow.new.solved.rows.items
    c.deref-3.ensures.value first_rows) grown_free in
    let others = of_outside c.elements_of-elements.result c.args.avoided.now c.without-others.result
    c.without-others.ensures.difference in
    let rest = of_outside c.elements_of-elements.result c.without-others.result c.without.result
    c.without.ensures.difference
    ∙ (ap (λ (s : ℕ → Bool). outside elements s) others ∙ outside-outside elements avoided) in
    let first : IsGrown (spans_over vectors x) (contains c.empty.result)
    (below (outside elements avoided) n) (contains c.grow.new.solved.base) = subst
    (λ (s : ℕ → Bool). IsGrown (spans_over vectors x) (contains c.empty.result) (below s n)
    (contains c.grow.new.solved.base)) others
    (subst (λ (q : List ℕ). IsGrown (spans_over q x) (contains c.empty.result)
    (below (contains c.without-others.result) (length q)) (contains c.grow.new.solved.base))
    c.deref-2.ensures.value grown) in
    let second : IsGrown (spans_over vectors x) (contains c.grow.new.solved.base)
    (below (both elements avoided) n) (contains c.grow-2.new.solved.base) = subst
    (λ (s : ℕ → Bool). IsGrown (spans_over vectors x) (contains c.grow.new.solved.base) (below s n)
    (contains c.grow-2.new.solved.base)) rest
    (subst (λ (q : List ℕ). IsGrown (spans_over q x) (contains c.grow.new.solved.base)
    (below (contains c.without.result) (length q)) (contains c.grow-2.new.solved.base))
    c.deref-3.ensures.value more) in
    let count : n ≡ length g.vectors + 1 =
    ap length made ∙ length-append g.vectors (g.target ∷ []) in
    record {
      few = omega (arith, g.fits.few_vectors, count);
      element_range = small;
      is_base = IsBase-apart (spans_over vectors x) (IsSpan-over_vectors vectors x) elements avoided
          (contains c.empty.result) (contains c.grow.new.solved.base)
          (contains c.grow-2.new.solved.base) n small none first second;
      eliminated = subst (λ (q : List ℕ). IsEliminated (vector_at q) (length q) x
          (contains c.grow-2.new.solved.base) (either x (contains c.grow-2.new.solved.base))
          c.grow-2.new.solved.rows.items) c.deref-3.ensures.value
          (c.in_ok-grow-2.ensures.eliminated x
          (there c.deref-3.result.now (contains c.grow.new.solved.base) c.grow.new.solved.rows.items
          c.deref-3.ensures.value first_rows));
    }

pub returns-clause-apart : goal.returns-clause-apart
returns-clause-apart c =
    let g = c.args.g.now in
    let vectors = c.in_ok-vectors.vectors.items in
    let n = length vectors in
    let x = contains g.x in
    let elements = contains c.elements_of-elements.result in
    let avoided = contains c.args.avoided.now in
    let none = emptied c.empty.result c.empty.ensures in
    let made : vectors ≡ g.vectors ++ (g.target ∷ []) = c.in_ok-vectors.ensures in
    let small : IsBelow elements n = λ z h. subst (λ (vs : List ℕ). z < length vs) (sym made)
    (elements_range x (contains g.y) g.vectors g.target z
    (subst (λ (s : ℕ → Bool). s z ≡ true) c.elements_of-elements.ensures h)) in
    let begun : IsEliminated (vector_at vectors) n x (contains c.empty.result)
    (either x (contains c.empty.result)) c.in_ok-rows.rows.items =
    eliminated_start (vector_at vectors) n x (contains c.empty.result) c.in_ok-rows.rows.items none
    (subst (λ (vs : List ℕ). IsEliminated (vector_at vs) (length vs) x
    (λ _. false) x c.in_ok-rows.rows.items) c.deref.ensures.value c.in_ok-rows.ensures) in
    let there : (vs : List ℕ) (base : ℕ → Bool) (rows : List Row) → vs ≡ vectors
    → IsEliminated (vector_at vectors) n x base (either x base) rows
    → IsEliminated (vector_at vs) (length vs) x base (either x base) rows =
    λ vs base rows e i. subst
    (λ (q : List ℕ). IsEliminated (vector_at q) (length q) x base (either x base) rows) (sym e) i in
    let grown = c.in_ok-grow.ensures.grown x
    (there c.deref-2.result.now (contains c.empty.result) c.in_ok-rows.rows.items
    c.deref-2.ensures.value begun) (λ f h. absurd (both_ways _ (none f) h)) in
    let first_rows : IsEliminated (vector_at vectors) n x (contains c.grow.new.solved.base)
    (either x (contains c.grow.new.solved.base)) c.grow.new.solved.rows.items = subst
    (λ (q : List ℕ). IsEliminated (vector_at q) (length q) x (contains c.grow.new.solved.base)
    (either x (contains c.grow.new.solved.base)) c.grow.new.solved.rows.items)
    c.deref-2.ensures.value
    (c.in_ok-grow.ensures.eliminated x (there c.deref-2.result.now
    (contains c.empty.result) c.in_ok-rows.rows.items c.deref-2.ensures.value begun)) in
    let grown_free =
    subst (λ (q : List ℕ). IsFree (spans_over q x) (contains c.grow.new.solved.base))
    (c.deref-2.ensures.value ∙ sym c.deref-3.ensures.value) grown.free in
    let more = c.in_ok-grow-2.ensures.grown x
    (there c.deref-3.result.now (contains c.grow.new.solved.base) c.grow.new.solved.rows.items
    c.deref-3.ensures.value first_rows) grown_free in
    let others = of_outside c.elements_of-elements.result c.args.avoided.now c.without-others.result
    c.without-others.ensures.difference in
    let rest = of_outside c.elements_of-elements.result c.without-others.result c.without.result
    c.without.ensures.difference
    ∙ (ap (λ (s : ℕ → Bool). outside elements s) others ∙ outside-outside elements avoided) in
    let first : IsGrown (spans_over vectors x) (contains c.empty.result)
    (below (outside elements avoided) n) (contains c.grow.new.solved.base) = subst
    (λ (s : ℕ → Bool). IsGrown (spans_over vectors x) (contains c.empty.result) (below s n)
    (contains c.grow.new.solved.base)) others
    (subst (λ (q : List ℕ). IsGrown (spans_over q x) (contains c.empty.result)
    (below (contains c.without-others.result) (length q)) (contains c.grow.new.solved.base))
    c.deref-2.ensures.value grown) in
    let second : IsGrown (spans_over vectors x) (contains c.grow.new.solved.base)
    (below (both elements avoided) n) (contains c.grow-2.new.solved.base) = subst
    (λ (s : ℕ → Bool). IsGrown (spans_over vectors x) (contains c.grow.new.solved.base) (below s n)
    (contains c.grow-2.new.solved.base)) rest
    (subst (λ (q : List ℕ). IsGrown (spans_over q x) (contains c.grow.new.solved.base)
    (below (contains c.without.result) (length q)) (contains c.grow-2.new.solved.base))
    c.deref-3.ensures.value more) in
    spanned-apart (spans_over vectors x) (IsSpan-over_vectors vectors x) elements avoided
    (contains c.empty.result) (contains c.grow.new.solved.base)
    (contains c.grow-2.new.solved.base) n small none first second
