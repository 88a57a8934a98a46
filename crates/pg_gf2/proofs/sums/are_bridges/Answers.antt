use Rattle.std.proofs.Common.{◌≡◌, ℕ, Bool, length, subst}
use Rattle.pg_gf2.proofs.Common.{both_ways, contains, below, either, outside, IsGrown, emptied}
use Rattle.pg_gf2.proofs.Common.{of_outside}
use Rattle.pg_gf2.specs.Vectors.{vector_at, vector_spans, spans_over}
use Rattle.pg_gf2.specs.Rows.{IsEliminated}
use Rattle.pg_gf2.specs.GroundLaws.{IsSpan-vectors}
use Rattle.pg_gf2.proofs.GroundLemmas.{eliminated_start}
use Rattle.pg_gf2.proofs.SpanTests.{bridges_sound, bridges_complete}
use Rattle.pg_gf2.proofs.sums.are_bridges.Goals as goal

pub returns : goal.returns
returns c =
    let vectors = c.args.vectors.now in
    let v = vector_at vectors in
    let n = length vectors in
    let set = contains c.args.set.now in
    let bridges = contains c.args.bridges.now in
    let none = contains c.empty.result in
    let base = contains c.grow.new.solved.base in
    let rest = contains c.without-rest.result in
    let start = emptied c.empty.result c.empty.ensures in
    let rest_is : rest ≡ outside set bridges = of_outside c.args.set.now c.args.bridges.now
    c.without-rest.result c.without-rest.ensures.difference in
    let begun : IsEliminated v n rest none (either rest none) c.in_ok-rows.rows.items =
    eliminated_start v n rest none c.in_ok-rows.rows.items start c.in_ok-rows.ensures in
    let grown : IsGrown (spans_over vectors (outside set bridges)) none (below bridges n) base =
    subst (λ (s : ℕ → Bool). IsGrown (spans_over vectors s) none (below bridges n) base) rest_is
    (c.in_ok-grow.ensures.grown rest begun (λ f h. absurd (both_ways _ (start f) h))) in (
      λ t. bridges_sound (vector_spans vectors)
          (IsSpan-vectors vectors) set bridges none base n start grown (c.is_subset.ensures.0 t),
      λ each. c.is_subset.ensures.1
          (bridges_complete (vector_spans vectors) (IsSpan-vectors vectors) set bridges none base n
          start grown c.requires.within c.requires.bridges each),
    )
