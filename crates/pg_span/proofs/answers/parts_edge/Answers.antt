use Rattle.std.proofs.Common.{◌<◌, ℕ, Option, sym, ap, ◌∙◌, ◌&&◌, arith}
use Rattle.std.specs.Prelude.{unwrap_or, slice_index}
use Rattle.pg_span.proofs.Common.{and_from, edge_count, first_end_of, second_end_of, is_free}
use Rattle.pg_span.proofs.Common.{lowest_free_edge, crosses, first_below, none_below}
use Rattle.pg_span.proofs.answers.parts_edge.Goals as goal

pub returns-then-crosses : goal.returns-then-crosses
returns-then-crosses c =
    let h = c.args.graph.now in
    let p = c.args.p.now in
    let low : c.loop-v.v < edge_count h =
    omega (arith, c.loop-v-test.true, c.edge_count-v-end.ensures) in
    sym (ap (λ (r : Option ℕ). unwrap_or r (lowest_free_edge h p)) (first_below (λ f.
    is_free p f && crosses (first_end_of h) (second_end_of h) (slice_index c.args.numbers.now) f)
    c.loop-v.v (edge_count h) low (and_from _ _ (sym c.is_free.ensures ∙ c.if-is_free.true)
    (sym c.crosses.ensures ∙ c.if-crosses.true)) c.loop-v.invariant))

pub returns : goal.returns
returns c =
    let h = c.args.graph.now in
    let p = c.args.p.now in
    c.lowest_free.ensures
    ∙ sym (ap (λ (r : Option ℕ). unwrap_or r (lowest_free_edge h p)) (none_below (λ f.
    is_free p f && crosses (first_end_of h) (second_end_of h) (slice_index c.args.numbers.now) f)
    (edge_count h) (λ w low. c.loop-v.invariant w (omega (
      arith,
      low,
      c.loop-v-test.false,
      c.edge_count-v-end.ensures,
    )))))
