use Rattle.std.proofs.Common.{◌≤◌, ℕ, length, subst, sym, arith}
use Rattle.pg_vec_player.proofs.Common.{with_target, vector_spans}
use Rattle.pg_vec_player.proofs.MoveLemmas.{answer-bound, vec-own}
use Rattle.pg_vec_player.proofs.moves.own_move.Goals as goal

pub without_both-requires-clause-claimed : goal.without_both-requires-clause-claimed
without_both-requires-clause-claimed c =
    let g = c.args.g.now in
    let low : c.answer-vector.result ≤ length g.vectors =
    subst (λ (v : ℕ). v ≤ length g.vectors) (sym c.answer-vector.ensures.answer)
    (answer-bound (vector_spans (with_target g))
    (length g.vectors) c.args.p.now c.args.side c.args.plan.now c.lost_vector-x.result) in
    let few = g.fits.few_vectors in
    omega (arith, low, few)

pub without_both-requires-2-clause-claimed : goal.without_both-requires-2-clause-claimed
without_both-requires-2-clause-claimed c =
    let g = c.args.g.now in
    let low : c.answer-vector.result ≤ length g.vectors =
    subst (λ (v : ℕ). v ≤ length g.vectors) (sym c.answer-vector.ensures.answer)
    (answer-bound (vector_spans (with_target g))
    (length g.vectors) c.args.p.now c.args.side c.args.plan.now c.lost_vector-x.result) in
    let few = g.fits.few_vectors in
    omega (arith, low, few)

pub returns-clause-own : goal.returns-clause-own
returns-clause-own c =
    let g = c.args.g.now in
    vec-own (vector_spans (with_target g)) (length g.vectors) c.args.p.now c.args.side
    c.args.plan.now c.without_both.result c.without_both-2.result c.args.last c.lost_vector-x.result
    c.answer-vector.result c.lost_vector-x.ensures c.answer-vector.ensures.answer
    c.without_both.ensures c.without_both-2.ensures
