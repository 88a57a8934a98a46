use Rattle.std.proofs.Common.{◌≡◌, ◌∙◌, ℕ, Option, length, sym, ap, ap₂, subst, unwrap_or}
use Rattle.pg_vec_player.proofs.Common.{contains, remove, either, Side, left_without, lowest_free}
use Rattle.pg_vec_player.proofs.Common.{reply_vector, with_target, vector_spans}
use Rattle.pg_vec_player.proofs.MoveLemmas.{found-x, found-y}
use Rattle.pg_vec_player.proofs.judge.VecJudge.reply.Goals as goal

pub returns-in-X-clause-reply : goal.returns-in-X-clause-reply
returns-in-X-clause-reply c =
    let g = c.args.g.now in
    let p = c.args.p.now in
    let ws = with_target g in
    let n = length g.vectors in
    let count = c.target_of-n.ensures.number in
    let found =
    found-x c.as_slice-vectors.result.now ws c.target_of-n.result n (contains c.joined-set.result)
    (either (contains p.x) (contains (remove c.args.one.now c.args.x))) c.args.other.now
    c.lowest_unspanned-found.result (c.as_slice-vectors.ensures.value ∙ c.requires.made.vectors)
    count c.joined-set.ensures c.lowest_unspanned-found.ensures.lowest in
    subst
    (λ (s : Side). c.or_lowest.result
    ≡ reply_vector (vector_spans ws) n s p c.args.one.now c.args.other.now c.args.x) (sym c.in-X.is)
    (c.or_lowest.ensures
    ∙ ap₂ (λ (o : Option ℕ) (m : ℕ). unwrap_or o (lowest_free m p)) found count)

pub returns-in-Y-clause-reply : goal.returns-in-Y-clause-reply
returns-in-Y-clause-reply c =
    let g = c.args.g.now in
    let p = c.args.p.now in
    let ws = with_target g in
    let n = length g.vectors in
    let count = c.target_of-n.ensures.number in
    let found = found-y c.as_slice-vectors.result.now ws c.target_of-n.result n
    (contains c.left_without-left.result) (left_without n p c.args.one.now) c.args.x
    c.args.other.now c.lowest_needed-found.result
    (c.as_slice-vectors.ensures.value ∙ c.requires.made.vectors) count
    (c.left_without-left.ensures ∙ ap (λ (m : ℕ). left_without m p c.args.one.now) count)
    c.lowest_needed-found.ensures.lowest in
    subst (λ (s : Side). c.or_lowest-in-Y.result
    ≡ reply_vector (vector_spans ws) n s p c.args.one.now c.args.other.now c.args.x) (sym c.in-Y.is)
    (c.or_lowest-in-Y.ensures
    ∙ ap₂ (λ (o : Option ℕ) (m : ℕ). unwrap_or o (lowest_free m p)) found count)
