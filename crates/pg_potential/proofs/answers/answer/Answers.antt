use Rattle.std.proofs.Common.{◌≡◌, ℕ, sym, ap, subst, ◌∙◌}
use Rattle.pg_potential.proofs.Common.{Contains, Side, Y, free_points, after, PotentialHolds}
use Rattle.pg_potential.proofs.Common.{potential_answer, member-free}
use Rattle.pg_potential.proofs.GreatestWeight.{answer-is, answer-good}
use Rattle.pg_potential.proofs.PotentialLaws.{kept-answer_breaker, kept-answer_draw}
use Rattle.pg_potential.proofs.answers.answer.Goals as goal

pub returns-clause-rule : goal.returns-clause-rule
returns-clause-rule c =
    answer-is c.args.g.now c.args.p.now c.args.side c.weights_for-weights.result.points
    c.greatest_free-greatest.result c.lowest_with.result c.requires.lines
    c.weights_for-weights.ensures.points c.greatest_free-greatest.ensures c.lowest_with.ensures

pub returns-clause-free : goal.returns-clause-free
returns-clause-free c =
    let g = c.args.g.now in
    let p = c.args.p.now in
    let is = answer-is g p c.args.side c.weights_for-weights.result.points
    c.greatest_free-greatest.result c.lowest_with.result c.requires.lines
    c.weights_for-weights.ensures.points c.greatest_free-greatest.ensures c.lowest_with.ensures in
    subst (λ (n : ℕ). Contains (free_points g p) n) (sym is)
    (answer-good g p c.args.side c.requires.some_free).0

pub returns-clause-keeps_breaker : goal.returns-clause-keeps_breaker
returns-clause-keeps_breaker c = λ kind is_y mine holds.
    let g = c.args.g.now in
    let p = c.args.p.now in
    let is = answer-is g p c.args.side c.weights_for-weights.result.points
    c.greatest_free-greatest.result c.lowest_with.result c.requires.lines
    c.weights_for-weights.ensures.points c.greatest_free-greatest.ensures c.lowest_with.ensures in
    let good = answer-good g p Y c.requires.some_free in
    let same : potential_answer g p Y ≡ c.lowest_with.result =
    ap (λ (s : Side). potential_answer g p s) (sym is_y) ∙ sym is in
    subst (λ (n : ℕ). PotentialHolds g (after g p n) c.args.side) same
    (subst (λ (s : Side). PotentialHolds g (after g p (potential_answer g p Y)) s) (sym is_y)
    (kept-answer_breaker g p (potential_answer g p Y) kind c.requires.position
    (subst (λ (s : Side). PotentialHolds g p s) is_y holds) (mine ∙ is_y)
    (member-free g p (potential_answer g p Y) good.0) good.1))

pub returns-clause-keeps_draw : goal.returns-clause-keeps_draw
returns-clause-keeps_draw c = λ kind mine holds.
    let g = c.args.g.now in
    let p = c.args.p.now in
    let side = c.args.side in
    let is = answer-is g p side c.weights_for-weights.result.points c.greatest_free-greatest.result
    c.lowest_with.result c.requires.lines c.weights_for-weights.ensures.points
    c.greatest_free-greatest.ensures c.lowest_with.ensures in
    let good = answer-good g p side c.requires.some_free in
    subst (λ (n : ℕ). PotentialHolds g (after g p n) side) (sym is)
    (kept-answer_draw g p side (potential_answer g p side) kind c.requires.position holds mine
    (member-free g p (potential_answer g p side) good.0) good.1)
