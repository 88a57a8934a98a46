use Rattle.std.proofs.Common.{◌≡◌, ◌<◌, ℕ, true, sym, subst}
use Rattle.pg_potential.proofs.Common.{Contains, XWins, is_free, point_count, free_points, after}
use Rattle.pg_potential.proofs.Common.{avoider_answer, outcome, AvoiderHolds, IsBaseOf-two}
use Rattle.pg_potential.proofs.Common.{free-member}
use Rattle.pg_potential.proofs.AvoiderLaws.{answer-is, answer-free, answer-wins, answer-keeps}
use Rattle.pg_potential.proofs.avoider.answer.Goals as goal

pub weigh-weights-requires : goal.weigh-weights-requires
weigh-weights-requires c = IsBaseOf-two c.args.g.now

pub returns-clause-rule : goal.returns-clause-rule
returns-clause-rule c = answer-is c.args.g.now c.args.p.now c.weigh-weights.result.points
    c.least_free-least.result c.lowest_with.result c.requires.lines c.weigh-weights.ensures.points
    c.least_free-least.ensures c.lowest_with.ensures

pub returns-clause-free : goal.returns-clause-free
returns-clause-free c =
    let g = c.args.g.now in
    let p = c.args.p.now in
    let is = answer-is g p c.weigh-weights.result.points c.least_free-least.result
    c.lowest_with.result c.requires.lines c.weigh-weights.ensures.points c.least_free-least.ensures
    c.lowest_with.ensures in
    let here = answer-free g p c.requires.some_free in
    subst (λ (n : ℕ). Contains (free_points g p) n) (sym is)
    (free-member g p (avoider_answer g p) here.0 here.1)

pub returns-clause-wins : goal.returns-clause-wins
returns-clause-wins c = λ kind mine holds over.
    let g = c.args.g.now in
    let p = c.args.p.now in
    let is = answer-is g p c.weigh-weights.result.points c.least_free-least.result
    c.lowest_with.result c.requires.lines c.weigh-weights.ensures.points c.least_free-least.ensures
    c.lowest_with.ensures in
    subst (λ (n : ℕ). outcome g (after g p n) ≡ XWins) (sym is)
    (answer-wins g p kind c.requires.position c.requires.some_free mine holds)

pub returns-clause-keeps : goal.returns-clause-keeps
returns-clause-keeps c = λ mine holds.
    let g = c.args.g.now in
    let p = c.args.p.now in
    let is = answer-is g p c.weigh-weights.result.points c.least_free-least.result
    c.lowest_with.result c.requires.lines c.weigh-weights.ensures.points c.least_free-least.ensures
    c.lowest_with.ensures in
    subst
    (λ (n : ℕ). (u : ℕ) → u < point_count g
    → is_free (after g p n) u ≡ true
    → AvoiderHolds g (after g (after g p n) u)) (sym is)
    (answer-keeps g p c.requires.position c.requires.some_free mine holds)
