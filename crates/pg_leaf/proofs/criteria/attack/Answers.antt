use Rattle.std.proofs.Common.{◌≢◌, ◌∙◌, Some, None, sym, subst}
use Rattle.pg_leaf.proofs.Common.{Side, Game}
use Rattle.pg_threat.specs.Forced.{IsAnswer}
use Rattle.pg_threat.proofs.Deciding.{attack_wins-found, attack_wins-not, attack_wins-biased}
use Rattle.pg_leaf.proofs.FirstCriterion.{attack-line}
use Rattle.pg_leaf.proofs.criteria.attack.Goals as goal

pub returns-then-not-may_attack-clause-found : goal.returns-then-not-may_attack-clause-found
returns-then-not-may_attack-clause-found c =
    let barred = rw (c.kind.ensures.exact, c.turn-turn.ensures) at
    (sym c.may_attack.ensures ∙ c.if-not-may_attack.true) in
    sym (attack_wins-not c.args.b.now.game c.args.b.now.stand.position barred)

pub returns-then-game-ne1-clause-found : goal.returns-then-game-ne1-clause-found
returns-then-game-ne1-clause-found c = sym
    (attack_wins-biased c.args.b.now.game c.args.b.now.stand.position
    (subst (λ (g : Game). g.bias ≢ 1) c.game.ensures c.if-game-ne1.true))

pub returns-in_ok-points_of-in-Some-clause-found : goal.returns-in_ok-points_of-in-Some-clause-found
returns-in_ok-points_of-in-Some-clause-found c =
    let g = c.args.b.now.game in
    let p = c.args.b.now.stand.position in
    let may = rw (c.kind.ensures.exact, c.turn-turn.ensures) at
    (sym c.may_attack.ensures ∙ c.if-not-may_attack.false) in
    sym
    (attack_wins-found g p (Some c.in-Some.line) may
    (subst (λ (s : Side). IsAnswer g p s 3 (Some c.in-Some.line)) c.turn-turn.ensures
    c.in-Some.ensures.answer))

pub returns-in_ok-points_of-in-Some-clause-line : goal.returns-in_ok-points_of-in-Some-clause-line
returns-in_ok-points_of-in-Some-clause-line c =
    let g = c.args.b.now.game in
    let p = c.args.b.now.stand.position in
    let is = subst (λ (s : Side). IsAnswer g p s 3 (Some c.in-Some.line)) c.turn-turn.ensures
    c.in-Some.ensures.answer in
    attack-line g p c.in_ok-points_of-in-Some.field-0.items _ is.first.line
    c.in_ok-points_of-in-Some.ensures

pub returns-in-None-clause-found : goal.returns-in-None-clause-found
returns-in-None-clause-found c =
    let g = c.args.b.now.game in
    let p = c.args.b.now.stand.position in
    let may = rw (c.kind.ensures.exact, c.turn-turn.ensures) at
    (sym c.may_attack.ensures ∙ c.if-not-may_attack.false) in
    sym
    (attack_wins-found g p None may
    (subst (λ (s : Side). IsAnswer g p s 3 None) c.turn-turn.ensures c.in-None.ensures.answer))
