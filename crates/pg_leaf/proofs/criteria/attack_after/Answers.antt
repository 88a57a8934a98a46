use Rattle.std.proofs.Common.{Some, None, sym, subst}
use Rattle.pg_leaf.proofs.Common.{Side}
use Rattle.pg_threat.specs.Forced.{IsAnswer}
use Rattle.pg_threat.proofs.Deciding.{attack_wins-found}
use Rattle.pg_leaf.proofs.FirstCriterion.{attack-line}
use Rattle.pg_leaf.proofs.criteria.attack_after.Goals as goal

pub returns-in_ok-points_of-in-Some-clause-found : goal.returns-in_ok-points_of-in-Some-clause-found
returns-in_ok-points_of-in-Some-clause-found c =
    let g = c.args.b.now.game in
    let p = c.args.b.now.stand.position in
    sym
    (attack_wins-found g p (Some c.in-Some.found) c.requires.known.may
    (subst (λ (s : Side). IsAnswer g p s 3 (Some c.in-Some.found)) c.turn-turn.ensures
    c.in-Some.ensures.answer))

pub returns-in_ok-points_of-in-Some-clause-line : goal.returns-in_ok-points_of-in-Some-clause-line
returns-in_ok-points_of-in-Some-clause-line c =
    let g = c.args.b.now.game in
    let p = c.args.b.now.stand.position in
    let is = subst (λ (s : Side). IsAnswer g p s 3 (Some c.in-Some.found)) c.turn-turn.ensures
    c.in-Some.ensures.answer in
    attack-line g p c.in_ok-points_of-in-Some.field-0.items _ is.first.line
    c.in_ok-points_of-in-Some.ensures

pub returns-in-None-clause-found : goal.returns-in-None-clause-found
returns-in-None-clause-found c =
    let g = c.args.b.now.game in
    let p = c.args.b.now.stand.position in
    sym
    (attack_wins-found g p None c.requires.known.may
    (subst (λ (s : Side). IsAnswer g p s 3 None) c.turn-turn.ensures c.in-None.ensures.answer))
