use Rattle.std.proofs.Common.{◌∙◌, sym}
use Rattle.pg_moves.proofs.Common.{IfOk-weaker}
use Rattle.pg_moves.proofs.Standing.{own_rules, rules_at, tried_at, untried_at}
use Rattle.pg_moves.specs.Trials.{IsWorth}
use Rattle.pg_moves.specs.declared.trial.Worth.{Worth}
use Rattle.pg_moves.proofs.trying.try_position.Goals as goal

pub returns-then-not-between-clause-tried : goal.returns-then-not-between-clause-tried
returns-then-not-between-clause-tried g c =
    untried_at (g.S.Finder.brings c.args.finder.now) c.args.budget c.args.game.now
    c.args.position.now (sym c.in_ok-between.ensures ∙ c.if-not-between.true)

pub returns-clause-tried : goal.returns-clause-tried
returns-clause-tried g c =
    let brings = g.S.Finder.brings c.args.finder.now in
    let own = c.args.game.now in
    let p = c.args.position.now in
    let here = c.stand_at.new.game in
    IfOk-weaker _ _ _ (λ (worth : Worth) (is : IsWorth brings c.args.budget here worth).
    tried_at brings c.args.budget own here p worth
    (sym c.in_ok-between.ensures ∙ c.if-not-between.false) c.stand_at.ensures is)
    c.worth_of.ensures.worth

pub returns-clause-rules : goal.returns-clause-rules
returns-clause-rules g c = rules_at c.args.game.now c.args.game.now c.stand_at.new.game
    c.args.position.now (own_rules c.args.game.now) c.stand_at.ensures
