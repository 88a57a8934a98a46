use Rattle.std.proofs.Common.{Ok, Err, refl}
use Rattle.std.proofs.lemmas.Result.{err_from_is_err_and}
use Rattle.pg_talk.specs.declared.halt.Halt.TheVariants.{Stopped}
use Rattle.pg_talk.proofs.Plays.{nothing_played, plays_claim}
use Rattle.pg_talk.proofs.dialogue.play_claim.Goals as goal

pub returns-in_err-say-clause-played : goal.returns-in_err-say-clause-played
returns-in_err-say-clause-played g c =
    let p = err_from_is_err_and c.from_residual.result c.from_residual.ensures.1 in
    rw (p.1, p.2)
    (nothing_played (g.P.Contestant.contender c.args.player.now)
    (g.C.Console.told c.args.console.now) (g.C.Console.told c.say.new.console)
    c.in_err-say.field-0.0 c.in_err-say.ensures.said c.in_err-say.ensures.left)

pub returns-in_err-play_to_the_end-clause-played : goal.returns-in_err-play_to_the_end-clause-played
returns-in_err-play_to_the_end-clause-played g c =
    let p = err_from_is_err_and c.from_residual-in_err-play_to_the_end.result
    c.from_residual-in_err-play_to_the_end.ensures.1 in
    rw (p.1, p.2)
    (plays_claim (g.P.Contestant.contender c.args.player.now) (g.C.Console.told c.args.console.now)
    (g.C.Console.told c.say.new.console)
    (g.C.Console.told c.play_to_the_end.new.console) c.side-side.result c.goal-goal.result
    c.side-side.ensures c.goal-goal.ensures c.in_ok-say.ensures.said c.in_ok-say.ensures.left
    (g.P.Contestant.contender c.play_to_the_end.new.player).position
    (Err c.in_err-play_to_the_end.field-0.0)
    (λ e. c.in_err-play_to_the_end.ensures.memory e) tt c.in_err-play_to_the_end.ensures.talk
    (Err (Stopped c.in_err-play_to_the_end.field-0.0)) tt refl)

pub returns-clause-played : goal.returns-clause-played
returns-clause-played g c = plays_claim (g.P.Contestant.contender c.args.player.now)
    (g.C.Console.told c.args.console.now) (g.C.Console.told c.say.new.console)
    (g.C.Console.told c.play_to_the_end.new.console) c.side-side.result c.goal-goal.result
    c.side-side.ensures c.goal-goal.ensures c.in_ok-say.ensures.said c.in_ok-say.ensures.left
    (g.P.Contestant.contender c.play_to_the_end.new.player).position
    (Ok c.in_ok-play_to_the_end.field-0) (λ e. cc e) c.in_ok-play_to_the_end.ensures.reached
    c.in_ok-play_to_the_end.ensures.talk (Ok c.in_ok-play_to_the_end.field-0) refl tt
