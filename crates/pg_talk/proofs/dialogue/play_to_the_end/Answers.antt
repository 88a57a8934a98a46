use Rattle.std.proofs.Common.{◌∙◌, ◌+◌, ap, sym, arith}
use Rattle.pg_talk.proofs.Common.{err_from_is_err_and, INPUT_ENDED, OUT_OF_REPLIES}
use Rattle.pg_talk.specs.Contender.{Contender, at}
use Rattle.pg_talk.specs.Dialogue.{At, Over}
use Rattle.pg_talk.specs.Talk.{turned}
use Rattle.pg_talk.proofs.Talking.{Breaks-here, Breaks-then}
use Rattle.pg_talk.proofs.Turns.{result_ends, turn_leads, turn_breaks, goes_on, ends_refused}
use Rattle.pg_talk.proofs.dialogue.play_to_the_end.Goals as goal

pub returns-in_err-say-clause-talk : goal.returns-in_err-say-clause-talk
returns-in_err-say-clause-talk g c =
    let begun = g.P.Contestant.contender c.args.player.now in
    let e = err_from_is_err_and c.from_residual.result c.from_residual.ensures.1 in
    let here = At (g.P.Contestant.contender c.loop-score.player).position c.loop-score.refused in
    rw e.1
    (Breaks-then begun.contest begun.side (g.C.Console.told c.args.console.now)
    (g.C.Console.told c.loop-score.console) (g.C.Console.told c.say.new.console)
    (At begun.position 0) here c.loop-score.invariant.0
    (Breaks-here begun.contest begun.side (g.C.Console.told c.loop-score.console)
    (g.C.Console.told c.say.new.console) here tt c.in_err-say.ensures.said))

pub returns-in-Some-clause-talk : goal.returns-in-Some-clause-talk
returns-in-Some-clause-talk g c =
    let so_far = c.loop-score.invariant in
    result_ends (g.P.Contestant.contender c.args.player.now)
    (g.P.Contestant.contender c.loop-score.player) so_far.1 (g.C.Console.told c.args.console.now)
    (g.C.Console.told c.loop-score.console) (g.C.Console.told c.say.new.console)
    c.loop-score.refused so_far.0 c.kind-kind.result c.in-Some.score c.kind-kind.ensures
    c.in-Some.ensures.exact c.in_ok-say.ensures.said c.in_ok-say.ensures.left

pub returns-in_err-take_turn-clause-talk : goal.returns-in_err-take_turn-clause-talk
returns-in_err-take_turn-clause-talk g c =
    let e = err_from_is_err_and c.from_residual-in_err-take_turn.result
    c.from_residual-in_err-take_turn.ensures.1 in
    let so_far = c.loop-score.invariant in
    rw e.1
    (turn_breaks (g.P.Contestant.contender c.args.player.now)
    (g.P.Contestant.contender c.loop-score.player) so_far.1 (g.C.Console.told c.args.console.now)
    (g.C.Console.told c.loop-score.console) (g.C.Console.told c.take_turn.new.console)
    c.loop-score.refused so_far.0 (c.in_err-take_turn.ensures.talk c.loop-score.refused))

pub loop-score-preserved-in-Played : goal.loop-score-preserved-in-Played
loop-score-preserved-in-Played g c =
    let so_far = c.loop-score.invariant in
    let new = g.P.Contestant.contender c.take_turn.new.player in
    let refused = c.loop-score.refused in
    let goes = rw c.in-Played.is at c.in_ok-take_turn.ensures.goes in (
      turn_leads (g.P.Contestant.contender c.args.player.now)
          (g.P.Contestant.contender c.loop-score.player) so_far.1
          (g.C.Console.told c.args.console.now) (g.C.Console.told c.loop-score.console)
          (g.C.Console.told c.take_turn.new.console) refused so_far.0 new.position _
          (At new.position refused) (ap (turned new.position refused) c.in-Played.is)
          (c.in_ok-take_turn.ensures.talk refused),
      goes.1 ∙ ap (λ (k : Contender). at k new.position) so_far.1,
      so_far.2,
      c.in_ok-take_turn.ensures.causes ∙ so_far.3,
    )

pub returns-then-refused-eq-MAX_REFUSALS-clause-talk :
    goal.returns-then-refused-eq-MAX_REFUSALS-clause-talk
returns-then-refused-eq-MAX_REFUSALS-clause-talk g c =
    let so_far = c.loop-score.invariant in
    let new = g.P.Contestant.contender c.take_turn.new.player in
    let refused = c.loop-score.refused in
    turn_leads (g.P.Contestant.contender c.args.player.now)
    (g.P.Contestant.contender c.loop-score.player) so_far.1 (g.C.Console.told c.args.console.now)
    (g.C.Console.told c.loop-score.console) (g.C.Console.told c.take_turn.new.console) refused
    so_far.0 new.position _ (Over new.position OUT_OF_REPLIES)
    (ap (turned new.position refused) c.in-Refused.is
    ∙ ends_refused new.position refused c.if-refused-eq-MAX_REFUSALS.true)
    (c.in_ok-take_turn.ensures.talk refused)

pub loop-score-preserved : goal.loop-score-preserved
loop-score-preserved g c =
    let so_far = c.loop-score.invariant in
    let begun = g.P.Contestant.contender c.args.player.now in
    let new = g.P.Contestant.contender c.take_turn.new.player in
    let refused = c.loop-score.refused in
    let goes = rw c.in-Refused.is at c.in_ok-take_turn.ensures.goes in (
      turn_leads begun (g.P.Contestant.contender c.loop-score.player) so_far.1
          (g.C.Console.told c.args.console.now) (g.C.Console.told c.loop-score.console)
          (g.C.Console.told c.take_turn.new.console) refused so_far.0 new.position _
          (At new.position (refused + 1))
          (ap (turned new.position refused) c.in-Refused.is
          ∙ goes_on new.position refused c.if-refused-eq-MAX_REFUSALS.false)
          (c.in_ok-take_turn.ensures.talk refused),
      goes ∙ (so_far.1 ∙ ap (λ (k : Contender). at begun k.position) (sym goes)),
      omega (arith, so_far.2, c.if-refused-eq-MAX_REFUSALS.false),
      c.in_ok-take_turn.ensures.causes ∙ so_far.3,
    )

pub returns-in-Ended-clause-talk : goal.returns-in-Ended-clause-talk
returns-in-Ended-clause-talk g c =
    let so_far = c.loop-score.invariant in
    let new = g.P.Contestant.contender c.take_turn.new.player in
    let refused = c.loop-score.refused in
    turn_leads (g.P.Contestant.contender c.args.player.now)
    (g.P.Contestant.contender c.loop-score.player) so_far.1 (g.C.Console.told c.args.console.now)
    (g.C.Console.told c.loop-score.console) (g.C.Console.told c.take_turn.new.console) refused
    so_far.0 new.position _ (Over new.position INPUT_ENDED)
    (ap (turned new.position refused) c.in-Ended.is) (c.in_ok-take_turn.ensures.talk refused)
