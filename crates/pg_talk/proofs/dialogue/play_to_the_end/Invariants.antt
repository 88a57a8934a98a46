use Rattle.std.proofs.Common.{◌≡◌, ◌<◌, ◌+◌, ◌-◌}
use Rattle.pg_talk.specs.Contender.{at}
use Rattle.pg_talk.specs.Dialogue.{At}
use Rattle.pg_talk.specs.Talk.{Talk, free_count}
use Rattle.pg_talk.specs.declared.dialogue.TheConstants.{MAX_REFUSALS}
use Rattle.pg_talk.proofs.dialogue.play_to_the_end.Given as goal

-- so far: a part of a dialogue, without a failed call, on the same contest and by the same claim
abbrev pub invariant-loop-score : goal.invariant-loop-score
invariant-loop-score g l =
    let begun = g.P.Contestant.contender l.fn.player in
    let now = g.P.Contestant.contender l.player in
    Talk begun.contest begun.side
    (g.C.Console.told l.fn.console) (g.C.Console.told l.console)
    (At begun.position 0) (At now.position l.refused)
    × (now ≡ at begun now.position)
    × (l.refused < MAX_REFUSALS)
    × ((g.C.Console.told l.console).faults ≡ (g.C.Console.told l.fn.console).faults)

-- a turn leaves fewer points free, or is one refusal more
abbrev pub decreases-loop-score : goal.decreases-loop-score
decreases-loop-score g l =
    free_count (g.P.Contestant.contender l.player) + (MAX_REFUSALS - l.refused)
