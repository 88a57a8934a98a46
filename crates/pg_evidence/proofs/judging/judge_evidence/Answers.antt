use Rattle.pg_evidence.proofs.Judged.{judged_evidence}
use Rattle.pg_evidence.proofs.judging.judge_evidence.Goals as goal

pub returns-clause-judged : goal.returns-clause-judged
returns-clause-judged g c =
    judged_evidence (g.F.Files.told c.args.files.now).held c.args.game.now c.args.name.now
    c.in_ok-incoming.incoming c.pour.new.sink c.judge_come.result c.in_ok-incoming.ensures.game
    c.in_ok-incoming.ensures.taken c.in_ok-pour.ensures.poured c.judge_come.ensures.judged
