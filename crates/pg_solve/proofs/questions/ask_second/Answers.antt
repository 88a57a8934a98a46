use Rattle.std.proofs.Common.{subst}
use Rattle.pg_solve.proofs.Common.{IsAnswer, Draw}
use Rattle.pg_pns.specs.declared.work.Found.{Found}
use Rattle.pg_solve.proofs.Finding.{left-second, open-second}
use Rattle.pg_solve.proofs.questions.ask_second.Goals as goal

pub returns-in_err-claim-clause-left : goal.returns-in_err-claim-clause-left
returns-in_err-claim-clause-left c =
    left-second c.args.game.now c.args.budget c.args.denial c.search.new.work c.requires.kind
    c.requires.denied c.search.ensures.work

pub returns-in_err-two_claims-in-Yes-clause-left : goal.returns-in_err-two_claims-in-Yes-clause-left
returns-in_err-two_claims-in-Yes-clause-left c =
    left-second c.args.game.now c.args.budget c.args.denial c.search.new.work c.requires.kind
    c.requires.denied c.search.ensures.work

pub returns-in_err-one_claim-in-No-clause-left : goal.returns-in_err-one_claim-in-No-clause-left
returns-in_err-one_claim-in-No-clause-left c =
    left-second c.args.game.now c.args.budget c.args.denial c.search.new.work c.requires.kind
    c.requires.denied c.search.ensures.work

pub returns-in_ok-two_claims-in-Yes-clause-left : goal.returns-in_ok-two_claims-in-Yes-clause-left
returns-in_ok-two_claims-in-Yes-clause-left c =
    left-second c.args.game.now c.args.budget c.args.denial c.search.new.work c.requires.kind
    c.requires.denied c.search.ensures.work

pub returns-in_ok-one_claim-in-No-clause-left : goal.returns-in_ok-one_claim-in-No-clause-left
returns-in_ok-one_claim-in-No-clause-left c =
    left-second c.args.game.now c.args.budget c.args.denial c.search.new.work c.requires.kind
    c.requires.denied c.search.ensures.work

pub returns-in-Unknown-clause-left : goal.returns-in-Unknown-clause-left
returns-in-Unknown-clause-left c =
    left-second c.args.game.now c.args.budget c.args.denial c.search.new.work c.requires.kind
    c.requires.denied c.search.ensures.work

pub returns-in-Unknown-clause-found : goal.returns-in-Unknown-clause-found
returns-in-Unknown-clause-found c =
    let unsettled =
    subst (λ (f : Found). IsAnswer c.args.game.now Draw c.args.budget c.search.new.work.positions f)
    c.in-Unknown.is c.in_ok-claim.ensures.answer in
    open-second c.args.game.now c.args.budget c.args.denial c.search.new.work c.requires.kind
    c.requires.denied c.search.ensures.work.question unsettled
