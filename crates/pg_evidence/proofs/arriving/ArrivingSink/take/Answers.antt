use Rattle.std.proofs.Common.{◌++◌}
use Rattle.std.proofs.lemmas.Result.{IfOk-weaker}
use Rattle.pg_evidence.specs.Arriving.{IsArriving}
use Rattle.pg_evidence.specs.declared.arriving.Arriving.{Arriving}
use Rattle.pg_evidence.proofs.Coming.{arrive_more, arrive_one}
use Rattle.pg_evidence.proofs.arriving.ArrivingSink.take.Goals as goal

pub returns-clause-ready : goal.returns-clause-ready
returns-clause-ready c =
    let after : Arriving = record { gathering = c.take.new.self; kept = c.take-2.new.self } in
    IfOk-weaker c.take-2.result _ (λ _. IsArriving after)
    (λ u keeps. record {
      text = c.requires.text ++ c.args.piece.now;
      arrived = arrive_one c.args.self.now after c.args.piece.now c.in_ok-take.ensures keeps
          c.requires.text c.requires.arrived;
    }) c.take-2.ensures

pub returns-clause-took : goal.returns-clause-took
returns-clause-took c =
    let after : Arriving = record { gathering = c.take.new.self; kept = c.take-2.new.self } in
    IfOk-weaker c.take-2.result _ _
    (λ u keeps. arrive_more c.args.self.now after c.args.piece.now
    (arrive_one c.args.self.now after c.args.piece.now c.in_ok-take.ensures keeps))
    c.take-2.ensures
