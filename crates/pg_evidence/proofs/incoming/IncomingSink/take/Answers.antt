use Rattle.std.proofs.Common.{◌++◌}
use Rattle.std.proofs.lemmas.Result.{IfOk-weaker}
use Rattle.pg_evidence.specs.Incoming.{IsComing}
use Rattle.pg_evidence.specs.declared.incoming.Incoming.{Incoming}
use Rattle.pg_evidence.proofs.Coming.{come_more, taken_more}
use Rattle.pg_evidence.proofs.Keeping.{keeps_short}
use Rattle.pg_evidence.proofs.incoming.IncomingSink.take.Goals as goal

pub take-requires : goal.take-requires
take-requires c = record { text = c.requires.text; stands = c.requires.taken.judged }

pub returns-clause-ready : goal.returns-clause-ready
returns-clause-ready c =
    let after : Incoming = record { judging = c.take.new.self; kept = c.shorten.new.self } in
    IfOk-weaker c.shorten.result _ (λ _. IsComing after)
    (λ u cut. record {
      text = c.requires.text ++ c.args.piece.now;
      taken = taken_more c.args.self.now after c.args.piece.now c.in_ok-take.ensures.took
          (keeps_short c.args.self.now.kept c.take-2.new.self c.shorten.new.self
          c.args.piece.now c.in_ok-take-2.ensures cut) c.requires.text c.requires.taken;
    }) c.shorten.ensures

pub returns-clause-took : goal.returns-clause-took
returns-clause-took c =
    let after : Incoming = record { judging = c.take.new.self; kept = c.shorten.new.self } in
    IfOk-weaker c.shorten.result _ _
    (λ u cut. come_more c.args.self.now after c.args.piece.now c.in_ok-take.ensures.took
    (keeps_short c.args.self.now.kept c.take-2.new.self c.shorten.new.self c.args.piece.now
    c.in_ok-take-2.ensures cut)) c.shorten.ensures
