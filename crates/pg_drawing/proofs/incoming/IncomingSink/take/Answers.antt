use Rattle.std.proofs.Common.{◌++◌}
use Rattle.std.proofs.lemmas.Result.{IfOk-weaker}
use Rattle.pg_drawing.specs.Incoming.{IsComing}
use Rattle.pg_drawing.specs.declared.incoming.Incoming.{Incoming}
use Rattle.pg_drawing.proofs.Coming.{come_more, come_one}
use Rattle.pg_drawing.proofs.incoming.IncomingSink.take.Goals as goal

pub shorten-requires : goal.shorten-requires
shorten-requires c =
    let come = c.requires.come in
    record {
      text = come.short ++ c.args.piece.now;
      gathered = c.in_ok-take.ensures come.short come.gathered;
    }

pub returns-clause-ready : goal.returns-clause-ready
returns-clause-ready c =
    let after : Incoming = record {
      gathering = c.shorten.new.self;
      size = c.size_with-self.result;
    } in
    IfOk-weaker c.shorten.result _ (λ _. IsComing after)
    (λ u cut. record {
      text = c.requires.text ++ c.args.piece.now;
      come = come_one c.args.self.now c.take.new.self c.shorten.new.self c.size_with-self.result
          c.args.piece.now (λ text bytes is count. c.size_with-self.ensures text bytes is count)
          c.in_ok-take.ensures cut c.requires.text c.requires.come;
    })
    c.shorten.ensures

pub returns-clause-took : goal.returns-clause-took
returns-clause-took c =
    let after : Incoming = record {
      gathering = c.shorten.new.self;
      size = c.size_with-self.result;
    } in
    IfOk-weaker _ _ _
    (λ u cut. come_more c.args.self.now after c.args.piece.now
    (come_one c.args.self.now c.take.new.self c.shorten.new.self c.size_with-self.result
    c.args.piece.now (λ text bytes is count. c.size_with-self.ensures text bytes is count)
    c.in_ok-take.ensures cut))
    c.shorten.ensures
