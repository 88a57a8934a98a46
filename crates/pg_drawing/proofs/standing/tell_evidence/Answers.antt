use Rattle.std.proofs.Common.{inl}
use Rattle.std.proofs.lemmas.Result.{err_from_is_err_and}
use Rattle.pg_evidence.proofs.Tracing.{stands_for}
use Rattle.pg_drawing.proofs.Found.{unmade_due}
use Rattle.pg_drawing.proofs.standing.tell_evidence.Goals as goal

pub returns-in_err-standing-clause-found : goal.returns-in_err-standing-clause-found
returns-in_err-standing-clause-found c =
    let p = err_from_is_err_and c.from_residual.result c.from_residual.ensures.1 in
    rw (p.1, p.2)
    (unmade_due c.args.look c.args.game.now c.args.evidence c.args.name _
    c.in_err-standing.ensures.made)

pub returns-clause-found : goal.returns-clause-found
returns-clause-found c = inl (record {
  cert = c.in_ok-standing.standing.cert;
  stands = stands_for c.args.game.now c.args.evidence c.in_ok-standing.standing
      c.in_ok-standing.ensures.made;
  due = c.in_ok-tell_certificate.ensures;
})
