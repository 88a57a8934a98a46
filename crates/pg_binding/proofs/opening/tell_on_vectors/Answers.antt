use Rattle.std.proofs.Common.{refl}
use Rattle.std.proofs.lemmas.Result.{err_from_is_err_and}
use Rattle.pg_binding.proofs.Common.{Cert, Telling, certificate_held, vector_entry}
use Rattle.pg_binding.proofs.Causes.{halt_caused, inner_caused, lacks_vectors}
use Rattle.pg_binding.proofs.Found.{inner_read, opened_due, unopened_due}
use Rattle.pg_binding.specs.Books.{vector_pair}
use Rattle.pg_binding.specs.Due.{AreVectorsDue}
use Rattle.pg_binding.proofs.opening.tell_on_vectors.Goals as goal

pub returns-in_err-cert-clause-found : goal.returns-in_err-cert-clause-found
returns-in_err-cert-clause-found g c = λ layout depth.
    let p = err_from_is_err_and c.from_residual.result c.from_residual.ensures.1 in
    rw (p.1, p.2)
    (unopened_due layout depth certificate_held (vector_pair (vector_entry c.args.game.now))
    (λ halt. refl)
    (g.F.Files.told c.args.files.now).held c.args.certificate.now _ c.in_err-cert.ensures.opened)

pub returns-in_err-cert-clause-causes : goal.returns-in_err-cert-clause-causes
returns-in_err-cert-clause-causes g c =
    let p = err_from_is_err_and c.from_residual.result c.from_residual.ensures.1 in
    rw (p.1, p.2)
    (halt_caused Cert Telling _ _
    (lacks_vectors (g.F.Files.told c.args.files.now).held c.args.certificate.now
    c.args.game.now) _ _ _ c.in_err-cert.ensures.causes)

pub returns-clause-found : goal.returns-clause-found
returns-clause-found g c = λ layout depth. opened_due layout depth certificate_held
    (vector_pair (vector_entry c.args.game.now)) (λ halt. refl)
    (g.F.Files.told c.args.files.now).held c.args.certificate.now c.in_ok-cert.cert
    (AreVectorsDue c.args.game.now c.in_ok-cert.cert) (λ text status is. (
      c.args.game.now,
      refl,
      is,
    )) c.in_ok-cert.ensures.opened c.tell_vectors.result c.tell_vectors.ensures.found

pub returns-clause-halts : goal.returns-clause-halts
returns-clause-halts g c = inner_read c.tell_vectors.result c.tell_vectors.ensures.halts

pub returns-clause-causes : goal.returns-clause-causes
returns-clause-causes g c = inner_caused _ _ _ c.tell_vectors.result c.tell_vectors.ensures.halts
    c.in_ok-cert.ensures.causes
