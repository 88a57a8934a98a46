use Rattle.std.proofs.Common.{refl}
use Rattle.std.proofs.lemmas.Result.{err_from_is_err_and}
use Rattle.pg_binding.proofs.Common.{Evidence, Telling, entry, evidence_held}
use Rattle.pg_binding.proofs.Causes.{halt_caused, inner_caused, lacks_evidence}
use Rattle.pg_binding.proofs.Found.{inner_read, opened_due, unopened_due}
use Rattle.pg_binding.specs.Books.{game_pair}
use Rattle.pg_binding.specs.Due.{IsEvidenceDue}
use Rattle.pg_binding.proofs.opening.tell_on_game.Goals as goal

pub returns-in_err-evidence-clause-found : goal.returns-in_err-evidence-clause-found
returns-in_err-evidence-clause-found g c =
    let p = err_from_is_err_and c.from_residual.result c.from_residual.ensures.1 in
    rw (p.1, p.2)
    (unopened_due c.args.layout c.args.depth evidence_held (game_pair (entry c.args.game.now))
    (λ halt. refl) (g.F.Files.told c.args.files.now).held c.args.certificate.now _
    c.in_err-evidence.ensures.opened)

pub returns-in_err-evidence-clause-causes : goal.returns-in_err-evidence-clause-causes
returns-in_err-evidence-clause-causes g c =
    let p = err_from_is_err_and c.from_residual.result c.from_residual.ensures.1 in
    rw (p.1, p.2)
    (halt_caused Evidence Telling _ _
    (lacks_evidence (g.F.Files.told c.args.files.now).held c.args.certificate.now
    c.args.game.now) _ _ _ c.in_err-evidence.ensures.causes)

pub returns-clause-found : goal.returns-clause-found
returns-clause-found g c = opened_due c.args.layout c.args.depth evidence_held
    (game_pair (entry c.args.game.now)) (λ halt. refl)
    (g.F.Files.told c.args.files.now).held c.args.certificate.now c.in_ok-evidence.evidence
    (IsEvidenceDue c.args.game.now c.in_ok-evidence.evidence c.args.layout c.args.depth)
    (λ text status is. (
      c.args.game.now,
      refl,
      is,
    )) c.in_ok-evidence.ensures.opened c.tell_evidence.result c.tell_evidence.ensures.found

pub returns-clause-halts : goal.returns-clause-halts
returns-clause-halts g c = inner_read c.tell_evidence.result c.tell_evidence.ensures.halts

pub returns-clause-causes : goal.returns-clause-causes
returns-clause-causes g c = inner_caused _ _ _ c.tell_evidence.result c.tell_evidence.ensures.halts
    c.in_ok-evidence.ensures.causes
