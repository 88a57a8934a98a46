use Rattle.std.proofs.Common.{subst, Ok, Err}
use Rattle.pg_evidence.proofs.Common.{IsReadAs, certificate_fault}
use Rattle.pg_text.specs.declared.error.FileError.{FileError}
use Rattle.pg_evidence.specs.Evidence.{evidence}
use Rattle.pg_evidence.proofs.Judged.{arrived_evidence, held_bad, held_ok}
use Rattle.pg_evidence.proofs.opening.open_evidence.Goals as goal

pub returns-in-Ok-clause-opened : goal.returns-in-Ok-clause-opened
returns-in-Ok-clause-opened g c =
    arrived_evidence (g.F.Files.told c.args.files.now).held c.args.name.now
    c.begin-arriving.result c.pour.new.sink (Ok c.in-Ok.evidence) c.begin-arriving.ensures.arrived
    c.in_ok-pour.ensures.poured
    (λ text came. held_ok text c.in-Ok.evidence (c.in-Ok.ensures.read text came))

pub returns-in-Ok-clause-limits : goal.returns-in-Ok-clause-limits
returns-in-Ok-clause-limits g c =
    let ready = c.in_ok-pour.ensures.ready in
    c.in-Ok.ensures.limits ready.text ready.arrived

pub returns-in-Err-Bad-clause-opened : goal.returns-in-Err-Bad-clause-opened
returns-in-Err-Bad-clause-opened g c =
    let number = c.in-Err-Bad.number in
    let line = c.in-Err-Bad.line in
    arrived_evidence (g.F.Files.told c.args.files.now).held c.args.name.now
    c.begin-arriving.result c.pour.new.sink (Err (certificate_fault number line))
    c.begin-arriving.ensures.arrived c.in_ok-pour.ensures.poured
    (λ text came. held_bad text number line
    (subst (λ (f : FileError). IsReadAs (Err f) (evidence text)) c.in-Err-Bad.field-0-is
    (c.in-Err-Bad.ensures.read text came)))
