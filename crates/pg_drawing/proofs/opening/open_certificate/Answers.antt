use Rattle.std.proofs.Common.{Err, Ok, subst}
use Rattle.pg_drawing.proofs.Common.{FileError}
use Rattle.pg_talk.specs.Reading.{certificate_fault}
use Rattle.pg_drawing.specs.Incoming.{IsReadAlike}
use Rattle.pg_drawing.proofs.Coming.{held_alike, held_bad, opens_alike}
use Rattle.pg_drawing.proofs.opening.open_certificate.Goals as goal

pub returns-in-Ok-clause-opened : goal.returns-in-Ok-clause-opened
returns-in-Ok-clause-opened g c =
    opens_alike (g.F.Files.told c.args.files.now).held c.args.name.now c.begin-incoming.result
    c.pour.new.sink (Ok c.in-Ok.certificate) c.begin-incoming.ensures.come
    c.in_ok-pour.ensures.poured
    (λ text come. held_alike text c.in-Ok.certificate (c.in-Ok.ensures.read text come))

pub returns-in-Err-Bad-clause-opened : goal.returns-in-Err-Bad-clause-opened
returns-in-Err-Bad-clause-opened g c =
    let number = c.in-Err-Bad.number in
    let line = c.in-Err-Bad.line in
    opens_alike (g.F.Files.told c.args.files.now).held c.args.name.now c.begin-incoming.result
    c.pour.new.sink (Err (certificate_fault number line)) c.begin-incoming.ensures.come
    c.in_ok-pour.ensures.poured
    (λ text come. held_bad text number line
    (subst (λ (f : FileError). IsReadAlike (Err f) text) c.in-Err-Bad.field-0-is
    (c.in-Err-Bad.ensures.read text come)))
