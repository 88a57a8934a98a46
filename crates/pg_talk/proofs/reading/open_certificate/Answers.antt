use Rattle.std.proofs.Common.{◌∙◌, ap, sym, subst, Ok, Err}
use Rattle.pg_talk.proofs.Common.{Bytes, certificate, FileError}
use Rattle.pg_cert_lines.specs.Views.{IsReadAs, number_of}
use Rattle.pg_talk.proofs.Openings.{read_ok, read_bad, opens_certificate}
use Rattle.pg_talk.specs.Reading.{certificate_fault}
use Rattle.pg_talk.proofs.reading.open_certificate.Goals as goal

pub returns-in-Ok-clause-opened : goal.returns-in-Ok-clause-opened
returns-in-Ok-clause-opened g c = opens_certificate (g.F.Files.told c.args.files.now).held
    c.args.name.now c.in_ok-text.text.items (Ok c.in-Ok.certificate) c.in_ok-text.ensures.bytes
    (read_ok _ _ _ (ap certificate (sym c.deref.ensures.value) ∙ c.in-Ok.ensures.read))

pub returns-in-Err-Bad-clause-opened : goal.returns-in-Err-Bad-clause-opened
returns-in-Err-Bad-clause-opened g c =
    let number = c.in-Err-Bad.number in
    let line = c.in-Err-Bad.line in
    let text = c.in_ok-text.text.items in
    let bad = subst (λ (f : FileError). IsReadAs (Err f) (certificate text)) c.in-Err-Bad.field-0-is
    (subst (λ (t : Bytes). IsReadAs (Err c.in-Err-Bad.field-0) (certificate t))
    c.deref.ensures.value c.in-Err-Bad.ensures.read) in
    opens_certificate (g.F.Files.told c.args.files.now).held c.args.name.now text
    (Err (certificate_fault number line)) c.in_ok-text.ensures.bytes
    (read_bad number_of certificate_fault (certificate text) number line bad)
