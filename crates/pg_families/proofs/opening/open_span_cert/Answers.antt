use Rattle.std.proofs.Common.{◌∙◌, ap, sym, Ok, Err}
use Rattle.pg_families.proofs.Common.{SpanCert, span_cert, certificate_fault, read_ok}
use Rattle.pg_family_files.specs.SpanCertViews.{number_of}
use Rattle.pg_families.proofs.Openings.{bad_opened, opens_span_cert}
use Rattle.pg_families.proofs.opening.open_span_cert.Goals as goal

pub returns-in-Ok-clause-opened : goal.returns-in-Ok-clause-opened
returns-in-Ok-clause-opened g c = opens_span_cert (g.F.Files.told c.args.files.now).held
    c.args.name.now c.in_ok-text.text.items (Ok c.in-Ok.certificate) c.in_ok-text.ensures.bytes
    (read_ok _ _ _ (ap span_cert (sym c.deref.ensures.value) ∙ c.in-Ok.ensures.read))

pub returns-in-Err-Bad-clause-opened : goal.returns-in-Err-Bad-clause-opened
returns-in-Err-Bad-clause-opened g c =
    opens_span_cert (g.F.Files.told c.args.files.now).held c.args.name.now c.in_ok-text.text.items
    (Err (certificate_fault c.in-Err-Bad.number c.in-Err-Bad.line)) c.in_ok-text.ensures.bytes
    (bad_opened number_of certificate_fault
    (λ (x : SpanCert). x) span_cert c.in-Err-Bad.field-0 c.in-Err-Bad.number c.in-Err-Bad.line _
    c.in_ok-text.text.items c.deref.ensures.value c.in-Err-Bad.field-0-is c.in-Err-Bad.ensures.read)
