use Rattle.std.proofs.Common.{◌++◌, sym, ap}
use Rattle.std.specs.Prelude.{codes}
use Rattle.pg_text.specs.Text.{Bytes}
use Rattle.pg_family_files.specs.SpanCertPrint.{printed_span}
use Rattle.pg_family_files.proofs.SpanCertText.{claims_text}
use Rattle.pg_family_files.proofs.cert_printing.print_span_cert.Goals as goal

pub returns : goal.returns
unfolding printed_span
returns c = rw (
  c.into_bytes.ensures.value,
  c.in_ok-put_claims.ensures,
  c.in_ok-push_str.ensures.bytes,
  c.new-out.ensures.bytes,
  c.as_slice.ensures,
) (ap (λ (t : Bytes). codes "posgame-span-cert 1\n" ++ t) (sym (claims_text c.args.c.now.claims)))
