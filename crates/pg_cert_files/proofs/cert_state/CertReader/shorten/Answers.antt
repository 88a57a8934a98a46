use Rattle.std.proofs.Common.{refl}
use Rattle.pg_cert_files.proofs.ShortTexts.{fed_unchanged}
use Rattle.pg_cert_files.proofs.cert_state.CertReader.shorten.Goals as goal

pub returns-then-self-gt-MAX_CERT_BYTES : goal.returns-then-self-gt-MAX_CERT_BYTES
returns-then-self-gt-MAX_CERT_BYTES c =
    λ text fed. fed_unchanged c.args.self.now _ text refl refl fed

pub returns-then-length-lt-SHORT_LINE_BYTES : goal.returns-then-length-lt-SHORT_LINE_BYTES
returns-then-length-lt-SHORT_LINE_BYTES c =
    λ text fed. fed_unchanged c.args.self.now _ text refl refl fed

pub returns-then-length-self : goal.returns-then-length-self
returns-then-length-self c = λ text fed. fed_unchanged c.args.self.now _ text refl refl fed
