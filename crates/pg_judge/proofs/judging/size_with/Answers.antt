use Rattle.pg_cert_files.proofs.ShortTexts.{size_over, size_crosses, size_fits}
use Rattle.pg_judge.proofs.judging.size_with.Goals as goal

pub returns-then-size-gt-MAX_CERT_BYTES : goal.returns-then-size-gt-MAX_CERT_BYTES
returns-then-size-gt-MAX_CERT_BYTES c =
    λ text bytes is count. size_over text bytes c.args.size is c.if-size-gt-MAX_CERT_BYTES.true

pub returns-then-more-size : goal.returns-then-more-size
returns-then-more-size c = λ text bytes is count. size_crosses text bytes c.args.size c.args.more is
    count c.if-size-gt-MAX_CERT_BYTES.false c.if-more-size.true

pub returns : goal.returns
returns c = λ text bytes is count. size_fits text bytes c.args.size c.args.more is count
    c.if-size-gt-MAX_CERT_BYTES.false c.if-more-size.false
