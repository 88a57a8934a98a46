use Rattle.std.proofs.Common.{[], ℕ, Result, subst}
use Rattle.pg_image.proofs.Common.{Fault, IsReadAs}
use Rattle.pg_image.specs.declared.cert.ImageCert.{ImageCert}
use Rattle.std.proofs.lemmas.Result.{IfOk-weaker}
use Rattle.pg_image.proofs.Gatherings.{whole_within}
use Rattle.pg_image.proofs.reading.read_image.Goals as goal

pub returns-clause-read : goal.returns-clause-read
returns-clause-read c =
    let bytes = c.args.bytes.now in
    let gathers = c.in_ok-take.ensures [] [] c.new-gathering.ensures in
    subst (λ (r : Result ImageCert (Fault × ℕ)). IsReadAs c.end.result r) (whole_within bytes)
    (c.end.ensures.read bytes bytes gathers)

pub returns-clause-limits : goal.returns-clause-limits
returns-clause-limits c =
    let bytes = c.args.bytes.now in
    let gathers = c.in_ok-take.ensures [] [] c.new-gathering.ensures in
    IfOk-weaker c.end.result _ _ (λ certificate limits. limits bytes bytes gathers)
    c.end.ensures.limits
