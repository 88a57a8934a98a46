use Rattle.std.proofs.Common.{◌∙◌}
use Rattle.std.proofs.lemmas.Result.{err_from_is_err_and}
use Rattle.pg_cert_files.proofs.ReadsWhole.{read_bad, read_good}
use Rattle.pg_cert_files.proofs.cert_gathering.CertGathering.end.Goals as goal

pub returns-in_err-last : goal.returns-in_err-last
returns-in_err-last c =
    let p = err_from_is_err_and c.from_residual.result c.from_residual.ensures.1 in
    record {
      limits = rw p.1 tt;
      read = λ text has. rw (p.1, p.2) (read_bad text _ (c.in_err-last.ensures.end text has.fed));
    }

pub returns-clause-read : goal.returns-clause-read
returns-clause-read c = λ text has.
    (read_good text c.version-version.result c.args.self.gatherer c.in_ok-with.field-0
    c.in_ok-last.last c.from_vec.result
    (λ cert e. c.version-version.ensures text cert has.fed e)
    (c.in_ok-last.ensures.end text has.fed) has.parts c.in_ok-with.ensures
    (c.from_vec.ensures ∙ c.in_ok-claims.ensures)).0

pub returns-clause-limits : goal.returns-clause-limits
returns-clause-limits c = λ text has.
    (read_good text c.version-version.result c.args.self.gatherer c.in_ok-with.field-0
    c.in_ok-last.last c.from_vec.result
    (λ cert e. c.version-version.ensures text cert has.fed e)
    (c.in_ok-last.ensures.end text has.fed) has.parts c.in_ok-with.ensures
    (c.from_vec.ensures ∙ c.in_ok-claims.ensures)).1
