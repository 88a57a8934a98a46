use Rattle.std.proofs.Common.{◌∙◌, sym}
use Rattle.pg_image.proofs.Gatherings.{whole_within}
use Rattle.pg_evidence.proofs.Judged.{read_as_folded, said_folded}
use Rattle.pg_evidence.proofs.opening.read_folded.Goals as goal

pub returns-in-Ok-clause-read : goal.returns-in-Ok-clause-read
returns-in-Ok-clause-read c text gathers has = said_folded text c.in-Ok.certificate has
    (sym (whole_within text) ∙ c.in-Ok.ensures.read text text gathers)

pub returns-in-Err-clause-read : goal.returns-in-Err-clause-read
returns-in-Err-clause-read c text gathers has =
    read_as_folded text c.in-Err.fault has (c.in-Err.ensures.read text text gathers)
