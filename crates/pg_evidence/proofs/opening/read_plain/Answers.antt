use Rattle.pg_evidence.proofs.Judged.{said_plain}
use Rattle.pg_evidence.proofs.opening.read_plain.Goals as goal

pub returns-in-Ok-clause-read : goal.returns-in-Ok-clause-read
returns-in-Ok-clause-read c text gathered none =
    said_plain text c.in-Ok.certificate none (c.in-Ok.ensures.read text gathered)
