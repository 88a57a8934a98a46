use Rattle.pg_image.proofs.Gatherings.{limits_within}
use Rattle.pg_image.proofs.image_gathering.ImageGathering.end.Goals as goal

pub returns-clause-limits : goal.returns-clause-limits
returns-clause-limits c = limits_within c.args.self c.end.result
    c.if-self-gt-MAX_CERT_BYTES.false c.end.ensures
