use Rattle.std.proofs.Common.{rules}
use Rattle.pg_cert_lines.specs.NodeLine.{point_of}
use Rattle.pg_cert_lines.proofs.NodeLimits.{small_points}
use Rattle.pg_cert_lines.proofs.values.points.Goals as goal

pub returns-clause-small : goal.returns-clause-small
returns-clause-small c =
    small_points c.each.result c.args.words (c.each.ensures point_of (λ word r k. search rules))
