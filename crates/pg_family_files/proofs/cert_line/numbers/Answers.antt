use Rattle.std.proofs.Common.{rules}
use Rattle.pg_family_files.specs.SpanCertLine.{number_in}
use Rattle.pg_family_files.proofs.SpanCertWithin.{small_numbers}
use Rattle.pg_family_files.proofs.cert_line.numbers.Goals as goal

pub returns-clause-small : goal.returns-clause-small
returns-clause-small c =
    small_numbers c.each.result c.args.words (c.each.ensures number_in (λ word r k. search rules))
