use Rattle.std.proofs.Common.{rules}
use Rattle.pg_fold.proofs.Coding.{known-more}
use Rattle.pg_fold.proofs.known.Known.add.Goals as goal

pub returns-clause-known : goal.returns-clause-known
returns-clause-known c = known-more c.args.self.now _ c.args.p c.args.number c.requires
    (search rules) (search rules) c.in_ok-insert.ensures.updates.0
