use Rattle.pg_exchange.proofs.PathLemmas.{HasEnds-turned}
use Rattle.pg_exchange.proofs.path.cross.Goals as goal

pub returns-then-has-2-clause-onward : goal.returns-then-has-2-clause-onward
returns-then-has-2-clause-onward c a b members member ends =
    c.attach-then-has-2.ensures.onward a b members member
    (HasEnds-turned a b c.args.k c.args.p c.args.q ends)
