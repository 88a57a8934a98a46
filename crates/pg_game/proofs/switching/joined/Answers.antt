use Rattle.std.specs.FinSet.{contains}
use Rattle.pg_game.proofs.TerminalLemmas.{terminals-from_joined}
use Rattle.pg_game.proofs.switching.joined.Goals as goal

pub returns-clause-joined : goal.returns-clause-joined
returns-clause-joined c = terminals-from_joined c.args.graph.now
    (contains c.args.set.now) c.joined.result c.requires.set c.joined.ensures.joined
