use Rattle.std.proofs.Common.{refl}
use Rattle.pg_check.proofs.node.is_seen_in_game.Goals as goal

pub returns-then-owed : goal.returns-then-owed
returns-then-owed c = (λ _. (c.requires.owed.0 c.if-owed.true).in_game, λ _. refl)
