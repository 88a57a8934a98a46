use Rattle.pg_game.specs.Game.{IsPosition}
use Rattle.test_criteria.proofs.pairing_rows.after_plays.Given as goal

abbrev pub invariant-loop-v : goal.invariant-loop-v
invariant-loop-v l = IsPosition l.g l.p
