use Rattle.pg_game.proofs.Moves.{turn-stays, left-falls, turn-passes, left-passes}
use Rattle.pg_game.proofs.laws.turns_pass.Goals as goal

pub returns : goal.returns
returns c = record {
  stays = λ g p v more. (turn-stays g p v more, left-falls g p v more);
  passes = λ g p v last. (turn-passes g p v last, left-passes g p v last);
}
