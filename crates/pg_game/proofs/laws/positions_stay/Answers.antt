use Rattle.pg_game.proofs.Moves.{IsPosition-start, IsPosition-with_turn, IsPosition-after}
use Rattle.pg_game.proofs.Moves.{IsPosition-played}
use Rattle.pg_game.proofs.laws.positions_stay.Goals as goal

pub returns : goal.returns
returns c = record {
  start = IsPosition-start;
  turn = IsPosition-with_turn;
  after = IsPosition-after;
  played = IsPosition-played;
}
