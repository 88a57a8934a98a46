use Rattle.pg_files.proofs.RoundTripFile.{game_back}
use Rattle.pg_files.proofs.laws.printed_game_is_read.Goals as goal

pub returns : goal.returns
returns c = λ g. game_back g
