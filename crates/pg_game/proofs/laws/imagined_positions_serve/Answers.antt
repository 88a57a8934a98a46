use Rattle.pg_game.proofs.Imagining.{imagined-move, imagined-reply, imagined-going}
use Rattle.pg_game.proofs.laws.imagined_positions_serve.Goals as goal

pub returns : goal.returns
returns c = record { moves = imagined-move; replies = imagined-reply; goes_on = imagined-going }
