use Rattle.pg_playing.proofs.Logs.{log_records}
use Rattle.pg_playing.proofs.laws.logged_games_are_records.Goals as goal

pub returns : goal.returns
returns c = log_records
