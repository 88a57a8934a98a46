use Rattle.pg_game.proofs.TerminalLemmas.{terminals-decides}
use Rattle.pg_game.proofs.Walked.{IsJoiningGame-on_graph}
use Rattle.pg_game.proofs.laws.joining_is_by_walks.Goals as goal

pub returns : goal.returns
returns c = record { tests = terminals-decides; games = IsJoiningGame-on_graph }
