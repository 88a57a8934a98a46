use Rattle.pg_talk.proofs.Dialogues.{own_first}
use Rattle.pg_talk.proofs.laws.own_moves_come_first.Goals as goal

pub returns : goal.returns
returns c = own_first
