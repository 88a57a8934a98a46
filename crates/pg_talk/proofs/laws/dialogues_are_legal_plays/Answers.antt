use Rattle.pg_talk.specs.Dialogue.{At}
use Rattle.pg_talk.proofs.Dialogues.{dialogues_play}
use Rattle.pg_talk.proofs.laws.dialogues_are_legal_plays.Goals as goal

pub returns : goal.returns
returns c = λ g side p entries stage leads. dialogues_play g side (At p 0) stage entries leads
