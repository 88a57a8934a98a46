use Rattle.pg_talk.specs.Dialogue.{At, Over}
use Rattle.pg_talk.proofs.Dialogues.{stays_fair}
use Rattle.pg_talk.proofs.laws.dialogues_end.Goals as goal

pub returns : goal.returns
returns c = λ g side p entries last status leads. stays_fair g side (At p 0)
    (Over last status) entries tt leads
