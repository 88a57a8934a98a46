use Rattle.std.proofs.Common.{arith}
use Rattle.pg_talk.specs.Dialogue.{At}
use Rattle.pg_talk.proofs.Dialogues.{hears_few}
use Rattle.pg_talk.proofs.laws.little_is_heard.Goals as goal

pub returns : goal.returns
returns c =
    λ g side p entries stage leads. hears_few g side (At p 0) stage entries (omega arith) leads
