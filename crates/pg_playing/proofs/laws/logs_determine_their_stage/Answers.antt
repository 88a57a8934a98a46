use Rattle.std.proofs.Common.{[]}
use Rattle.pg_playing.specs.TableLog.{Shows}
use Rattle.pg_playing.proofs.Logs.{leads_same}
use Rattle.pg_playing.proofs.laws.logs_determine_their_stage.Goals as goal

pub returns : goal.returns
returns c = λ look g entries s t one other. leads_same look g (Shows [] 0) s t entries one other
