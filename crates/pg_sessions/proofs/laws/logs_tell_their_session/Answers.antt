use Rattle.std.proofs.Common.{[]}
use Rattle.pg_sessions.specs.SessionLog.{Listens}
use Rattle.pg_sessions.proofs.SessionLogs.{leads_same}
use Rattle.pg_sessions.proofs.laws.logs_tell_their_session.Goals as goal

pub returns : goal.returns
returns c = λ g entries s t a b. leads_same g (Listens [] 0) s t entries a b
