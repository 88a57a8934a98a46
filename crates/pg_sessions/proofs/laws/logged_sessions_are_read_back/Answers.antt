use Rattle.pg_record.proofs.ReadBack.{reads-back}
use Rattle.pg_sessions.specs.SessionLog.{events_at}
use Rattle.pg_sessions.proofs.SessionLogs.{log_records}
use Rattle.pg_sessions.proofs.laws.logged_sessions_are_read_back.Goals as goal

pub returns : goal.returns
returns c = λ g entries stage log. reads-back g (events_at stage) (log_records g entries stage log)
