use Rattle.pg_sessions.proofs.SessionLogs.{log_records}
use Rattle.pg_sessions.proofs.laws.logged_sessions_are_records.Goals as goal

pub returns : goal.returns
returns c = log_records
