use Rattle.pg_request.proofs.Entries.{told_apart}
use Rattle.pg_request.proofs.laws.entries_are_told_apart.Goals as goal

pub returns : goal.returns
returns c = told_apart
