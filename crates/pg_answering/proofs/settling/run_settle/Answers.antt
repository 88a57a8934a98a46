use Rattle.std.proofs.Common.{string_bytes}
use Rattle.pg_answering.specs.Machine.{told_by}
use Rattle.pg_answering.proofs.Unmeant.{unmeant}
use Rattle.pg_answering.proofs.settling.run_settle.Goals as goal

pub returns-in_default : goal.returns-in_default
returns-in_default c = unmeant string_bytes c.args.arguments.now (told_by c.args.machine.now)
    c.in_default.len_below
