use Rattle.std.proofs.Common.{refl, []}
use Rattle.pg_io.specs.declared.entry.Entry.TheVariants.{Skipped}
use Rattle.pg_host.proofs.host_console.HostConsoleConsole.hear.Goals as goal

pub returns-clause-heard : goal.returns-clause-heard
returns-clause-heard g c = (Skipped [], ([], refl), tt, tt)
