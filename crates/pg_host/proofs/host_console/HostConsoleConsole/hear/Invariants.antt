use Rattle.std.proofs.Common.{◌≡◌}
use Rattle.pg_host.proofs.host_console.HostConsoleConsole.hear.Given as goal

abbrev pub invariant-loop-count : goal.invariant-loop-count
invariant-loop-count g l =
    (l.self.reads ≡ l.initial.self.reads) × (l.self.writes ≡ l.initial.self.writes)
