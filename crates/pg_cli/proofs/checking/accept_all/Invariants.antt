use Rattle.std.proofs.Common.{◌≡◌, map, take}
use Rattle.pg_cli.proofs.Common.{Grows, Said}
use Rattle.pg_cli.specs.Checking.{head_acceptance}
use Rattle.pg_cli.proofs.checking.accept_all.Given as goal

abbrev pub invariant-loop-claim : goal.invariant-loop-claim
invariant-loop-claim g l = Grows (g.C.Console.told l.initial.console).log
    (g.C.Console.told l.console).log (map Said (map head_acceptance (take l.claim-index l.claims)))
    × ((g.C.Console.told l.console).faults ≡ (g.C.Console.told l.initial.console).faults)
    × ((g.C.Console.told l.console).left ≡ (g.C.Console.told l.initial.console).left)
