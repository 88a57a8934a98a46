use Rattle.std.proofs.Common.{◌≡◌, map, take}
use Rattle.pg_families.proofs.Common.{Grows, Said}
use Rattle.pg_families.specs.Connectivity.{span_acceptance}
use Rattle.pg_families.proofs.span_check.accept_spans.Given as goal

abbrev pub invariant-loop-claim : goal.invariant-loop-claim
invariant-loop-claim g l = Grows (g.C.Console.told l.initial.console).log
    (g.C.Console.told l.console).log (map Said (map span_acceptance (take l.claim-index l.claims)))
    × ((g.C.Console.told l.console).faults ≡ (g.C.Console.told l.initial.console).faults)
    × ((g.C.Console.told l.console).left ≡ (g.C.Console.told l.initial.console).left)
