use Rattle.pg_zone_proofs.specs.Drafted.{AreFit}
use Rattle.pg_zone_proofs.proofs.drafting.Draft.fill.Given as goal

abbrev pub invariant-loop-step : goal.invariant-loop-step
invariant-loop-step g l = AreFit l.self.nodes.items
