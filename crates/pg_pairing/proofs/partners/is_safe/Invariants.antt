use Rattle.pg_pairing.proofs.PartnerSteps.{HasPassed}
use Rattle.pg_pairing.proofs.partners.is_safe.Given as goal

abbrev pub invariant-loop-v : goal.invariant-loop-v
invariant-loop-v l = HasPassed l.own l.line l.partners l.v-index l.seen
