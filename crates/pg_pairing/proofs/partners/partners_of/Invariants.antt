use Rattle.pg_pairing.proofs.PartnerSteps.{HasPaired}
use Rattle.pg_pairing.proofs.partners.partners_of.Given as goal

abbrev pub invariant-loop-s : goal.invariant-loop-s
invariant-loop-s l = HasPaired l.partners l.pairs l.s-index
