use Rattle.pg_maps.proofs.Criteria.{PotentialHolds-image, AvoiderHolds-image}
use Rattle.pg_maps.proofs.MoreCriteria.{IsThreatLine-image, PairsHold-image}
use Rattle.pg_maps.proofs.laws.automorphisms_keep_criteria.Goals as goal

pub returns : goal.returns
returns c = record {
  potential = λ g f back p q side fits h holds. PotentialHolds-image g f back fits p q h side holds;
  avoider = λ g f back p q fits h holds. AvoiderHolds-image g f back fits p q h holds;
  pairs =
      λ g f back p q side pairs fits h held. PairsHold-image g f back fits p q h side pairs held;
  threat = λ g f back p q side points fits h leads. IsThreatLine-image g f back fits p q h side
      points leads;
}
