use Rattle.pg_maps.proofs.Boards.{IsAutomorphism-fits}
use Rattle.pg_maps.proofs.laws.fitting_maps_are_automorphisms.Goals as goal

pub returns : goal.returns
returns c = IsAutomorphism-fits
