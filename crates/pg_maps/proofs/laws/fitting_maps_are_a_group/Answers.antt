use Rattle.pg_maps.proofs.Boards.{Fits-identity, Fits-reverse, Fits-followed}
use Rattle.pg_maps.proofs.laws.fitting_maps_are_a_group.Goals as goal

pub returns : goal.returns
returns c = record { identity = Fits-identity; followed = Fits-followed; reverse = Fits-reverse }
