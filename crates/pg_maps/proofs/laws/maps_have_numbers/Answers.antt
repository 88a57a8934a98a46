use Rattle.pg_maps.proofs.Numbers.{number-numbered, numbered-number, number-few}
use Rattle.pg_maps.proofs.laws.maps_have_numbers.Goals as goal

pub returns : goal.returns
returns c = record { number = number-numbered; map = numbered-number; few = number-few }
