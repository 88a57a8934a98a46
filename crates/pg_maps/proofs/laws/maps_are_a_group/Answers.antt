use Rattle.pg_maps.proofs.Numbers.{followed-associative, identity-followed, followed-identity}
use Rattle.pg_maps.proofs.Numbers.{followed-reverse, reverse-followed}
use Rattle.pg_maps.proofs.Turning.{IsMapOf-followed, IsMapOf-reverse}
use Rattle.pg_maps.proofs.laws.maps_are_a_group.Goals as goal

pub returns : goal.returns
returns c = record {
  followed = IsMapOf-followed;
  associative = followed-associative;
  neutral = λ a. (identity-followed a, followed-identity a);
  reverse = IsMapOf-reverse;
  undone = λ m. (followed-reverse m, reverse-followed m);
}
