use Rattle.pg_maps.proofs.Imaging.{over-image, outcome-image, value-image, Forces-image}
use Rattle.pg_maps.proofs.laws.automorphisms_keep_values.Goals as goal

pub returns : goal.returns
returns c = record {
  over = λ g f back p q fits h. over-image g f back fits p q h;
  outcome = λ g f back p q fits h. outcome-image g f back fits p q h;
  value = λ g f back p q fits h. value-image g f back fits p q h;
  forces =
      λ g f back p q side goal fits h forced. Forces-image g f back fits p q side goal h forced;
}
