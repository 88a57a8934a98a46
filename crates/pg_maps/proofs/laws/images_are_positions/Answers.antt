use Rattle.pg_maps.proofs.Imaging.{IsImage-after}
use Rattle.pg_maps.proofs.Positions.{IsImage-position, IsPosition-image, IsImage-unique}
use Rattle.pg_maps.proofs.Positions.{IsImage-further, IsImage-undone, image_position-stays}
use Rattle.pg_maps.proofs.laws.images_are_positions.Goals as goal

pub returns : goal.returns
returns c = record {
  image = λ g f back p fits is.
      (IsImage-position g f back fits p is, IsPosition-image g f back fits p is);
  unique = λ g f back p q r fits h k qi ri. IsImage-unique g f back fits p q r h k qi ri;
  after = λ g f back p q v fits h range. IsImage-after g f back fits p q h v range;
  further =
      λ g f back h p q r fits first second. IsImage-further g f back fits h p q r first second;
  undone = λ g f back p q fits is. IsImage-undone g f back fits p q is;
  stays = λ g f back p fits same is. image_position-stays g f back fits p same is;
}
