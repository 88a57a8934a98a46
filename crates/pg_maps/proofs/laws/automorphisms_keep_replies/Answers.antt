use Rattle.pg_maps.specs.Images.{image_position}
use Rattle.pg_maps.proofs.Criteria.{free_points-image}
use Rattle.pg_maps.proofs.Positions.{IsImage-position, IsPosition-image, IsNoWorse-image}
use Rattle.pg_maps.proofs.Positions.{replies-image}
use Rattle.pg_maps.proofs.laws.automorphisms_keep_replies.Goals as goal

pub returns : goal.returns
returns c = record {
  no_worse = λ g f back side q p fits qi pi worse. IsNoWorse-image g f back fits side q p
      (image_position f q) (image_position f p) (IsImage-position g f back fits q qi)
      (IsImage-position g f back fits p pi) (IsPosition-image g f back fits q qi)
      (IsPosition-image g f back fits p pi) worse;
  free = λ g f back p q fits h. free_points-image g f back fits p q h;
  replies =
      λ g f back p q points fits h moved up. replies-image g f back fits p q h points moved up;
}
