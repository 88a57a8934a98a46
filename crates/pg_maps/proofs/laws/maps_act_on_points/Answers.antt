use Rattle.std.proofs.Common.{sym}
use Rattle.pg_maps.proofs.Turning.{AreInverse-map, image-followed, image-identity}
use Rattle.pg_maps.proofs.laws.maps_act_on_points.Goals as goal

pub returns : goal.returns
returns c = record {
  images = λ grid a b v first second. sym (image-followed grid a b v first second);
  stays = image-identity;
  inverse = AreInverse-map;
}
