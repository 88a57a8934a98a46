use Rattle.std.proofs.Common.{◌∙◌, length, nat_lt, refl, sym, subst, ap, arith}
use Rattle.std.proofs.lemmas.Option.{slice_get_read}
use Rattle.pg_maps.specs.GridMaps.{numbered}
use Rattle.pg_maps.specs.Images.{Fits, board_of, image_on, image_position}
use Rattle.pg_maps.specs.declared.grid_map.GridMap.{GridMap}
use Rattle.pg_split.proofs.Checked.{map_is}
use Rattle.pg_split.proofs.checking.is_image.Goals as goal

pub returns : goal.returns
returns c = λ on.
    let m = map_is (nat_lt c.args.map 8) (numbered c.args.map) c.in-Some.map
    (sym c.from_number.ensures ∙ c.in-Some.is) in record {
      original = c.index-positions-i.result;
      at = slice_get_read c.args.positions.now (length c.args.positions.now) c.args.place
          c.index-positions-i.result refl (omega (arith, c.if-i-positions.false))
          c.index-positions-i.is;
      fits = subst (Fits c.args.game.now) m (c.is_fitting.ensures c.if-not-is_fitting.false);
      image = c.is_same.ensures.0 on ∙ c.in-Some-image_of.ensures
          ∙ ap (λ (h : GridMap). image_position (image_on (board_of c.args.game.now.field) h)
          c.index-positions-i.result) m;
    }
