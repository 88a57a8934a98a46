-- What maps of a board do to all numbers that a set can hold.
use Rattle.std.proofs.Common.{◌*◌, ◌≤◌, Option, Some, None, refl, ap, ◌∙◌, inl, inr, arith}
use Rattle.pg_unfold.proofs.Common.{cases_lt, Grid, IsMapOf, image_of, reverse_of, AreInverse}
use Rattle.pg_unfold.proofs.Common.{image_on, GridMap}
use Rattle.pg_maps.proofs.Turning.{AreInverse-map, image-beyond}
use Rattle.pg_unfold.specs.Marks.{IsBoardMap}

module _ (grid : Grid) (m : GridMap) (is : IsMapOf grid m)
    (few : grid.width * grid.height ≤ 1024) where
  inverse : AreInverse (grid.width * grid.height) (image_of m grid) (image_of (reverse_of m) grid)
  inverse = AreInverse-map grid m is

  AreInverse-grid : AreInverse 1024 (image_of m grid) (image_of (reverse_of m) grid)
  AreInverse-grid = record {
    range = λ v lt. elim (cases_lt v (grid.width * grid.height)) [
      | inl cell ↦ let there = inverse.range v cell in omega (arith, there, few)
      | inr ge ↦ let stays = image-beyond grid m v ge in omega (arith, stays, lt)
    ];
    back_range = λ v lt. elim (cases_lt v (grid.width * grid.height)) [
      | inl cell ↦ let there = inverse.back_range v cell in omega (arith, there, few)
      | inr ge ↦ let stays = image-beyond grid (reverse_of m) v ge in omega (arith, stays, lt)
    ];
    undone = λ v lt. elim (cases_lt v (grid.width * grid.height)) [
      | inl cell ↦ inverse.undone v cell
      | inr ge ↦ ap (image_of (reverse_of m) grid) (image-beyond grid m v ge)
          ∙ image-beyond grid (reverse_of m) v ge
    ];
    redone = λ v lt. elim (cases_lt v (grid.width * grid.height)) [
      | inl cell ↦ inverse.redone v cell
      | inr ge ↦
          ap (image_of m grid) (image-beyond grid (reverse_of m) v ge) ∙ image-beyond grid m v ge
    ];
  }

pub AreInverse-board : (board : Option Grid) (m : GridMap)
    → IsBoardMap board m
    → AreInverse 1024 (image_on board m) (image_on board (reverse_of m))
AreInverse-board None m h = record {
  range = λ v lt. lt;
  back_range = λ v lt. lt;
  undone = λ v lt. refl;
  redone = λ v lt. refl;
}
AreInverse-board (Some grid) m h = AreInverse-grid grid m h.is_map (h.few grid refl)
