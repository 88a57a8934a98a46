-- A map of the board that fits keeps the value of a position.
use Rattle.std.proofs.Common.{◌≡◌, Option, Some, subst}
use Rattle.pg_maps.proofs.Common.{Goal, Grid, Side, Game, Position, IsPosition, value, Forces}
use Rattle.pg_maps.specs.declared.grid_map.GridMap.{GridMap}
use Rattle.pg_maps.specs.GridMaps.{image_of, reverse_of}
use Rattle.pg_maps.specs.Images.{IsAutomorphism, Fits, board_of, image_on, image_position}
use Rattle.pg_maps.proofs.Boards.{IsAutomorphism-fits}
use Rattle.pg_maps.proofs.Imaging.{value-image, Forces-image}
use Rattle.pg_maps.proofs.Positions.{IsImage-position}

automorphism : (g : Game) (grid : Grid) (m : GridMap)
    → board_of g.field ≡ Some grid
    → Fits g m
    → IsAutomorphism g (image_of m grid) (image_of (reverse_of m) grid)
automorphism g grid m has fits = subst
    (λ (board : Option Grid). IsAutomorphism g (image_on board m) (image_on board (reverse_of m)))
    has (IsAutomorphism-fits g m fits)

pub value-on_board : (g : Game) (grid : Grid) (m : GridMap) (p : Position)
    → board_of g.field ≡ Some grid
    → Fits g m
    → IsPosition g p
    → value g (image_position (image_of m grid) p) ≡ value g p
value-on_board g grid m p has fits is =
    let onto = automorphism g grid m has fits in
    value-image g (image_of m grid) (image_of (reverse_of m) grid) onto p
    (image_position (image_of m grid) p)
    (IsImage-position g (image_of m grid) (image_of (reverse_of m) grid) onto p is)

pub Forces-on_board : (g : Game) (grid : Grid) (m : GridMap) (p : Position) (side : Side)
    (goal : Goal)
    → board_of g.field ≡ Some grid
    → Fits g m
    → IsPosition g p
    → Forces g p side goal
    → Forces g (image_position (image_of m grid) p) side goal
Forces-on_board g grid m p side goal has fits is forced =
    let onto = automorphism g grid m has fits in
    Forces-image g (image_of m grid) (image_of (reverse_of m) grid) onto p
    (image_position (image_of m grid) p) side goal
    (IsImage-position g (image_of m grid) (image_of (reverse_of m) grid) onto p is) forced
