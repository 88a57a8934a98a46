-- What is to be seen of a recorded game: a position, and the moves that led to it.
use Rattle.std.specs.Prelude.{◌≡◌, ℕ, ◌++◌, Bool, List}
use Rattle.std.specs.Prelude.{length}
use Rattle.pg_scene.specs.Prelude.{lines_of, point_count, Game, Position}
use Rattle.pg_scene.specs.Items.{line_items, numbered, point_items, step_item}
use Rattle.pg_scene.specs.Scenes.{IsBoardOf}
use Rattle.pg_scene.specs.declared.item.Item.{Item}
use Rattle.pg_captions.specs.declared.look.Look.{Look}
use Rattle.pg_captions.specs.MoveLegends.{moves_by, moves_title}
use Rattle.pg_scene.specs.declared.scene.Scene.{Scene}

-- the points that were played, numbered in order
abbrev pub move_items : ℕ → List ℕ → List Item
move_items n moves = numbered (step_item n) 1 moves

-- a game at a position: its points with their marks, the lines, and the moves that led there
pub record IsSceneOfMoves (look : Look) (g : Game) (p : Position) (over : Bool) (moves : List ℕ)
    (scene : Scene) : Type 0 where
  pub title : scene.title ≡ moves_title g.kind (length moves)
  pub board : IsBoardOf look.layout g.field scene.board
  pub items : scene.items
      ≡ point_items (point_count g) p
      ++ (line_items look.lines (lines_of g) ++ move_items (point_count g) moves)
  pub legend : scene.legend ≡ moves_by look.legend look g p over moves
