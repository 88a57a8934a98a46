-- When a plan is one of a game: what the positions of its numbers are, that the moves of a position
-- are all that it has and lead to the positions after them, and that each new file has a position.
use Rattle.std.specs.Prelude.{◌≡◌, ◌≢◌, ◌-◌, ℕ, ◌<◌, ◌≤◌, true, false, List, [], ◌∷◌, length, map}
use Rattle.std.specs.Prelude.{Some}
use Rattle.std.specs.Prelude.{◌⊎◌, slice_get}
use Rattle.std.specs.List.{All, Contains}
use Rattle.pg_base.specs.declared.kind.Kind.TheVariants.{Switching}
use Rattle.pg_game.specs.Game.{after, is_over, point_count, start}
use Rattle.pg_game.specs.Position.{is_free}
use Rattle.pg_game.specs.declared.game.Game.{Game}
use Rattle.pg_game.specs.declared.position.Position.{Position}
use Rattle.pg_maps.specs.GridMaps.{numbered}
use Rattle.pg_maps.specs.Images.{Fits, board_of, image_on, image_position}
use Rattle.pg_plan.specs.declared.place.Place.{Place}
use Rattle.pg_plan.specs.declared.place.Place.TheVariants as places
use Rattle.pg_plan.specs.declared.place.Step.{Step}
use Rattle.pg_split.specs.declared.numbering.Piece.{Piece}

-- ---- moves

-- the move is one of the position, and the position of its number is the one after it
pub record LeadsTo (g : Game) (positions : List Position) (p : Position) (s : Step) : Type 0 where
  pub point : s.point < point_count g
  pub free : is_free p s.point ≡ true
  pub next : slice_get positions s.place ≡ Some (after g p s.point)

-- the points of moves
abbrev pub step_points : List Step → List ℕ
step_points steps = map (λ (s : Step). s.point) steps

-- the game goes on, and each is a move of the position and leads to the position after it
pub record AreMoves (g : Game) (positions : List Position) (p : Position) (steps : List Step)
    : Type 0 where
  pub going : is_over g p ≡ false
  pub each : All (LeadsTo g positions p) steps

-- each free point is that of a move
abbrev pub AreAll : Game → Position → List Step → Type 0
AreAll g p steps =
    (v : ℕ) → v < point_count g → is_free p v ≡ true → Contains (step_points steps) v

-- the moves that a plan has of a position
abbrev pub moves_of : Place → List Step
moves_of places.Decided = []
moves_of (places.Image m j) = []
moves_of (places.Game k steps) = steps
moves_of (places.Moves steps) = steps

-- an old plan has moves of just these points at some position
abbrev pub AreOld : List Place → List Step → Type 0
AreOld old steps =
    Contains (map (λ (place : Place). step_points (moves_of place)) old) (step_points steps)

-- the moves, if there are any, are all that the position has, or those of an old plan
abbrev pub AreWhole : Game → List Place → Position → List Step → Type 0
AreWhole g old p [] = Unit {0}
AreWhole g old p (s ∷ steps) = AreAll g p (s ∷ steps) ⊎ AreOld old (s ∷ steps)

-- ---- positions

-- the position is the image of the one of number j under the map of number m, which takes the lines
-- of the game onto its lines
pub record IsImageAt (g : Game) (positions : List Position) (p : Position) (m j : ℕ)
    : Type 0 where
  pub original : Position
  pub at : slice_get positions j ≡ Some original
  pub fits : Fits g (numbered m)
  pub image : p ≡ image_position (image_on (board_of g.field) (numbered m)) original

-- without moves, a file with a number from the first on is to say this very position; with moves,
-- the number is lower, and they are moves of the position
abbrev pub IsTrueFile : Game → ℕ → List Position → List Piece → Position → ℕ → List Step → Type 0
IsTrueFile g first positions pieces p k [] =
    first ≤ k → Contains pieces (record { file = k; position = p })
IsTrueFile g first positions pieces p k (s ∷ steps) =
    (k < first) × AreMoves g positions p (s ∷ steps)

-- what the plan says of a position is true of it
abbrev pub IsTruePlace : Game → ℕ → List Position → List Piece → Position → Place → Type 0
IsTruePlace g first positions pieces p places.Decided = Unit {0}
IsTruePlace g first positions pieces p (places.Image m j) = IsImageAt g positions p m j
IsTruePlace g first positions pieces p (places.Game k steps) =
    IsTrueFile g first positions pieces p k steps
IsTruePlace g first positions pieces p (places.Moves steps) =
    (0 < length steps) × AreMoves g positions p steps

-- the plan says of a position that the file of this number says it, and it is that file's position
pub record IsSaid (positions : List Position) (plan : List Place) (piece : Piece) : Type 0 where
  pub number : ℕ
  pub position : slice_get positions number ≡ Some piece.position
  pub place : slice_get plan number ≡ Some (places.Game piece.file [])

-- ---- plans

-- what the plan says of the positions below a number is true of them
abbrev pub AreTrueBelow : Game → ℕ → List Position → List Piece → List Place → ℕ → Type 0
AreTrueBelow g first positions pieces plan count = (i : ℕ) (p : Position) (place : Place)
    → i < count
    → slice_get positions i ≡ Some p
    → slice_get plan i ≡ Some place
    → IsTruePlace g first positions pieces p place

-- so are the moves of the positions below a number
abbrev pub AreWholeBelow : Game → List Place → List Position → List Place → ℕ → Type 0
AreWholeBelow g old positions plan count = (i : ℕ) (p : Position) (place : Place)
    → i < count
    → slice_get positions i ≡ Some p
    → slice_get plan i ≡ Some place
    → AreWhole g old p (moves_of place)

-- these are the positions of the plan's numbers: there are as many, the last is that of the whole
-- game, what the plan says of each is true, and it names the file of each piece
pub record ArePositionsOf (g : Game) (first : ℕ) (pieces : List Piece) (plan : List Place)
    (positions : List Position) : Type 0 where
  pub count : length positions ≡ length plan
  pub last : slice_get positions (length plan - 1) ≡ Some (start g)
  pub each : AreTrueBelow g first positions pieces plan (length plan)
  pub said : All (IsSaid positions plan) pieces

-- the plan is one of a game on lines, in which the pieces are the positions of the files with
-- numbers from the first on: its numbers have positions, and where it has moves, these are all
-- moves of the position, or those of an old plan
pub record IsTruePlan (g : Game) (old : List Place) (first : ℕ) (pieces : List Piece)
    (plan : List Place) : Type 0 where
  pub on_lines : g.kind ≢ Switching
  pub positions : List Position
  pub are : ArePositionsOf g first pieces plan positions
  pub whole : AreWholeBelow g old positions plan (length plan)
