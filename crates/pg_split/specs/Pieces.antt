-- What splitting brings.
use Rattle.std.specs.Prelude.{◌≡◌, ℕ, ◌<◌, ◌≤◌, List, length, map}
use Rattle.std.specs.List.{All, range_with_len}
use Rattle.pg_game.specs.Game.{IsPosition, bias_of}
use Rattle.pg_game.specs.declared.game.Game.{Game}
use Rattle.pg_game.specs.declared.position.Position.{Position}
use Rattle.pg_plan.specs.Places.{IsPlan}
use Rattle.pg_plan.specs.Print.{printed_plan}
use Rattle.pg_plan.specs.declared.fault.TheConstants.{MAX_PLAN_BYTES}
use Rattle.pg_plan.specs.declared.place.Place.{Place}
use Rattle.pg_plan.specs.declared.place.Place.TheVariants as places
use Rattle.pg_plan.specs.declared.place.TheConstants.{MAX_GAME_FILES}
use Rattle.pg_split.specs.declared.numbering.Piece.{Piece}
use Rattle.pg_split.specs.declared.numbering.Split.{Split}
use Rattle.pg_split.specs.Splits.{IsTruePlan}

-- a game file can say the position: it is one of the game, and a turn begins there
pub record CanBeSaid (g : Game) (p : Position) : Type 0 where
  pub position : IsPosition g p
  pub begins : p.left ≡ bias_of g p.turn

-- the position, and the number of a game file that can say it
pub record IsPiece (g : Game) (piece : Piece) : Type 0 where
  pub position : CanBeSaid g piece.position
  pub file : piece.file < MAX_GAME_FILES

-- the positions are such, and the numbers of their files follow each other from the first on
pub record ArePieces (g : Game) (first : ℕ) (pieces : List Piece) : Type 0 where
  pub each : All (IsPiece g) pieces
  pub files : map (λ (p : Piece). p.file) pieces ≡ range_with_len first (length pieces)

-- what the game is split into, from an old plan on (`[]` if there is none): a plan of the game
-- whose text isn't too large for a file, and positions of game files with numbers from the first on
pub record IsSplitOf (g : Game) (old : List Place) (first : ℕ) (split : Split) : Type 0 where
  pub plan : IsPlan split.plan
  pub fits : length (printed_plan split.plan) ≤ MAX_PLAN_BYTES
  pub pieces : ArePieces g first split.pieces.items
  pub true_plan : IsTruePlan g old first split.pieces.items split.plan

-- the number of the position's game file is below this one
abbrev pub IsFileBelow : ℕ → Place → Type 0
IsFileBelow number places.Decided = Unit {0}
IsFileBelow number (places.Image map place) = Unit {0}
IsFileBelow number (places.Game file steps) = file < number
IsFileBelow number (places.Moves steps) = Unit {0}

-- what positions of a plan are split into: all new game files have higher numbers than those of the
-- plan
pub record IsRefinedFrom (g : Game) (old : List Place) (split : Split) : Type 0 where
  pub first : ℕ
  pub above : All (IsFileBelow first) old
  pub split_of : IsSplitOf g old first split
