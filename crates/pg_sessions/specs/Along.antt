-- Where along the moves of a record a review stands, and what it has said by then.
use Rattle.std.specs.Prelude.{◌≡◌, ℕ, ◌-◌, ◌≤◌, List, ◌++◌, length, map, take, Option, Some, None}
use Rattle.std.specs.Prelude.{Ok, ⊤}
use Rattle.pg_sessions.specs.Prelude.{ConsoleTold, Grows, Bytes, Holding, Entry, Said, entry, Game}
use Rattle.pg_sessions.specs.Prelude.{game_held, position_after}
use Rattle.pg_sessions.specs.Review.{IsGameAt, loss_texts, moves_held}

-- the game with the marks and the turn of the position after some of the moves
pub record IsAlong (g : Game) (moves : List ℕ) (here : Game) : Type 0 where
  pub made : ℕ
  pub within : made ≤ length moves
  pub stands : IsGameAt g (position_after g (take made moves)) here

-- these texts were said, and perhaps more behind them
abbrev pub SaysAtLeast : List Bytes → ConsoleTold → ConsoleTold → Type 0
SaysAtLeast texts before after =
    (entries : List Entry) × Grows before.log after.log (map Said texts ++ entries)

-- the same, and the losses of the moves between the positions before it were said
pub record IsReached (before after : ConsoleTold) (g : Game) (moves : List ℕ) (here : Game)
    : Type 0 where
  pub along : IsAlong g moves here
  pub said : SaysAtLeast (loss_texts g (take (along.made - 1) moves)) before after

-- ---- by what names hold

-- this is so of the moves that stand in the record of the game
abbrev pub IsOfRecord : (Game → List ℕ → Game → Type 0) → Game → Option Bytes → Game → Type 0
IsOfRecord Is g record_bytes here =
    (moves : List ℕ) × (moves_held g record_bytes ≡ Ok moves) × Is g moves here

-- the same where it is told what the name of the record holds
abbrev pub IsOfMoves : (Game → List ℕ → Game → Type 0) → Game → Option Holding → Bytes → Game
    → Type 0
IsOfMoves Is g None record_name here = ⊤
IsOfMoves Is g (Some held) record_name here = IsOfRecord Is g (held record_name) here

-- this is so of the game that a name holds, and of those moves
abbrev pub IsOfGame : (Game → List ℕ → Game → Type 0) → Option Bytes → Option Bytes → Game → Type 0
IsOfGame Is game_bytes record_bytes here =
    (g : Game) × (game_held game_bytes ≡ Ok (entry g)) × IsOfRecord Is g record_bytes here

-- the same where it is told what the names hold
abbrev pub IsOfNames : (Game → List ℕ → Game → Type 0) → Option Holding → Bytes → Bytes → Game
    → Type 0
IsOfNames Is None game_name record_name here = ⊤
IsOfNames Is (Some held) game_name record_name here =
    IsOfGame Is (held game_name) (held record_name) here
