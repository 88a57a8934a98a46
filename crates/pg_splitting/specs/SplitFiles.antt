-- The files of what a game is split into.
use Rattle.std.specs.Prelude.{◌≡◌, ◌≢◌, ◌<◌, ◌⊎◌, ℕ, List, [], ◌∷◌, ◌++◌, map, Option, Some, None}
use Rattle.std.specs.Prelude.{Result, Ok, Err, codes, false, reverse, ⊤}
use Rattle.pg_files.specs.GameFile.{Entry}
use Rattle.pg_files.specs.Print.{printed}
use Rattle.pg_game.specs.declared.game.Game.{Game}
use Rattle.pg_game.specs.declared.position.Position.{Position}
use Rattle.pg_io.specs.Causes.{Faults, Rose}
use Rattle.pg_io.specs.Files.{Bytes, FilesTold, Holding, Making, ReadsOnly}
use Rattle.pg_io.specs.declared.stop.Stop.{Stop}
use Rattle.pg_io.specs.declared.stop.Stop.TheVariants.{Memory, Read, Write}
use Rattle.pg_plan.specs.Names.{numbered_name}
use Rattle.pg_plan.specs.Print.{printed_plan}
use Rattle.pg_plan.specs.declared.place.TheConstants.{MAX_GAME_FILES}
use Rattle.pg_split.specs.declared.numbering.Piece.{Piece}
use Rattle.pg_split.specs.declared.numbering.Split.{Split}
use Rattle.pg_talk.specs.Done.{Keeps}
use Rattle.pg_splitting.specs.Prepared.{plan_in}

-- the name of a game file
abbrev pub game_in : Bytes → ℕ → Bytes
game_in folder number = numbered_name folder number (codes ".game")

-- the game with the marks and the turn of a position
abbrev pub entry_at : Game → Position → Entry
entry_at g p =
    record { kind = g.kind; field = g.field; x = p.x; y = p.y; turn = p.turn; bias = g.bias }

-- the file of a position
abbrev pub piece_file : Bytes → Game → Piece → Making
piece_file folder g piece = (game_in folder piece.file, printed (entry_at g piece.position))

-- the file of the plan
abbrev pub plan_file : Bytes → Split → Making
plan_file folder split = (plan_in folder, printed_plan split.plan)

-- THE FILES: those of the positions in order, and the plan as the last
abbrev pub split_files : Bytes → Game → Split → List Making
split_files folder g split =
    map (piece_file folder g) split.pieces.items ++ plan_file folder split ∷ []

-- the games have the same kind, field and bias
pub record HasSameRules (g h : Game) : Type 0 where
  pub kind : h.kind ≡ g.kind
  pub field : h.field ≡ g.field
  pub bias : h.bias ≡ g.bias

-- ---- storing

-- the files are stored in order; where the work ended before, the first of them are
abbrev pub StoresAll : List Making → Option Holding → Option Holding → Result (Unit {0}) Stop
    → Type 0
StoresAll files None after result = ⊤
StoresAll files (Some held) after (Ok _) = Keeps held (reverse files) after
StoresAll files (Some held) after (Err stop) = (front : List Making) × (rest : List Making)
    × (files ≡ front ++ rest)
    × Keeps held (reverse front) after

-- names other than those of the plan and of game files keep what they held
abbrev pub KeepsOutside : Bytes → Option Holding → Option Holding → Type 0
KeepsOutside folder None after = ⊤
KeepsOutside folder (Some held) None = ⊥
KeepsOutside folder (Some held) (Some after) = (other : Bytes) → other ≢ plan_in folder
    → ((number : ℕ) → number < MAX_GAME_FILES → other ≢ game_in folder number)
    → after other ≡ held other

-- the files are only read, or the plan and game files of the folder alone were stored: then no file
-- is being made
abbrev pub StoresIn : Bytes → FilesTold → FilesTold → Type 0
StoresIn folder before after = ReadsOnly before after
    ⊎ ((after.busy ≡ false) × KeepsOutside folder before.held after.held)

-- work that is done, or stopped for want of memory, leaves both numbers of faults; else a call that
-- writes has failed
abbrev pub StoreCauses : Faults → Faults → Result (Unit {0}) Stop → Type 0
StoreCauses before now (Ok _) = now ≡ before
StoreCauses before now (Err Read) = ⊥
StoreCauses before now (Err Write) = Rose before.writes now.writes
StoreCauses before now (Err Memory) = now ≡ before
