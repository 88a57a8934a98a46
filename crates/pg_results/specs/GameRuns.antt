-- A run that reads one game and decides it: how it may end, and what it may print before.
use Rattle.std.specs.Prelude.{◌≡◌, ◌⊎◌, ℕ, List, [], ◌∷◌, Result, Ok, Err}
use Rattle.pg_results.specs.Prelude.{Bytes, ConsoleTold, DONE, Done, End, FAULTY_GAME, Failed}
use Rattle.pg_results.specs.Prelude.{Finished, Grows, Halt, Holding, IsGameHalt, IsNothing}
use Rattle.pg_results.specs.Prelude.{NO_MEMORY, QuietsBy, READ_FAILED, Refusal, Refused, Said}
use Rattle.pg_results.specs.Prelude.{Starved, UNKNOWN, WRITE_FAILED, game_held, refusal_status}
use Rattle.pg_results.specs.Prelude.{refusal_text}

-- the statuses of such a run
abbrev pub game_statuses : List ℕ
game_statuses =
    DONE ∷ UNKNOWN ∷ FAULTY_GAME ∷ READ_FAILED ∷ WRITE_FAILED ∷ NO_MEMORY ∷ []

-- the run is done or leaves the game open; or the game file has a fault, or it was stopped
abbrev pub EndsOnGame : Result ℕ Halt → Type 0
EndsOnGame (Ok status) = (status ≡ DONE) ⊎ (status ≡ UNKNOWN)
EndsOnGame (Err halt) = IsGameHalt halt

-- nothing was printed before a refusal, a failed read, or where memory ran out
abbrev pub IsQuiet : ConsoleTold → ConsoleTold → Result ℕ Halt → Type 0
IsQuiet before after result =
    QuietsBy (Grows before.log after.log []) (Grows before.log after.log []) before after result

-- nothing was printed if a read failed, or memory ran out
pub record IsSilent (before after : ConsoleTold) (status : ℕ) : Type 0 where
  pub at_read : status ≡ READ_FAILED → Grows before.log after.log []
  pub at_memory : status ≡ NO_MEMORY → Grows before.log after.log []

-- the fault of the game that the name holds is printed, with its status; if the run was stopped,
-- nothing was done
abbrev pub DeclinesGame : Holding → Bytes → Done → End → Type 0
DeclinesGame held name done (Finished status) = (refusal : Refusal)
    × (game_held (held name) ≡ Err (Refused refusal))
    × (done.entries ≡ Said (refusal_text refusal) ∷ [])
    × (done.stored ≡ [])
    × (status ≡ refusal_status refusal)
DeclinesGame held name done Failed = IsNothing done
DeclinesGame held name done Starved = IsNothing done
