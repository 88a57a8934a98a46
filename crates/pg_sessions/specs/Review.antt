-- What a review of a recorded game does: it says which of the standing moves lost value.
use Rattle.std.specs.Prelude.{◌≡◌, ◌⊎◌, ℕ, zero, suc, ◌-◌, ◌<◌, ◌≤◌, nat_lt, false, if◌then◌else◌}
use Rattle.std.specs.Prelude.{List, [], ◌∷◌, ◌++◌, length, map, take, Option, Some, None, Result}
use Rattle.std.specs.Prelude.{Ok, Err, ⊤}
use Rattle.pg_sessions.specs.Prelude.{Bytes, Holding, Entry, Said, Memory, Cert, is_switching}
use Rattle.pg_sessions.specs.Prelude.{start, IsGameOf, Game, Position, position_after, standing}
use Rattle.pg_sessions.specs.Prelude.{Event, record_of, number_of, Fault, Expanded, budget}
use Rattle.pg_sessions.specs.Prelude.{IsLeftOpen, lost_text, reviewed_text, unknown_at_text}
use Rattle.pg_sessions.specs.Prelude.{Refusal, DONE, UNKNOWN, Done, End, Finished, Failed, Starved}
use Rattle.pg_sessions.specs.Prelude.{SaysFirst, game_fault, held_as, lacking, Halt, Refused}
use Rattle.pg_sessions.specs.Prelude.{Stopped, IsSaidBy, game_held}
use Rattle.pg_files.specs.GameFile.{Entry as GameEntry}
use Rattle.pg_messages.specs.declared.refusal.Refusal.TheVariants.{Game as FaultyGame}
use Rattle.pg_messages.specs.declared.refusal.Refusal.TheVariants.{Record as FaultyRecord}
use Rattle.pg_sessions.specs.Known.{HaveNodes, IsSolvedBy}
use Rattle.pg_sessions.specs.Losses.{Loss, losses}
use Rattle.pg_sessions.specs.declared.opening.TheConstants.{SEVERAL_A_TURN}

-- ---- what is read

-- the record file has a fault: the number of the fault and that of its line
abbrev pub record_fault : ℕ → ℕ → Halt
record_fault number line = Refused (FaultyRecord number line)

-- the moves that stand in a record, or the fault of its file
abbrev pub moves_told : Result (List Event) (Fault × ℕ) → Result (List ℕ) Halt
moves_told (Ok events) = Ok (standing events)
moves_told (Err fault) = Err (record_fault (number_of fault.0) fault.1)

-- the standing moves of the record of the game that a name holds, or what stands against them;
-- where Y claims several points a turn that stands against the game, and the name isn't looked at
abbrev pub moves_held : Game → Option Bytes → Result (List ℕ) Halt
moves_held g o = if nat_lt 1 g.bias
    then Err (game_fault SEVERAL_A_TURN 0)
    else held_as (λ text. moves_told (record_of g text)) o

-- this stands against a review of what two names hold: first what stands against the game, and then
-- what stands against the record
abbrev pub StandsAgainst : Result GameEntry Halt → Option Bytes → Halt → Type 0
StandsAgainst (Err halt) record_bytes against = halt ≡ against
StandsAgainst (Ok e) record_bytes against =
    (g : Game) × IsSaidBy e g × (moves_held g record_bytes ≡ Err against)

-- the review is refused
abbrev pub RefusesReview : Option Bytes → Option Bytes → Refusal → Type 0
RefusesReview game_bytes record_bytes refusal =
    StandsAgainst (game_held game_bytes) record_bytes (Refused refusal)

-- it is told that a name that is wanted isn't held: the game's; or the record's, where nothing
-- stands against the game
abbrev pub IsReviewLacking : Option Holding → Bytes → Bytes → Type 0
IsReviewLacking None game_name record_name = ⊥
IsReviewLacking (Some held) game_name record_name =
    StandsAgainst (game_held (held game_name)) (held record_name) lacking

-- ---- what is said

-- the texts of the losses of moves from the game's position, in order
abbrev pub loss_texts : Game → List ℕ → List Bytes
loss_texts g moves = map (λ (l : Loss). lost_text l.number l.point g.kind l.before l.after)
    (losses g (start g) moves)

-- the game with the marks and the turn of a position
abbrev pub IsGameAt : Game → Position → Game → Type 0
IsGameAt g p here = IsGameOf here g.kind g.field p.x p.y p.turn g.bias

-- the certificate tells the value of the position after so many moves: solving finds it there; or
-- at an earlier position, and each claim of it has a node with this one
pub record IsKnownBy (g : Game) (moves : List ℕ) (positions made : ℕ) (c : Cert) : Type 0 where
  pub from : ℕ
  pub earlier : from ≤ made
  pub here : Game
  pub stands : IsGameAt g (position_after g (take from moves)) here
  pub solved : IsSolvedBy here positions c
  pub shows : (from ≡ made) ⊎ HaveNodes (position_after g (take made moves)) c

-- some certificate does so
abbrev pub IsDecided : Game → List ℕ → ℕ → ℕ → Type 0
IsDecided g moves positions made = (c : Cert) × IsKnownBy g moves positions made c

-- the certificate that told the value of the position before doesn't tell that of the position
-- after so many moves
abbrev pub IsUntold : Game → List ℕ → ℕ → ℕ → Type 0
IsUntold g moves positions zero = ⊤
IsUntold g moves positions (suc before) = (c : Cert) × IsKnownBy g moves positions before c
    × (HaveNodes (position_after g (take (suc before) moves)) c → ⊥)

-- each position is decided, all losses are said, and then how many moves stand
pub record IsReviewed (g : Game) (moves : List ℕ) (positions : ℕ) (entries : List Entry)
    (status : ℕ) : Type 0 where
  pub decided : (made : ℕ) → made ≤ length moves → IsDecided g moves positions made
  pub said : entries ≡ map Said (loss_texts g moves ++ reviewed_text (length moves) ∷ [])
  pub status_is : status ≡ DONE

-- the first position of a game on lines that isn't decided: the certificate at hand doesn't tell
-- its value, and it stays open after as many positions as the budget allows there. The losses of
-- the moves between the positions before it are all said, and then where the review stops
pub record StopsAt (g : Game) (moves : List ℕ) (positions : ℕ) (work : Expanded)
    (entries : List Entry) (status : ℕ) : Type 0 where
  pub on_lines : is_switching g.kind ≡ false
  pub made : ℕ
  pub within : made ≤ length moves
  pub decided : (before : ℕ) → before < made → IsDecided g moves positions before
  pub untold : IsUntold g moves positions made
  pub here : Game
  pub stands : IsGameAt g (position_after g (take made moves)) here
  pub left_open : IsLeftOpen here (budget here positions) work
  pub said : entries ≡ map Said
      (loss_texts g (take (made - 1) moves) ++ unknown_at_text made (budget here positions) ∷ [])
  pub status_is : status ≡ UNKNOWN

-- what a review of these moves of a game says and how it ends; where a call fails or memory is
-- wanting, it has said the first losses
abbrev pub ReviewsMoves : Game → List ℕ → ℕ → Expanded → List Entry → End → Type 0
ReviewsMoves g moves positions work entries (Finished status) =
    IsReviewed g moves positions entries status ⊎ StopsAt g moves positions work entries status
ReviewsMoves g moves positions work entries Failed = SaysFirst (loss_texts g moves) entries
ReviewsMoves g moves positions work entries Starved = SaysFirst (loss_texts g moves) entries

-- the same of the moves that stand in the record of the game
abbrev pub ReviewsRecord : Game → Option Bytes → ℕ → Expanded → List Entry → End → Type 0
ReviewsRecord g record_bytes positions work entries end =
    (moves : List ℕ) × (moves_held g record_bytes ≡ Ok moves)
    × ReviewsMoves g moves positions work entries end

-- the same of the game that was read
abbrev pub ReviewsRead : Result GameEntry Halt
    → Option Bytes
    → ℕ
    → Expanded
    → List Entry
    → End
    → Type 0
ReviewsRead (Err halt) record_bytes positions work entries end = ⊥
ReviewsRead (Ok e) record_bytes positions work entries end =
    (g : Game) × IsSaidBy e g × ReviewsRecord g record_bytes positions work entries end

-- what a review does with the game and the record that two names hold
abbrev pub Reviews : Option Bytes → Option Bytes → ℕ → Expanded → Done → End → Type 0
Reviews game_bytes record_bytes positions work done end =
    ReviewsRead (game_held game_bytes) record_bytes positions work done.entries end

-- ---- what it leaves and gives

-- what can end a review early
abbrev pub IsReviewHalt : Halt → Type 0
IsReviewHalt (Refused (FaultyGame number line)) = ⊤
IsReviewHalt (Refused (FaultyRecord number line)) = ⊤
IsReviewHalt (Refused _) = ⊥
IsReviewHalt (Stopped stop) = ⊤

-- what can end the reading of a record's text early
abbrev pub IsTextHalt : Halt → Type 0
IsTextHalt (Refused (FaultyRecord number line)) = ⊤
IsTextHalt (Refused _) = ⊥
IsTextHalt (Stopped Memory) = ⊤
IsTextHalt (Stopped _) = ⊥

-- with which status a review ends
abbrev pub IsReviewEnd : ℕ → Type 0
IsReviewEnd status = (status ≡ DONE) ⊎ (status ≡ UNKNOWN)

-- how a review ends
abbrev pub GivesReview : Result ℕ Halt → Type 0
GivesReview (Ok status) = IsReviewEnd status
GivesReview (Err halt) = IsReviewHalt halt
