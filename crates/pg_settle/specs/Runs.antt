-- WHAT A RUN IS.
use Rattle.std.specs.Prelude.{◌≡◌, ◌⊎◌, ℕ, List, ◌++◌, Option, Some, Result, Ok, Err}
use Rattle.std.specs.Prelude.{IfSome}
use Rattle.pg_settle.specs.Prelude.{Bytes, Changes, ConsoleTold, Contains, DeclinesGame, Done}
use Rattle.pg_settle.specs.Prelude.{End, Entry, FilesTold, Game, Halt, Holding, IsSaidBy, Kind}
use Rattle.pg_settle.specs.Prelude.{Refused, Runs, Said, SaysGame, Score, ending, game_held}
use Rattle.pg_settle.specs.Prelude.{result_text, start, value}
use Rattle.pg_files.specs.GameFile.{Entry as GameEntry}
use Rattle.pg_settle.specs.JsonLines.{json_line, value_data}
use Rattle.pg_settle.specs.Settling.{Form, SettlesGame}
use Rattle.pg_settle.specs.declared.budget.Budget.{Budget}
use Rattle.pg_settle.specs.declared.finding.Outcome.{Outcome}

module _ (Brings : Game → Budget → Outcome → Type 0) (form : Form) where
  -- what settling does, by the game that was read
  abbrev pub Settles : Result GameEntry Halt → Bytes → Budget → Done → End → Type 0
  Settles (Err halt) name budget done end = ⊥
  Settles (Ok e) name budget done end =
      (g : Game) × IsSaidBy e g × SettlesGame Brings form g name budget done end

  -- the game is settled; or what stands against it was found, and nothing was said yet; or the run
  -- was stopped
  abbrev pub Carries : Bytes → Bytes → Budget → FilesTold → FilesTold → ConsoleTold → ConsoleTold
      → Result ℕ Halt → Type 0
  Carries game name budget files files' before after result =
      Runs (λ held refusal. game_held (held game) ≡ Err (Refused refusal))
      (λ held. Settles (game_held (held game)) name budget) files files' before after result

  -- the game is settled, or what stands against that is said with its status
  abbrev pub Allows : Holding → Bytes → Bytes → Budget → Done → End → Type 0
  Allows held game name budget done end =
      DeclinesGame held game done end
      ⊎ Settles (game_held (held game)) name budget done end

  -- a run on names that hold these bytes
  abbrev pub RanOn : Holding → Bytes → Bytes → Budget → FilesTold → ConsoleTold → ConsoleTold
      → End → Type 0
  RanOn held game name budget files before after end =
      (done : Done) × Allows held game name budget done end
      × Changes held files before after done end

  -- a run that ends with the status, where it is told what the names hold
  abbrev pub Ran : Bytes → Bytes → Budget → FilesTold → FilesTold → ConsoleTold → ConsoleTold
      → ℕ → Type 0
  Ran game name budget files files' before after status =
      IfSome files.held
      (λ held. RanOn held game name budget files' before after (ending status))

-- ---- what is announced

-- each score that is printed is the value of the game that these bytes say
abbrev pub SaysScore : Option Bytes → List Entry → Type 0
SaysScore bytes entries = (kind : Kind) (score : Score)
    → Contains entries (Said (result_text kind score))
    → (g : Game) × SaysGame bytes g
    × (result_text kind score ≡ result_text g.kind (value g (start g)))

-- the text is the line of JSON that says this score of the game
abbrev pub IsLineOf : Game → Score → Bytes → Type 0
IsLineOf g score text = (name : Bytes) × (nodes : ℕ) × (expanded : ℕ) × (size : ℕ)
    × (text ≡ json_line (value_data name g score nodes expanded size))

-- each line of JSON that says a score of any game says the value of the game that these bytes say
abbrev pub SaysLine : Option Bytes → List Entry → Type 0
SaysLine bytes entries = (h : Game) (score : Score) (text : Bytes) → IsLineOf h score text
    → Contains entries (Said text)
    → (g : Game) × SaysGame bytes g × IsLineOf g (value g (start g)) text

-- what is printed of scores is true, in either form
pub record SaysValue (bytes : Option Bytes) (entries : List Entry) : Type 0 where
  pub score : SaysScore bytes entries
  pub line : SaysLine bytes entries

-- of all that a run has said, where it is told what the names hold and what was said
abbrev pub AnnouncesValue : Option Holding → Bytes → Option (List Entry) → Option (List Entry)
    → Type 0
AnnouncesValue told game log after =
    (held : Holding) (earlier entries : List Entry) → told ≡ Some held
    → log ≡ Some earlier
    → after ≡ Some (earlier ++ entries)
    → SaysValue (held game) entries
