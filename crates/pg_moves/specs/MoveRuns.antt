-- WHAT A RUN ON THE MOVES OF A GAME IS.
use Rattle.std.specs.Prelude.{◌≡◌, ◌⊎◌, ℕ, List, [], ◌∷◌, Option, Result, Ok, Err, IfSome}
use Rattle.std.specs.Prelude.{if◌then◌else◌}
use Rattle.pg_moves.specs.Prelude.{Budget, Bytes, Changes, ConsoleTold, DONE, DeclinesGame, Done}
use Rattle.pg_moves.specs.Prelude.{End, Entry, Failed, FilesTold, Finished, Game, Halt, Holding}
use Rattle.pg_moves.specs.Prelude.{IsSaidBy, Outcome, Said, Starved, UNKNOWN, ending, game_held}
use Rattle.pg_files.specs.GameFile.{Entry as GameEntry}
use Rattle.pg_moves.specs.Best.{all_known, best_moves}
use Rattle.pg_moves.specs.Lines.{moves_text}
use Rattle.pg_moves.specs.Trials.{AreTrials}
use Rattle.pg_moves.specs.declared.trial.Trial.{Trial}

module _ (Brings : Game → Budget → Outcome → Type 0) (budget : Budget) (json : Option Bytes) where
  -- each legal move was tried, and what is known of them is printed at once, with the best moves;
  -- where that fails, nothing is printed
  abbrev pub TellsMoves : Game → List Entry → End → Type 0
  TellsMoves g entries (Finished status) = (trials : List Trial) × AreTrials Brings budget g trials
      × (entries ≡ Said (moves_text json g.kind g.turn trials (best_moves g trials)) ∷ [])
      × (status ≡ (if all_known trials then DONE else UNKNOWN))
  TellsMoves g entries Failed = ⊥
  TellsMoves g entries Starved = ⊥

  -- the same of the game that was read
  abbrev pub Tells : Result GameEntry Halt → List Entry → End → Type 0
  Tells (Err halt) entries end = ⊥
  Tells (Ok e) entries end = (g : Game) × IsSaidBy e g × TellsMoves g entries end

  -- the moves of the game under the name are told, and nothing is stored
  abbrev pub ActsOn : Bytes → Holding → Done → End → Type 0
  ActsOn game held done end =
      Tells (game_held (held game)) done.entries end × (done.stored ≡ [])

  -- a run on the game under the name that ends with the status, where it is told what the names
  -- hold: its moves are told, or what stands against that is printed with its status
  abbrev pub MovesRan : Bytes → FilesTold → FilesTold → ConsoleTold → ConsoleTold → ℕ → Type 0
  MovesRan game files files' before after status = IfSome files.held (λ held. (done : Done)
      × (DeclinesGame held game done (ending status)
      ⊎ ActsOn game held done (ending status))
      × Changes held files' before after done (ending status))
