-- A RUN OF `posgame-settle`.
use Rattle.std.specs.Prelude.{◌≡◌, ℕ, [], ◌∷◌, Option, Some, None}
use Rattle.std.specs.List.{Contains}
use Rattle.pg_io.specs.Files.{Bytes, ReadsOnly}
use Rattle.pg_finder.specs.Findings.{IsFound}
use Rattle.pg_game.specs.declared.game.Game.{Game}
use Rattle.pg_messages.specs.declared.statuses.TheConstants.{NO_MEANING}
use Rattle.pg_moves.specs.MoveRuns.{MovesRan}
use Rattle.pg_results.specs.GameRuns.{IsSilent, game_statuses}
use Rattle.pg_settle.specs.JsonLines.{json_name}
use Rattle.pg_settle.specs.Runs.{AnnouncesValue, Ran}
use Rattle.pg_settle.specs.Settling.{form_of}
use Rattle.pg_settle.specs.declared.budget.Budget.{Budget}
use Rattle.pg_settle.specs.declared.finding.Outcome.{Outcome}
use Rattle.pg_talk.specs.Halts.{HasCause}
use Rattle.pg_talk.specs.Opening.{IsGameLacking}
use Rattle.pg_talk.specs.Storing.{StoresAt}
use Rattle.pg_answering.specs.Machine.{Told}
use Rattle.pg_answering.specs.Tasks.{Task}
use Rattle.pg_answering.specs.Tasks.Task.{OfGame, OfMoves}
use Rattle.pg_answering.specs.declared.tasks.Wishes.{Wishes}

-- what the finder may bring
abbrev pub brings : Game → Budget → Outcome → Type 0
brings g budget outcome = IsFound g budget outcome.finding

-- the game under the name is settled, with the certificate under the other: each clause of `settle`
-- of `pg_settle` holds
pub record SettlesGame (game certificate : Bytes) (w : Wishes) (before after : Told)
    (status : ℕ) : Type 0 where
  pub ran : Ran brings (form_of w.images w.json game) game certificate w.budget
      before.files after.files before.console after.console status
  pub forced : AnnouncesValue before.files.held game before.console.log after.console.log
  pub silent : IsSilent before.console after.console status
  pub statuses : Contains game_statuses status
  pub files : StoresAt (certificate ∷ []) before.files after.files
  pub causes : HasCause (IsGameLacking before.files.held game) before.files after.files
      before.console after.console status

-- the moves of the game under the name are tried: each clause of `settle_moves` of `pg_moves` holds
pub record TriesMoves (game : Bytes) (w : Wishes) (before after : Told)
    (status : ℕ) : Type 0 where
  pub ran : MovesRan brings w.budget (json_name w.json game) game
      before.files after.files before.console after.console status
  pub silent : IsSilent before.console after.console status
  pub statuses : Contains game_statuses status
  pub files : ReadsOnly before.files after.files
  pub causes : HasCause (IsGameLacking before.files.held game) before.files after.files
      before.console after.console status

-- arguments without a meaning: nothing is done
pub record IsUnmeant (before after : Told) (status : ℕ) : Type 0 where
  pub state : after ≡ before
  pub refused : status ≡ NO_MEANING

-- a run that does this task takes files and console from the first state to the second, and ends
-- with this status
abbrev pub DoesTask : Option Task → Told → Told → ℕ → Type 0
DoesTask (Some (OfGame game certificate w)) before after status =
    SettlesGame game certificate w before after status
DoesTask (Some (OfMoves game w)) before after status = TriesMoves game w before after status
DoesTask None before after status = IsUnmeant before after status
