-- How a run ends.
use Rattle.std.proofs.Common.{◌≡◌, ℕ, Ok, Err}
use Rattle.pg_settle.proofs.Common.{Bytes, ConsoleTold, Done, End, Ends, FilesTold, Finished, Game}
use Rattle.pg_settle.proofs.Common.{Halt, Holding, ending, game_held}
use Rattle.pg_settle.specs.Settling.{Form}
use Rattle.pg_settle.specs.Runs.{Carries, Ran, Settles}
use Rattle.pg_settle.specs.declared.budget.Budget.{Budget}
use Rattle.pg_settle.specs.declared.finding.Outcome.{Outcome}
use Rattle.pg_results.proofs.GameRuns.{acted_done, acted_early}

module _ (Brings : Game → Budget → Outcome → Type 0) (form : Form) (game name : Bytes)
    (budget : Budget) (files files' : FilesTold) where
  abbrev Act : Holding → Done → End → Type 0
  Act held = Settles Brings form (game_held (held game)) name budget

  pub ran_done : (before after : ConsoleTold) (status : ℕ)
      → ending status ≡ Finished status
      → Carries Brings form game name budget files files' before after (Ok status)
      → Ran Brings form game name budget files files' before after status
  ran_done before after status own carries =
      acted_done Act game files files' before after status own carries

  pub ran_early : (before mid after : ConsoleTold) (halt : Halt) (status : ℕ)
      → Carries Brings form game name budget files files' before mid (Err halt)
      → Ends halt mid after status
      → Ran Brings form game name budget files files' before after status
  ran_early before mid after halt status carries ends =
      acted_early Act game files files' before mid after halt status carries ends
