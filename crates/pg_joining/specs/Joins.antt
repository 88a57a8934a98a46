-- WHAT A RUN IS.
use Rattle.std.specs.Prelude.{◌≡◌, ◌≢◌, ◌⊎◌, ℕ, List, [], ◌∷◌, Ok, IfSome}
use Rattle.pg_joining.specs.Prelude.{Allows, Budget, Bytes, Changes, ConsoleTold, Done, End}
use Rattle.pg_joining.specs.Prelude.{Failed, FilesTold, Finished, Form, Game, Holding, Need}
use Rattle.pg_joining.specs.Prelude.{Outcome, Place, Said, Starved, UNKNOWN, behind, ending}
use Rattle.pg_joining.specs.Prelude.{needs_text, talk}
use Rattle.pg_join.specs.Brought.{IsJoined}
use Rattle.pg_joining.specs.Plans.{DeclinesPlan, IsPlanRead, plan_in}

-- what may come of joining: with no position expanded anything of few enough nodes, since it isn't
-- trusted
abbrev pub MayCome : Game → Budget → Outcome → Type 0
MayCome g budget outcome = IsJoined budget outcome

module _ (form : Form) (game name : Bytes) (budget : Budget) where
  -- the game is settled by what comes of joining, or what stands against that is printed
  abbrev pub Settled : Holding → Done → End → Type 0
  Settled held done end = Allows MayCome form held game name budget done end

  -- the game stays open, which is printed, and then the positions are printed that are needed
  abbrev pub TellsNeeds : Holding → Done → Type 0
  TellsNeeds held done = (first : Done) × Settled held first (Finished UNKNOWN)
      × (needs : List Need) × (done ≡ behind first (talk (Said (needs_text needs) ∷ [])))

  -- what joining does by a plan; if printing fails, the positions that are needed may be missing
  abbrev pub Joins : Holding → Done → End → Type 0
  Joins held done (Finished status) =
      ((status ≢ UNKNOWN) × Settled held done (Finished status))
      ⊎ ((status ≡ UNKNOWN) × TellsNeeds held done)
  Joins held done Failed = Settled held done Failed ⊎ Settled held done (Finished UNKNOWN)
  Joins held done Starved = Settled held done Starved

  -- a run by a plan that ends with the status, where it is told what the names hold
  abbrev pub JoinedBy : FilesTold → FilesTold → ConsoleTold → ConsoleTold → ℕ → Type 0
  JoinedBy files files' before after status = IfSome files.held (λ held. (done : Done)
      × Joins held done (ending status)
      × Changes held files' before after done (ending status))

  -- the folder has a plan by which the certificates are joined, or what stands against that is
  -- printed
  abbrev pub JoinsIn : Bytes → Holding → Done → End → Type 0
  JoinsIn folder held done end = DeclinesPlan held folder done end
      ⊎ ((places : List Place) × IsPlanRead (held (plan_in folder)) (Ok places)
      × Joins held done end)

  -- a run that ends with the status, where it is told what the names hold
  abbrev pub JoinRan : Bytes → FilesTold → FilesTold → ConsoleTold → ConsoleTold → ℕ → Type 0
  JoinRan folder files files' before after status = IfSome files.held (λ held. (done : Done)
      × JoinsIn folder held done (ending status)
      × Changes held files' before after done (ending status))
