-- What comes of a game, by what its folder contains.
use Rattle.std.specs.Prelude.{◌≡◌, ◌≤◌, ◌⊎◌, ℕ, List, [], Option, Some, Err, Ok, IfSome, codes}
use Rattle.std.specs.Prelude.{vec_len}
use Rattle.pg_game.specs.declared.game.Game.{Game}
use Rattle.pg_io.specs.Causes.{Rose}
use Rattle.pg_io.specs.Files.{Bytes, FilesTold, Holding, IsAbsent}
use Rattle.pg_plan.specs.Names.{name_in}
use Rattle.pg_plan.specs.PlanFile.{plan_of}
use Rattle.pg_plan.specs.Views.{number_of}
use Rattle.pg_plan.specs.declared.fault.Fault.{Fault}
use Rattle.pg_plan.specs.declared.place.Place.{Place}
use Rattle.pg_split.specs.Pieces.{IsRefinedFrom, IsSplitOf}
use Rattle.pg_split.specs.declared.numbering.Split.{Split}
use Rattle.pg_split.specs.declared.splitting.TheConstants.{FIRST_FILE}
use Rattle.pg_splitting.specs.Looking.{IsMissing}
use Rattle.pg_splitting.specs.declared.preparing.Decline.{Decline}
use Rattle.pg_splitting.specs.declared.preparing.Decline.TheVariants.{FaultyPlan, NoPlan, OtherPlan}
use Rattle.pg_splitting.specs.declared.preparing.Prepared.{Prepared}
use Rattle.pg_splitting.specs.declared.preparing.Prepared.TheVariants as prepared

-- the name of the plan in a folder
abbrev pub plan_in : Bytes → Bytes
plan_in folder = name_in folder (codes "plan")

-- where it is told what the names hold, the folder's plan has these positions
abbrev pub HasPlaces : Option Holding → Bytes → List Place → Type 0
HasPlaces told folder places = IfSome told (λ held. (text : Bytes)
    × (held (plan_in folder) ≡ Some text)
    × (plan_of text ≡ Ok places))

-- where it is told what the names hold, the folder's plan has this fault
abbrev pub HasFault : Option Holding → Bytes → ℕ → ℕ → Type 0
HasFault told folder number line = IfSome told (λ held. (text : Bytes) × (fault : Fault × ℕ)
    × (held (plan_in folder) ≡ Some text)
    × (plan_of text ≡ Err fault)
    × (number ≡ number_of fault.0)
    × (line ≡ fault.1))

-- the plan of the folder was refined
pub record IsAgain (told : Option Holding) (folder : Bytes) (g : Game)
    (split : Split) : Type 0 where
  pub places : List Place
  pub has : HasPlaces told folder places
  pub refined : IsRefinedFrom g places split

-- a game is split into at most so many positions: by itself if the folder has no plan, or has lost
-- it; else by the plan, whose files keep their numbers
abbrev pub IsPreparedAs : Bytes → ℕ → Game → Option Holding → Type 0 → Split → Type 0
IsPreparedAs folder most g told lost split = (vec_len split.pieces ≤ most)
    × (((IsAbsent told (plan_in folder) ⊎ lost) × IsSplitOf g [] FIRST_FILE split)
    ⊎ IsAgain told folder g split)

-- a game is split by itself into at most so many positions; or there is no plan for it
abbrev pub IsSplitFirst : ℕ → Game → Prepared → Type 0
IsSplitFirst most g (prepared.Split split) =
    (vec_len split.pieces ≤ most) × IsSplitOf g [] FIRST_FILE split
IsSplitFirst most g (prepared.Declined decline) = decline ≡ NoPlan

-- positions of a plan are split further, into at most so many; or it isn't that of the game
abbrev pub IsSplitAgain : ℕ → Game → List Place → Prepared → Type 0
IsSplitAgain most g places (prepared.Split split) =
    (vec_len split.pieces ≤ most) × IsRefinedFrom g places split
IsSplitAgain most g places (prepared.Declined decline) = decline ≡ OtherPlan

-- why a game isn't split: by the plan that the folder has, or if it has none, or has lost it
abbrev pub IsDeclined : Bytes → FilesTold → FilesTold → Decline → Type 0
IsDeclined folder files files' (FaultyPlan number line) = HasFault files.held folder number line
IsDeclined folder files files' OtherPlan =
    (places : List Place) × HasPlaces files.held folder places
IsDeclined folder files files' NoPlan = IsMissing files files' (plan_in folder)

abbrev pub IsPrepared : Bytes → ℕ → Game → FilesTold → FilesTold → Prepared → Type 0
IsPrepared folder most g files files' (prepared.Split split) =
    IsPreparedAs folder most g files.held (Rose files.faults.reads files'.faults.reads) split
IsPrepared folder most g files files' (prepared.Declined decline) =
    IsDeclined folder files files' decline
