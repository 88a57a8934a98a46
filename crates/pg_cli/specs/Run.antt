-- WHAT EACH COMMAND MAY DO, and what a run is.
use Rattle.std.specs.Prelude.{◌≡◌, ◌⊎◌, ℕ, [], ◌∷◌, Option, Some, None, Result, Err, IfSome}
use Rattle.pg_cli.specs.Prelude.{Rose, ConsoleTold, Grows, Holding, FilesTold, Said, refusal_status}
use Rattle.pg_cli.specs.Prelude.{refusal_text, Refusal, NoMeaning, WRITE_FAILED, Command, Solve}
use Rattle.pg_cli.specs.Prelude.{Check, Play, Gen, Report, OfFamily, Record, Review, Done, End}
use Rattle.pg_cli.specs.Prelude.{Finished, Failed, Starved, Changes, Follows, IsNothing, ending}
use Rattle.pg_cli.specs.Prelude.{stop_status, game_held, Runs, ActsInFamily, RefusesFamily, Records}
use Rattle.pg_cli.specs.Prelude.{RefusesReview, Reviews, Expanded, Halt, Refused, Stopped}
use Rattle.pg_cli.specs.Checking.{RefusesCheck, AcceptsAll}
use Rattle.pg_cli.specs.Generating.{Generates}
use Rattle.pg_cli.specs.Playing.{RefusesPlay, PlaysOn}
use Rattle.pg_cli.specs.Reading.{both_held}
use Rattle.pg_cli.specs.Reporting.{RefusesReport, Reports}
use Rattle.pg_cli.specs.Solving.{Solves}

-- this stands against the command, where the names hold these bytes
abbrev pub Refuses : Holding → Option Command → Refusal → Type 0
Refuses held (Some (Solve g c positions images)) refusal =
    game_held (held g) ≡ Err (Refused refusal)
Refuses held (Some (Check g c)) refusal = RefusesCheck (both_held (held g) (held c)) refusal
Refuses held (Some (Play g c side)) refusal = RefusesPlay side (both_held (held g) (held c)) refusal
Refuses held (Some (Report g c)) refusal = RefusesReport (both_held (held g) (held c)) refusal
Refuses held (Some (Gen which g c)) refusal = ⊥
Refuses held (Some (OfFamily family task g c)) refusal =
    RefusesFamily family task (held g) (held c) refusal
Refuses held (Some (Record g r)) refusal = game_held (held g) ≡ Err (Refused refusal)
Refuses held (Some (Review g r positions)) refusal = RefusesReview (held g) (held r) refusal
Refuses held None refusal = refusal ≡ NoMeaning

-- the command does what it is there for, and ends so
abbrev pub Acts : Holding → Option Command → Expanded → Done → End → Type 0
Acts held (Some (Solve g c (Some positions) images)) work done end =
    Solves images (game_held (held g)) c positions work done end
Acts held (Some (Check g c)) work done end =
    AcceptsAll (both_held (held g) (held c)) done.entries end × (done.stored ≡ [])
Acts held (Some (Play g c side)) work done end =
    PlaysOn side (both_held (held g) (held c)) done.entries end × (done.stored ≡ [])
Acts held (Some (Gen which g c)) work done end = Generates which g c work done end
Acts held (Some (Report g c)) work done end =
    Reports (both_held (held g) (held c)) done.entries end × (done.stored ≡ [])
Acts held (Some (OfFamily family task g c)) work done end =
    ActsInFamily family task (held g) (held c) c done end
Acts held (Some (Record g r)) work done end = Records (game_held (held g)) r done end
Acts held (Some (Review g r (Some positions))) work done end =
    Reviews (held g) (held r) positions work done end × (done.stored ≡ [])
Acts held _ work done end = ⊥

-- the command isn't carried out: what stands against it is said, with its status; where the run was
-- stopped, nothing was done
abbrev pub Declines : Holding → Option Command → Done → End → Type 0
Declines held command done (Finished status) = (refusal : Refusal) × Refuses held command refusal
    × (done.entries ≡ Said (refusal_text refusal) ∷ [])
    × (done.stored ≡ [])
    × (status ≡ refusal_status refusal)
Declines held command done Failed = IsNothing done
Declines held command done Starved = IsNothing done

abbrev pub Allows : Holding → Option Command → Expanded → Done → End → Type 0
Allows held command work done end = Declines held command done end ⊎ Acts held command work done end

-- a run on names that hold these bytes
abbrev pub RanOn : Holding
    → Option Command
    → Expanded
    → FilesTold
    → ConsoleTold
    → ConsoleTold
    → End
    → Type 0
RanOn held command work files before after end =
    (done : Done) × Allows held command work done end × Changes held files before after done end

-- a run that ends with the status, where it is told what the names hold
abbrev pub Ran : Option Command
    → Expanded
    → FilesTold
    → FilesTold
    → ConsoleTold
    → ConsoleTold
    → ℕ
    → Type 0
Ran command work files files' before after status =
    IfSome files.held (λ held. RanOn held command work files' before after (ending status))

-- ---- a run before its refusal is said

-- the command has acted; or what stands against it was found, and nothing was said yet; or it was
-- stopped, having acted so far or not begun
abbrev pub CarriesOn : Holding
    → Option Command
    → Expanded
    → FilesTold
    → ConsoleTold
    → ConsoleTold
    → Result ℕ Halt
    → Type 0
CarriesOn held command work files before after result =
    Follows (Refuses held command) (Acts held command work) held files before after result

-- the same where it is told what the names hold
abbrev pub Carries : Option Command
    → Expanded
    → FilesTold
    → FilesTold
    → ConsoleTold
    → ConsoleTold
    → Result ℕ Halt
    → Type 0
Carries command work files files' before after result = Runs (λ held. Refuses held command)
    (λ held. Acts held command work) files files' before after result
