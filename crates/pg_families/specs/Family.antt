-- What the commands of further families read, store and say, by family and task.
use Rattle.std.specs.Prelude.{◌≡◌, ℕ, [], ◌∷◌, List, Option, Some, Result, Ok, Err, ⊤}
use Rattle.pg_families.specs.Prelude.{Contains, Goal, Side, ConsoleTold, Grows, Bytes, Holding}
use Rattle.pg_families.specs.Prelude.{FilesTold, ReadsOnly, Entry, Said, ForcesBy, marks_at}
use Rattle.pg_families.specs.Prelude.{span_rules_of, SpanGame, at_turn, vector_rules, VecGame}
use Rattle.pg_families.specs.Prelude.{span_game, vector_game, span_entry, vector_entry}
use Rattle.pg_families.specs.Prelude.{accepted_text, claim_text, Refusal, DONE, NO_MEANING}
use Rattle.pg_families.specs.Prelude.{FAULTY_GAME, REFUSED, READ_FAILED, WRITE_FAILED, NO_MEMORY}
use Rattle.pg_families.specs.Prelude.{INPUT_ENDED, OUT_OF_REPLIES, Family, Connectivity, Vectors}
use Rattle.pg_families.specs.Prelude.{FamilyTask, Solve, Check, Play, Done, End, IsGameHalt}
use Rattle.pg_families.specs.Prelude.{IsReadHalt, IsPlayHalt, IsPlayEnd, lacking, StoresAt, Halt}
use Rattle.pg_families.specs.Prelude.{Refused}
use Rattle.pg_families.specs.Connectivity.{AcceptsSpans, AreSpansLacking, IsSpanLacking, PlaysSpan}
use Rattle.pg_families.specs.Connectivity.{RefusesSpanCheck, RefusesSpanPlay, SolvesSpan}
use Rattle.pg_families.specs.Connectivity.{span_both_held, span_held}
use Rattle.pg_families.specs.Vectors.{AcceptsVectors, AreVectorsLacking, IsVectorLacking}
use Rattle.pg_families.specs.Vectors.{PlaysVectors, RefusesVectorCheck, RefusesVectorPlay}
use Rattle.pg_families.specs.Vectors.{SolvesVectors, vectors_both_held, vectors_held}

-- this stands against the task, where the names of the game and the certificate hold these bytes
abbrev pub RefusesFamily : Family → FamilyTask → Option Bytes → Option Bytes → Refusal → Type 0
RefusesFamily Connectivity Solve g c refusal = span_held g ≡ Err (Refused refusal)
RefusesFamily Connectivity Check g c refusal = RefusesSpanCheck (span_both_held g c) refusal
RefusesFamily Connectivity (Play side) g c refusal =
    RefusesSpanPlay side (span_both_held g c) refusal
RefusesFamily Vectors Solve g c refusal = vectors_held g ≡ Err (Refused refusal)
RefusesFamily Vectors Check g c refusal = RefusesVectorCheck (vectors_both_held g c) refusal
RefusesFamily Vectors (Play side) g c refusal =
    RefusesVectorPlay side (vectors_both_held g c) refusal

-- the task is done, and ends so; a certificate that is made goes under the name
abbrev pub ActsInFamily : Family
    → FamilyTask
    → Option Bytes
    → Option Bytes
    → Bytes
    → Done
    → End
    → Type 0
ActsInFamily Connectivity Solve g c name done end = SolvesSpan (span_held g) name done end
ActsInFamily Connectivity Check g c name done end =
    AcceptsSpans (span_both_held g c) done.entries end × (done.stored ≡ [])
ActsInFamily Connectivity (Play side) g c name done end =
    PlaysSpan side (span_both_held g c) done.entries end × (done.stored ≡ [])
ActsInFamily Vectors Solve g c name done end = SolvesVectors (vectors_held g) name done end
ActsInFamily Vectors Check g c name done end =
    AcceptsVectors (vectors_both_held g c) done.entries end × (done.stored ≡ [])
ActsInFamily Vectors (Play side) g c name done end =
    PlaysVectors side (vectors_both_held g c) done.entries end × (done.stored ≡ [])

-- a name that is read for the task, in the order of its work, isn't held
abbrev pub LacksInFamily : Family → FamilyTask → Option Bytes → Option Bytes → Type 0
LacksInFamily Connectivity Solve g c = span_held g ≡ Err lacking
LacksInFamily Connectivity Check g c = span_both_held g c ≡ Err lacking
LacksInFamily Connectivity (Play side) g c = span_both_held g c ≡ Err lacking
LacksInFamily Vectors Solve g c = vectors_held g ≡ Err lacking
LacksInFamily Vectors Check g c = vectors_both_held g c ≡ Err lacking
LacksInFamily Vectors (Play side) g c = vectors_both_held g c ≡ Err lacking

-- the same where it is told what the names hold
abbrev pub IsLackingInFamily : Family → FamilyTask → Option Holding → Bytes → Bytes → Type 0
IsLackingInFamily Connectivity Solve h g c = IsSpanLacking h g
IsLackingInFamily Connectivity Check h g c = AreSpansLacking h g c
IsLackingInFamily Connectivity (Play side) h g c = AreSpansLacking h g c
IsLackingInFamily Vectors Solve h g c = IsVectorLacking h g
IsLackingInFamily Vectors Check h g c = AreVectorsLacking h g c
IsLackingInFamily Vectors (Play side) h g c = AreVectorsLacking h g c

-- the files are only read, or something is stored under the certificate's name alone
abbrev pub LeavesFamilyFiles : FamilyTask → Bytes → FilesTold → FilesTold → Type 0
LeavesFamilyFiles Solve c before after = StoresAt (c ∷ []) before after
LeavesFamilyFiles Check c before after = ReadsOnly before after
LeavesFamilyFiles (Play side) c before after = ReadsOnly before after

-- the statuses with which a task may end
abbrev pub statuses_in_family : FamilyTask → List ℕ
statuses_in_family Solve = DONE ∷ FAULTY_GAME ∷ READ_FAILED ∷ WRITE_FAILED ∷ NO_MEMORY ∷ []
statuses_in_family Check =
    DONE ∷ FAULTY_GAME ∷ REFUSED ∷ READ_FAILED ∷ WRITE_FAILED ∷ NO_MEMORY ∷ []
statuses_in_family (Play side) = DONE ∷ NO_MEANING ∷ FAULTY_GAME ∷ REFUSED ∷ READ_FAILED
    ∷ WRITE_FAILED ∷ NO_MEMORY ∷ INPUT_ENDED ∷ OUT_OF_REPLIES ∷ []

-- where a task is done or ends early, so it may end
abbrev pub GivesInFamily : FamilyTask → Result ℕ Halt → Type 0
GivesInFamily Solve (Ok status) = status ≡ DONE
GivesInFamily Solve (Err halt) = IsGameHalt halt
GivesInFamily Check (Ok status) = status ≡ DONE
GivesInFamily Check (Err halt) = IsReadHalt halt
GivesInFamily (Play side) (Ok status) = IsPlayEnd status
GivesInFamily (Play side) (Err halt) = IsPlayHalt halt

-- what is said where a read has failed: nothing, but in play
abbrev pub QuietAtReadInFamily : FamilyTask → ConsoleTold → ConsoleTold → Type 0
QuietAtReadInFamily Solve before after = Grows before.log after.log []
QuietAtReadInFamily Check before after = Grows before.log after.log []
QuietAtReadInFamily (Play side) before after = ⊤

-- ---- what it means that a claim is accepted, or played

-- these bytes say this game
pub record SaysSpanGame (bytes : Option Bytes) (g : SpanGame) : Type 0 where
  pub text : Bytes
  pub held : bytes ≡ Some text
  pub said : span_game text ≡ Ok (span_entry g)

pub record SaysVectorGame (bytes : Option Bytes) (g : VecGame) : Type 0 where
  pub text : Bytes
  pub held : bytes ≡ Some text
  pub said : vector_game text ≡ Ok (vector_entry g)

-- these bytes say a game of the family, and the side forces the goal from its marks with this turn
abbrev pub IsForcedInFamilyFrom : Family → Option Bytes → Side → Side → Goal → Type 0
IsForcedInFamilyFrom Connectivity bytes turn side goal =
    (g : SpanGame) × SaysSpanGame bytes g × ForcesBy (span_rules_of g) (marks_at g turn) side goal
IsForcedInFamilyFrom Vectors bytes turn side goal =
    (g : VecGame) × SaysVectorGame bytes g × ForcesBy (vector_rules g) (at_turn g turn) side goal

-- the same from its position
abbrev pub IsForcedInFamily : Family → Option Bytes → Side → Goal → Type 0
IsForcedInFamily Connectivity bytes side goal =
    (g : SpanGame) × SaysSpanGame bytes g × ForcesBy (span_rules_of g) (marks_at g g.turn) side goal
IsForcedInFamily Vectors bytes side goal =
    (g : VecGame) × SaysVectorGame bytes g × ForcesBy (vector_rules g) (at_turn g g.turn) side goal

-- each claim that is accepted among what was said is forced so from its turn, and each that is
-- played is forced so
pub record AreForcedBy (From : Side → Side → Goal → Type 0) (Here : Side → Goal → Type 0)
    (entries : List Entry) : Type 0 where
  pub accepted : (turn side : Side) (goal : Goal)
      → Contains entries (Said (accepted_text turn side goal))
      → From turn side goal
  pub claimed : (side : Side) (goal : Goal)
      → Contains entries (Said (claim_text side goal))
      → Here side goal

-- each is forced in the game of the family that these bytes say
abbrev pub AreForcedInFamily : Family → Option Bytes → List Entry → Type 0
AreForcedInFamily family bytes entries =
    AreForcedBy (IsForcedInFamilyFrom family bytes) (IsForcedInFamily family bytes) entries
