-- What playing a game against the program does.
use Rattle.std.specs.Prelude.{◌≡◌, ◌⊎◌, ℕ, List, Option, Some, None, Result, Ok, Err, IfSome}
use Rattle.pg_duel.specs.Prelude.{Begins, Bytes, Cert, Claim, ConsoleTold, DONE, Done, End, Event}
use Rattle.pg_duel.specs.Prelude.{Evidence, FilesTold, FollowsOn, Game, Halt, Holding, IsLackingTwo}
use Rattle.pg_duel.specs.Prelude.{IsSaidBy, IsValid, Look, NoClaim, OpensTwo, PlaysLog, Refusal}
use Rattle.pg_duel.specs.Prelude.{Refused, RejectsEvidence, Side, Sitting, StandsFor, both}
use Rattle.pg_duel.specs.Prelude.{chosen_claim, entry, evidence_held, game_held, turned_to}
use Rattle.pg_files.specs.GameFile.{Entry as GameEntry}
use Rattle.pg_talk.specs.Halts.{IsPlayHalt}
use Rattle.pg_duel.specs.DuelLog.{Closes, Holds, Shows, Stage, Steps}
use Rattle.pg_duel.specs.Sides.{side_by}

-- ---- what was read

-- the game and the certificate that two names hold, or what stands against the first of them
abbrev pub both_held : Option Bytes → Option Bytes → Result (GameEntry × Evidence) Halt
both_held game_bytes certificate_bytes =
    both (game_held game_bytes) (evidence_held certificate_bytes)

-- a game and a certificate, with the game as its file says it
abbrev pub pair_entry : Game × Evidence → GameEntry × Evidence
pair_entry pair = (entry pair.0, pair.1)

-- if it is told what the names hold, this is what they say
abbrev pub OpensBoth : Option Holding → Bytes → Bytes → Result (Game × Evidence) Halt → Type 0
OpensBoth h g c r = OpensTwo pair_entry both_held h g c r

-- it is told that a name that is wanted isn't held
abbrev pub AreLacking : Option Holding → Bytes → Bytes → Type 0
AreLacking h g c = IsLackingTwo both_held h g c

-- ---- what stands against it

-- the certificate for which it stands is valid and has no claim of the side from the turn
abbrev pub LacksClaim : Option Side → Game → Evidence → Refusal → Type 0
LacksClaim asked g e refusal = (cert : Cert) × StandsFor g e cert
    × IsValid g cert
    × (chosen_claim g cert (side_by asked g.turn cert) ≡ None)
    × (refusal ≡ NoClaim (side_by asked g.turn cert))

-- the certificate is rejected, or has no claim of the side
abbrev pub RefusesBy : Option Side → Game → Evidence → Refusal → Type 0
RefusesBy asked g e refusal = RejectsEvidence g e refusal ⊎ LacksClaim asked g e refusal

-- the same of what was read, with the side that begins
abbrev pub Refuses : Option Side
    → Option Side
    → Result (GameEntry × Evidence) Halt
    → Refusal
    → Type 0
Refuses turn asked (Err halt) refusal = halt ≡ Refused refusal
Refuses turn asked (Ok pair) refusal =
    (g : Game) × IsSaidBy pair.0 g × RefusesBy asked (turned_to g turn) pair.1 refusal

-- ---- what is done

-- the log is whole at this stage, these events were played, and the claim is held
abbrev pub EndsWith : Game → Claim → Stage Sitting → List Event → Type 0
EndsWith g c stage events = (final : Sitting) × (stage ≡ Closes final) × (events ≡ final.events)
    × Holds g c final

-- a game that began so is played: its log is whole and its record stored. If a call fails or memory
-- runs out, the log has begun and nothing was stored, or the log is whole and storing was stopped
abbrev pub PlaysSeat : Look → Game → Claim → Sitting → Option Bytes → Done → End → Type 0
PlaysSeat look g c s path = PlaysLog (Steps look g c) (Shows s 0) (EndsWith g c) g path

-- the certificate for which it stands is valid, and the game is played by the claim of the side
abbrev pub PlaysBy : Look → Option Side → Game → Evidence → Option Bytes → Done → End → Type 0
PlaysBy look asked g e path done end = (cert : Cert) × (c : Claim) × (s : Sitting)
    × StandsFor g e cert
    × IsValid g cert
    × (chosen_claim g cert (side_by asked g.turn cert) ≡ Some c)
    × Begins g c s
    × PlaysSeat look g c s path done end

-- the same of what was read, with the side that begins
abbrev pub Duels : Look
    → Option Side
    → Option Side
    → Result (GameEntry × Evidence) Halt
    → Option Bytes
    → Done
    → End
    → Type 0
Duels look turn asked (Err halt) path done end = ⊥
Duels look turn asked (Ok pair) path done end = (g : Game) × IsSaidBy pair.0 g
    × PlaysBy look asked (turned_to g turn) pair.1 path done end

-- ---- how it ends

-- work that acts or refuses, if it is told what the names hold
abbrev pub RunsOn : (Refusal → Type 0)
    → (Done → End → Type 0)
    → FilesTold
    → FilesTold
    → ConsoleTold
    → ConsoleTold
    → Result ℕ Halt
    → Type 0
RunsOn Against Act files files' before after result =
    IfSome files.held (λ held. FollowsOn Against Act held files' before after result)

abbrev pub GivesDuel : Result ℕ Halt → Type 0
GivesDuel (Ok status) = status ≡ DONE
GivesDuel (Err halt) = IsPlayHalt halt
