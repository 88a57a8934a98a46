-- What a play says.
use Rattle.std.specs.Prelude.{◌≡◌, ◌⊎◌, List, Some, None, Result, Ok, Err}
use Rattle.pg_cli.specs.Prelude.{Side, Entry, start, Game, IsValid, Cert, Claim, chosen_claim}
use Rattle.pg_cli.specs.Prelude.{Refusal, NoClaim, RejectsEvidence, StandsFor, Evidence, Contender}
use Rattle.pg_cli.specs.Prelude.{contender_of, End, IsPlay, IsSaidBy, Halt, Refused}
use Rattle.pg_files.specs.GameFile.{Entry as GameEntry}

-- the certificate for which it stands is valid and has no claim of the side with the game's turn
abbrev pub LacksClaim : Game → Evidence → Side → Refusal → Type 0
LacksClaim g e side refusal = (c : Cert) × StandsFor g e c
    × IsValid g c
    × (chosen_claim g c side ≡ None)
    × (refusal ≡ NoClaim side)

-- what stands against a play by what was read: a fault of a file, or the certificate is rejected,
-- or it has no claim of the side
abbrev pub RefusesPlay : Side → Result (GameEntry × Evidence) Halt → Refusal → Type 0
RefusesPlay side (Err halt) refusal = halt ≡ Refused refusal
RefusesPlay side (Ok pair) refusal = (g : Game) × IsSaidBy pair.0 g
    × (RejectsEvidence g pair.1 refusal ⊎ LacksClaim g pair.1 side refusal)

-- a side is played by this claim on this game, which were read: the certificate for which it stands
-- is valid
abbrev pub IsPlayedBy : Side → Result (GameEntry × Evidence) Halt → Game → Claim → Type 0
IsPlayedBy side (Err halt) g claim = ⊥
IsPlayedBy side (Ok pair) g claim = (c : Cert) × IsSaidBy pair.0 g
    × StandsFor g pair.1 c
    × IsValid g c
    × (chosen_claim g c side ≡ Some claim)

-- what is seen of the player by the claim, at the game's position
abbrev pub claimer : Game → Claim → Contender
claimer g claim = contender_of g claim.side claim.goal (start g)

-- the side is played by a claim of what was read
abbrev pub PlaysOn : Side → Result (GameEntry × Evidence) Halt → List Entry → End → Type 0
PlaysOn side read entries end = (g : Game) × (claim : Claim) × IsPlayedBy side read g claim
    × IsPlay (claimer g claim) entries end
