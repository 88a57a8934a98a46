-- What a check says.
use Rattle.std.specs.Prelude.{◌≡◌, List, map, Result, Ok, Err}
use Rattle.pg_cli.specs.Prelude.{Bytes, Entry, Game, IsValid, Cert, Claim, ClaimHead, accepted_text}
use Rattle.pg_cli.specs.Prelude.{Refusal, RejectsEvidence, StandsFor, Evidence, End, SaysAll}
use Rattle.pg_cli.specs.Prelude.{IsSaidBy, Halt, Refused}
use Rattle.pg_files.specs.GameFile.{Entry as GameEntry}

-- the text that accepts a claim
abbrev pub acceptance : Claim → Bytes
acceptance claim = accepted_text claim.turn claim.side claim.goal

-- the same by what a claim says before its nodes
abbrev pub head_acceptance : ClaimHead → Bytes
head_acceptance head = accepted_text head.turn head.side head.goal

-- what stands against a check of what was read: a fault of a file, or the certificate is rejected
abbrev pub RefusesCheck : Result (GameEntry × Evidence) Halt → Refusal → Type 0
RefusesCheck (Err halt) refusal = halt ≡ Refused refusal
RefusesCheck (Ok pair) refusal = (g : Game) × IsSaidBy pair.0 g × RejectsEvidence g pair.1 refusal

-- the certificate for which it stands is valid, and each of its claims is accepted in order
abbrev pub AcceptsAll : Result (GameEntry × Evidence) Halt → List Entry → End → Type 0
AcceptsAll (Err halt) entries end = ⊥
AcceptsAll (Ok pair) entries end = (g : Game) × (c : Cert) × IsSaidBy pair.0 g
    × StandsFor g pair.1 c
    × IsValid g c
    × SaysAll (map acceptance c.claims) entries end
