-- What checks and plays of a family's games say, whatever the family is: by how a game is said,
-- which certificates are valid and what stands against the others.
use Rattle.std.specs.Prelude.{◌≡◌, ◌⊎◌, List, Result, Ok, Err}
use Rattle.pg_families.specs.Prelude.{Side, Bytes, Entry, Refusal, NoClaim, Contender, End, IsPlay}
use Rattle.pg_families.specs.Prelude.{SaysAll, Halt, Refused}

-- what stands against a check of what was read: a fault of a file, or the certificate is rejected
abbrev pub RefusesChecked : {G E C : Type 0}
    → (G → E)
    → (G → C → Refusal → Type 0)
    → Result (E × C) Halt
    → Refusal
    → Type 0
RefusesChecked entry Rejects (Err halt) refusal = halt ≡ Refused refusal
RefusesChecked {G} entry Rejects (Ok pair) refusal =
    (g : G) × (entry g ≡ pair.0) × Rejects g pair.1 refusal

-- the certificate is valid, and each of its claims is accepted in order
abbrev pub AcceptsValid : {G E C : Type 0}
    → (G → E)
    → (G → C → Type 0)
    → (C → List Bytes)
    → Result (E × C) Halt
    → List Entry
    → End
    → Type 0
AcceptsValid entry IsValid acceptances (Err halt) entries end = ⊥
AcceptsValid {G} entry IsValid acceptances (Ok pair) entries end =
    (g : G) × (entry g ≡ pair.0) × IsValid g pair.1 × SaysAll (acceptances pair.1) entries end

-- what stands against a play: what stands against a check, or the valid certificate has no claim of
-- the side with the game's turn
abbrev pub RefusesPlayed : {G E C : Type 0}
    → (G → E)
    → (G → C → Type 0)
    → (G → C → Refusal → Type 0)
    → (G → C → Type 0)
    → Side
    → Result (E × C) Halt
    → Refusal
    → Type 0
RefusesPlayed entry IsValid Rejects Lacks side (Err halt) refusal = halt ≡ Refused refusal
RefusesPlayed {G} entry IsValid Rejects Lacks side (Ok pair) refusal = (g : G) × (entry g ≡ pair.0)
    × (Rejects g pair.1 refusal ⊎ (IsValid g pair.1 × Lacks g pair.1 × (refusal ≡ NoClaim side)))

-- the certificate is valid and has such a claim; that is said, and the side is played
abbrev pub PlaysValid : {G E C : Type 0}
    → (G → E)
    → (G → C → Type 0)
    → (G → C → Type 0)
    → (G → Contender)
    → Result (E × C) Halt
    → List Entry
    → End
    → Type 0
PlaysValid entry IsValid Has player (Err halt) entries end = ⊥
PlaysValid {G} entry IsValid Has player (Ok pair) entries end =
    (g : G) × (entry g ≡ pair.0) × IsValid g pair.1 × Has g pair.1 × IsPlay (player g) entries end
