-- The side that the program plays.
use Rattle.std.specs.Prelude.{Bool, Option, Some, None, find}
use Rattle.pg_duel.specs.Prelude.{Cert, Claim, Side, is_same_side, other}

-- whether the claim is from this turn
abbrev pub begins : Side → Claim → Bool
begins turn claim = is_same_side claim.turn turn

-- the claim's side; the side that doesn't begin where there is none
abbrev pub side_of_claim : Side → Option Claim → Side
side_of_claim turn None = other turn
side_of_claim turn (Some claim) = claim.side

-- the side that is asked for, or that of the first claim from the turn
abbrev pub side_by : Option Side → Side → Cert → Side
side_by (Some side) turn cert = side
side_by None turn cert = side_of_claim turn (find (begins turn) cert.claims)
