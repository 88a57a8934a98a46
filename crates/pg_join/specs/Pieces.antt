-- What is found under the name of a certificate, and what its claims say.
use Rattle.std.specs.Prelude.{◌≡◌, ℕ, true, List, Some, slice_get, ⊤}
use Rattle.pg_base.specs.declared.score.Score.{Score}
use Rattle.pg_base.specs.declared.side.Side.{Side}
use Rattle.pg_cert.specs.Limits.{IsWithinLimits}
use Rattle.pg_cert.specs.declared.cert.Claim.{Claim}
use Rattle.pg_game.specs.Value.{reaches}
use Rattle.pg_join.specs.declared.folder.Found.{Found}
use Rattle.pg_join.specs.declared.folder.Found.TheVariants.{Certificate, Faulty, Missing}

-- a certificate that was found is within the limits of the format
abbrev pub IsFound : Found → Type 0
IsFound Missing = ⊤
IsFound Faulty = ⊤
IsFound (Certificate c) = IsWithinLimits c

-- the score reaches the goal of each claim with this turn
abbrev pub AreReached : List Claim → Side → Score → Type 0
AreReached claims turn v = (i : ℕ) (claim : Claim) → slice_get claims i ≡ Some claim
    → claim.turn ≡ turn
    → reaches claim.side claim.goal v ≡ true
