-- What a search may find.
use Rattle.std.specs.Prelude.{◌≡◌, Bool, true, false}
use Rattle.pg_zone_proofs.specs.Prelude.{Claim, Game, IsClaim, IsOfVersion, Settled, Two, Win}
use Rattle.pg_zone_proofs.specs.Prelude.{claimer}
use Rattle.pg_dfpn.specs.declared.settling.Settled.TheVariants.{Yes, No, Unknown}

-- the claim says that the side which the answer is for wins, and is within the limits of version 2
-- of the format
pub record IsClaimFor (g : Game) (answer : Bool) (c : Claim) : Type 0 where
  pub turn : c.turn ≡ g.turn
  pub side : c.side ≡ claimer answer
  pub goal : c.goal ≡ Win
  pub limits : IsClaim c
  pub version : IsOfVersion Two c

-- a claim comes with an answer
abbrev pub IsSettled : Game → Settled → Type 0
IsSettled g (Yes c) = IsClaimFor g true c
IsSettled g (No c) = IsClaimFor g false c
IsSettled g Unknown = Unit {0}
