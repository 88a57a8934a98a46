-- What a search may find.
use Rattle.std.specs.Prelude.{◌≡◌, Bool, true, false}
use Rattle.pg_dfpn.specs.Prelude.{Claim, Game, IsClaim, IsOfVersion, One, Score, claimed_goal}
use Rattle.pg_dfpn.specs.Prelude.{claimer}
use Rattle.pg_dfpn.specs.declared.settling.Settled.{Settled}
use Rattle.pg_dfpn.specs.declared.settling.Settled.TheVariants.{Yes, No, Unknown}

-- the claim says the answer, and is within the limits of version 1 of the format
pub record IsClaimFor (g : Game) (t : Score) (answer : Bool) (c : Claim) : Type 0 where
  pub turn : c.turn ≡ g.turn
  pub side : c.side ≡ claimer answer
  pub goal : c.goal ≡ claimed_goal g.kind t answer
  pub limits : IsClaim c
  pub version : IsOfVersion One c

-- a claim comes with an answer
abbrev pub IsSettled : Game → Score → Settled → Type 0
IsSettled g t (Yes c) = IsClaimFor g t true c
IsSettled g t (No c) = IsClaimFor g t false c
IsSettled g t Unknown = Unit {0}
