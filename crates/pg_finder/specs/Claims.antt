-- Claims that a search brings.
use Rattle.std.specs.Prelude.{◌≡◌, if◌then◌else◌, ⊤}
use Rattle.std.specs.List.{list_all}
use Rattle.pg_base.specs.declared.side.Side.{Side}
use Rattle.pg_base.specs.declared.side.Side.TheVariants.{X, Y}
use Rattle.pg_cert.specs.Limits.{IsClaim, IsOfVersion, has_body}
use Rattle.pg_cert.specs.declared.cert.Claim.{Claim}
use Rattle.pg_cert.specs.declared.cert.Version.{Version}
use Rattle.pg_cert.specs.declared.cert.Version.TheVariants.{One, Two}
use Rattle.pg_cert.specs.declared.node.Node.{Node}
use Rattle.pg_game.specs.declared.game.Game.{Game}
use Rattle.pg_solve.specs.Due.{heading, wins}
use Rattle.pg_finder.specs.declared.searching.Answer.{Answer}
use Rattle.pg_finder.specs.declared.searching.Answer.TheVariants.{No, Unknown, Yes}

-- the claim is that with the game's turn the side wins, and is within the limits of this version of
-- the format
pub record SaysWin (g : Game) (side : Side) (version : Version) (claim : Claim) : Type 0 where
  pub says : heading claim ≡ wins g.turn side
  pub limits : IsClaim claim
  pub bodies : IsOfVersion version claim

-- the least version of the format that has the bodies of the claim's nodes
abbrev pub least_version : Claim → Version
least_version claim =
    if list_all (λ (node : Node). has_body One node.body) claim.nodes then One else Two

-- a claim of the winner comes with an answer
abbrev pub IsAnswered : Game → Answer → Type 0
IsAnswered g (Yes version claim) = SaysWin g X version claim
IsAnswered g (No version claim) = SaysWin g Y version claim
IsAnswered g Unknown = ⊤
