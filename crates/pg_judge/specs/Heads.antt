-- What claims say before their nodes.
use Rattle.std.specs.Prelude.{List, [], ◌∷◌, length, map}
use Rattle.pg_judge.specs.Prelude.{Cert, Claim, Part}
use Rattle.pg_cert.specs.declared.part.Part.TheVariants as parts
use Rattle.pg_judge.specs.declared.claim_head.ClaimHead.{ClaimHead}

-- what a claim says before its nodes, and how many they are
abbrev pub head_of : Claim → ClaimHead
head_of claim = record {
  turn = claim.turn;
  side = claim.side;
  goal = claim.goal;
  nodes = length claim.nodes;
}

-- the same of each claim of a certificate, in order
abbrev pub heads_of : Cert → List ClaimHead
heads_of cert = map head_of cert.claims

-- what the claims among these parts say before their nodes
abbrev pub heads_in : List Part → List ClaimHead
heads_in [] = []
heads_in (parts.Claim turn side goal nodes ∷ others) = record {
  turn = turn;
  side = side;
  goal = goal;
  nodes = nodes;
} ∷ heads_in others
heads_in (parts.Node node ∷ others) = heads_in others
