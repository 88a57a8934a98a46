-- When certificates of connectivity games are valid.
use Rattle.std.specs.Prelude.{◌≡◌, ◌<◌, ℕ, List, length, Option, Some, slice_get, slice_index}
use Rattle.pg_span.specs.Prelude.{All, FinSet, nat_cmp, Side, X, Y, edge_count, first_end_of}
use Rattle.pg_span.specs.Prelude.{second_end_of, Position, AreParts, AreJoiningTrees}
use Rattle.pg_span.specs.Game.{marks_at}
use Rattle.pg_span.specs.declared.cert.SpanBody.{SpanBody}
use Rattle.pg_span.specs.declared.cert.SpanBody.TheVariants.{Trees, Parts}
use Rattle.pg_span.specs.declared.cert.SpanCert.{SpanCert}
use Rattle.pg_span.specs.declared.cert.SpanClaim.{SpanClaim}
use Rattle.pg_span.specs.declared.cert.TheConstants.{PART_NUMBERS}
use Rattle.pg_span.specs.declared.flaw.SpanFlaw.{SpanFlaw}
use Rattle.pg_span.specs.declared.flaw.SpanFlaw.TheVariants as flaws
use Rattle.pg_span.specs.declared.game.SpanGame.{SpanGame}

-- trees of the game at a position
abbrev pub AreTreesOfGame : SpanGame
    → Position
    → Option ℕ
    → FinSet nat_cmp
    → FinSet nat_cmp
    → Type 0
AreTreesOfGame g p first a1 a2 = AreJoiningTrees (first_end_of g.graph) (second_end_of g.graph)
    (edge_count g.graph) g.graph.vertices p first a1 a2

-- a number for each vertex, which part the game at a position
abbrev pub ArePartsOfGame : SpanGame → Position → List ℕ → Type 0
ArePartsOfGame g p numbers = (length numbers ≡ g.graph.vertices)
    × AreParts (first_end_of g.graph) (second_end_of g.graph)
    (edge_count g.graph) g.graph.vertices PART_NUMBERS (slice_index numbers) p

-- trees are X's, and parts Y's; they hold at the position
abbrev pub IsBodyAt : SpanGame → Position → Side → SpanBody → Type 0
IsBodyAt g p side (Trees first a1 a2) = (side ≡ X) × AreTreesOfGame g p first a1 a2
IsBodyAt g p side (Parts numbers) = (side ≡ Y) × ArePartsOfGame g p numbers

-- the claim's body is its side's, and holds at the game's marks with the claim's turn
abbrev pub IsSpanClaimValid : SpanGame → SpanClaim → Type 0
IsSpanClaimValid g c = IsBodyAt g (marks_at g c.turn) c.side c.body

-- every claim is valid
abbrev pub IsSpanValid : SpanGame → SpanCert → Type 0
IsSpanValid g cert = All (IsSpanClaimValid g) cert.claims

-- the flaw of a body: it is the other side's; or else it doesn't hold
abbrev pub HasFlaw : SpanGame → Position → Side → SpanBody → SpanFlaw → Type 0
HasFlaw g p side (Trees first a1 a2) flaws.Side = side ≡ Y
HasFlaw g p side (Trees first a1 a2) flaws.Trees = (side ≡ X) × (AreTreesOfGame g p first a1 a2 → ⊥)
HasFlaw g p side (Trees first a1 a2) flaws.Parts = ⊥
HasFlaw g p side (Parts numbers) flaws.Side = side ≡ X
HasFlaw g p side (Parts numbers) flaws.Trees = ⊥
HasFlaw g p side (Parts numbers) flaws.Parts = (side ≡ Y) × (ArePartsOfGame g p numbers → ⊥)

-- the claims before are valid, and this one has the flaw
pub record IsFirstFlaw (g : SpanGame) (cert : SpanCert) (number : ℕ) (why : SpanFlaw) : Type 0 where
  pub claim : SpanClaim
  pub at : slice_get cert.claims number ≡ Some claim
  pub flaw : HasFlaw g (marks_at g claim.turn) claim.side claim.body why
  pub before : (k : ℕ) (c : SpanClaim)
      → k < number
      → slice_get cert.claims k ≡ Some c
      → IsSpanClaimValid g c
