-- Who wins a connectivity game, and the certificate that shows it.
use Rattle.std.specs.Prelude.{◌≡◌, ◌<◌, ℕ, List, [], ◌∷◌, Option, Some, None, ⊤}
use Rattle.pg_span.specs.Prelude.{FinSet, All, nat_cmp, Side, X, Y}
use Rattle.pg_game.specs.Class.{Class as Named}
use Rattle.pg_game.specs.Class.Class.{Short as ForShort, Cut as ForCut, First as ForFirst}
use Rattle.pg_span.specs.Game.{marks_at}
use Rattle.pg_span.specs.Valid.{AreTreesOfGame, ArePartsOfGame}
use Rattle.pg_span.specs.declared.cert.SpanBody.{SpanBody}
use Rattle.pg_span.specs.declared.cert.SpanBody.TheVariants.{Trees, Parts}
use Rattle.pg_span.specs.declared.cert.SpanClaim.{SpanClaim}
use Rattle.pg_span.specs.declared.game.SpanGame.{SpanGame}
use Rattle.pg_span.specs.declared.solved.Solved.{Solved}
use Rattle.pg_span.specs.declared.solved.Solved.TheVariants as solved
use Rattle.pg_span.specs.declared.solved.SpanClass.{SpanClass}
use Rattle.pg_span.specs.declared.solved.SpanClass.TheVariants.{Maker, Breaker, First}

-- the class by its name in the rules
abbrev pub named : SpanClass → Named
named Maker = ForShort
named Breaker = ForCut
named First = ForFirst

-- the side that wins with a side to move
abbrev pub winner : SpanClass → Side → Side
winner Maker turn = X
winner Breaker turn = Y
winner First turn = turn

-- two claims, of the side that wins with X to move and of the one that does with Y
pub record AreDueClaims (class : SpanClass) (claims : List SpanClaim) : Type 0 where
  pub first : SpanClaim
  pub second : SpanClaim
  pub two : claims ≡ first ∷ second ∷ []
  pub first_turn : first.turn ≡ X
  pub first_side : first.side ≡ winner class X
  pub second_turn : second.turn ≡ Y
  pub second_side : second.side ≡ winner class Y

-- every number of parts is below the bound
abbrev pub ArePartsBelow : ℕ → SpanBody → Type 0
ArePartsBelow bound (Trees first a1 a2) = ⊤
ArePartsBelow bound (Parts numbers) = All (λ n. n < bound) numbers

-- no claim has a number of a part that isn't below the bound
abbrev pub HavePartsBelow : ℕ → List SpanClaim → Type 0
HavePartsBelow bound claims = All (λ (claim : SpanClaim). ArePartsBelow bound claim.body) claims

-- ---- what was found

abbrev pub solved_class : Solved → SpanClass
solved_class (solved.Maker a1 a2) = Maker
solved_class (solved.Breaker parts) = Breaker
solved_class (solved.First v a1 a2 parts) = First

abbrev pub trees_claim : Side → Option ℕ → FinSet nat_cmp → FinSet nat_cmp → SpanClaim
trees_claim turn first a1 a2 = record { turn = turn; side = X; body = Trees first a1 a2 }

abbrev pub parts_claim : Side → List ℕ → SpanClaim
parts_claim turn parts = record { turn = turn; side = Y; body = Parts parts }

abbrev pub claims_of : Solved → List SpanClaim
claims_of (solved.Maker a1 a2) = trees_claim X None a1 a2 ∷ trees_claim Y None a1 a2 ∷ []
claims_of (solved.Breaker parts) = parts_claim X parts ∷ parts_claim Y parts ∷ []
claims_of (solved.First v a1 a2 parts) = trees_claim X (Some v) a1 a2 ∷ parts_claim Y parts ∷ []

-- trees or parts whoever is to move, or trees where X is to move and parts where Y is
abbrev pub SolvedHolds : SpanGame → Solved → Type 0
SolvedHolds g (solved.Maker a1 a2) =
    AreTreesOfGame g (marks_at g X) None a1 a2 × AreTreesOfGame g (marks_at g Y) None a1 a2
SolvedHolds g (solved.Breaker parts) =
    ArePartsOfGame g (marks_at g X) parts × ArePartsOfGame g (marks_at g Y) parts
SolvedHolds g (solved.First v a1 a2 parts) =
    AreTreesOfGame g (marks_at g X) (Some v) a1 a2 × ArePartsOfGame g (marks_at g Y) parts

-- each part that was found has a number below the number of vertices
abbrev pub SolvedIsSmall : SpanGame → Solved → Type 0
SolvedIsSmall g (solved.Maker a1 a2) = ⊤
SolvedIsSmall g (solved.Breaker parts) = All (λ n. n < g.graph.vertices) parts
SolvedIsSmall g (solved.First v a1 a2 parts) = All (λ n. n < g.graph.vertices) parts
