-- What a search may answer, and what it leaves in the work at every answer.
use Rattle.std.specs.Prelude.{◌≡◌, ℕ, suc, ◌<◌, ◌≤◌, ◌+◌, ◌*◌, Bool, true, false, List, length}
use Rattle.std.specs.Prelude.{Some, slice_get, ◌⊎◌}
use Rattle.pg_pns.specs.Prelude.{Contains, Position, Node, Game, Score, start, free_points, IsClaim}
use Rattle.pg_pns.specs.Prelude.{IsOfVersion, IsValidClaim, criterion_of, first_criterion}
use Rattle.pg_pns.specs.Prelude.{position_of, Claim, One, claimer, claimed_goal, IsOpenTable}
use Rattle.pg_pns.specs.Prelude.{IsUsed}
use Rattle.pg_pns.specs.declared.work.Found.{Found}
use Rattle.pg_pns.specs.declared.work.Found.TheVariants.{Yes, No, Unknown}
use Rattle.pg_pns.specs.Expanded.{Expanded, IsListed}
use Rattle.pg_pns.specs.Search.{Follows}

-- The claim shows the answer: it is valid and within the limits of version 1 of the format, a
-- decided position has the leaf of the first criterion, the last node is the game's position, they
-- have different positions, each the game's or one move after one of the list, and each but the
-- last is named as a child by a later one.
pub record IsClaimOf (g : Game) (t : Score) (table : List Position) (answer : Bool)
    (c : Claim) : Type 0 where
  pub turn : c.turn ≡ g.turn
  pub side : c.side ≡ claimer answer
  pub goal : c.goal ≡ claimed_goal g.kind t answer
  pub valid : IsValidClaim g c
  pub limits : IsClaim c
  pub version : IsOfVersion One c
  pub leaf : (i : ℕ) (n : Node)
      → slice_get c.nodes i ≡ Some n
      → criterion_of n.body ≡ first_criterion g t (position_of n)
  pub root : (last : ℕ)
      × (node : Node) × (length c.nodes ≡ suc last)
      × (slice_get c.nodes last ≡ Some node)
      × (position_of node ≡ start g)
  pub different : (i k : ℕ) (m n : Node)
      → slice_get c.nodes i ≡ Some m
      → slice_get c.nodes k ≡ Some n
      → position_of m ≡ position_of n
      → i ≡ k
  pub reached : (i : ℕ) (n : Node)
      → slice_get c.nodes i ≡ Some n
      → (position_of n ≡ start g)
      ⊎ ((p : Position) × Contains table p × Follows g p (position_of n))
  pub used : (i : ℕ) → suc i < length c.nodes → IsUsed c.nodes i
  pub few : length c.nodes ≤ 1 + length table * length (free_points g (start g))

abbrev pub IsAnswer : Game → Score → ℕ → List Position → Found → Type 0
IsAnswer g t budget table (Yes c) = IsClaimOf g t table true c
IsAnswer g t budget table (No c) = IsClaimOf g t table false c
IsAnswer g t budget table Unknown = IsOpenTable g t budget table

-- the work has the question, and the positions expanded for it by the rules, no more than the
-- budget
pub record IsWorkOf (g : Game) (t : Score) (budget : ℕ) (work : Expanded) : Type 0 where
  pub question : work.question ≡ Some t
  pub listed : IsListed g t budget work.positions
