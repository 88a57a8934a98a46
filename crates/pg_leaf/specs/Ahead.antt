-- What a board tells of the positions after a move.
use Rattle.std.specs.Prelude.{◌≡◌, ◌≢◌, ℕ, ◌+◌, ◌<◌, Bool, true, false, Option, Some, None}
use Rattle.pg_leaf.specs.Prelude.{AvoiderEnforcer, Game, IsPosition, MakerBreaker, MakerMaker}
use Rattle.pg_leaf.specs.Prelude.{Position, Score, Switching, Threat, View, after, answer_for}
use Rattle.pg_leaf.specs.Prelude.{attack_wins}
use Rattle.pg_leaf.specs.Prelude.{breaker_of, decided, defender, is_free, is_over, may_attack}
use Rattle.pg_leaf.specs.Prelude.{point_count, points_of}
use Rattle.pg_base.specs.Side.{other}
use Rattle.pg_base.specs.declared.kind.Kind.{Kind}
use Rattle.pg_board.specs.Passing.{passed}
use Rattle.pg_game.specs.Decided.{greatest_depth}
use Rattle.pg_game.specs.Potential.{full_weight, total_weight}
use Rattle.pg_leaf.specs.Leaf.{IsLeaf}
use Rattle.pg_leaf.specs.declared.ahead.Ahead.{Ahead}
use Rattle.pg_leaf.specs.declared.ahead.Next.{Next}
use Rattle.pg_leaf.specs.declared.ahead.Next.TheVariants.{Unknown, Quiet, Line}
use Rattle.pg_leaf.specs.declared.ahead.Told.{Told}
use Rattle.pg_leaf.specs.declared.ahead.Told.TheVariants.{Unsure, Open, Decided, Attack}
use Rattle.pg_threat.specs.Forced.{IsAnswer}
use Rattle.pg_threat.specs.Search.{points_of_line}
use Rattle.pg_threat.specs.Serving.{IsBound}
use Rattle.pg_threat.specs.declared.line.ThreatLine.{ThreatLine}

-- the base of the weights by which the potential of a game of the kind is counted
abbrev pub base_for : Kind → ℕ → ℕ
base_for AvoiderEnforcer bias = 2
base_for MakerBreaker bias = 1 + bias
base_for MakerMaker bias = 1 + bias
base_for Switching bias = 1 + bias

-- whether a side avoids lines in a game of the kind
abbrev pub is_avoiding : Kind → Bool
is_avoiding AvoiderEnforcer = true
is_avoiding MakerBreaker = false
is_avoiding MakerMaker = false
is_avoiding Switching = false

-- the weights are those at the board's position, where the points of the side that breaks lines
-- make them harmless
pub record IsWeighed (b : View) (a : Ahead) : Type 0 where
  pub breaker : a.breaker ≡ breaker_of b.game.kind a.defender
  pub base : a.base ≡ base_for b.game.kind b.game.bias
  pub limit : a.limit ≡ full_weight a.base b.game
  pub total : a.total
      ≡ total_weight a.base b.game (points_of b.stand.position a.breaker) b.stand.position

-- the position is that after a move to a free point of the board's, where the game isn't over
pub record IsMoveOf (b : View) (q : Position) (v : ℕ) : Type 0 where
  pub lines : b.game.kind ≢ Switching
  pub position : IsPosition b.game b.stand.position
  pub going : is_over b.game b.stand.position ≡ false
  pub range : v < point_count b.game
  pub free : is_free b.stand.position v ≡ true
  pub leads : q ≡ after b.game b.stand.position v

-- each side claims one point a turn, and the next side may attack
pub record NextAttacks (b : View) : Type 0 where
  pub single : b.game.bias ≡ 1
  pub may : may_attack b.game.kind (other b.stand.position.turn) ≡ true

-- the answer of the search for the next side's threat line where the turn passes to it
abbrev pub IsNextAnswer : View → Option ThreatLine → Type 0
IsNextAnswer b found = IsAnswer b.game (passed b.stand.position) (other b.stand.position.turn)
    greatest_depth found

-- whether it was sought
abbrev pub is_known : Next → Bool
is_known Unknown = false
is_known Quiet = true
is_known (Line line) = true

-- with this known of it, and all else as it is
abbrev pub with_next : Ahead → Next → Ahead
with_next a next = record a { next = next }

-- what is known of that line is so
abbrev pub IsNext : View → Next → Type 0
IsNext b Unknown = Unit {0}
IsNext b Quiet = NextAttacks b → IsNextAnswer b None
IsNext b (Line line) = NextAttacks b × IsNextAnswer b (Some line)

-- the weights are those at the board's position for the side that defends in the question
pub record IsAhead (t : Score) (b : View) (a : Ahead) : Type 0 where
  pub defends : a.defender ≡ defender b.game.kind t
  pub weighed : IsWeighed b a
  pub next : IsNext b a.next

-- ---- what is known at a position

-- Each side claims one point a turn, the side to move may attack, and none of its threat lines
-- comes before the line.
pub record IsKnownLine (g : Game) (p : Position) (line : ThreatLine) : Type 0 where
  pub single : g.bias ≡ 1
  pub may : may_attack g.kind p.turn ≡ true
  pub bound : IsBound g p p.turn line

-- what is known of the threat lines of the side to move is so, if the game isn't over
abbrev pub IsKnownAt : Game → Position → Next → Type 0
IsKnownAt g p Unknown = Unit {0}
IsKnownAt g p Quiet = is_over g p ≡ false → attack_wins g p ≡ false
IsKnownAt g p (Line line) = is_over g p ≡ false → IsKnownLine g p line

-- the board stands at the position of the game, and what is known there is so
pub record IsForetold (g : Game) (p : Position) (b : View) (next : Next) : Type 0 where
  pub game : b.game ≡ g
  pub position : b.stand.position ≡ p
  pub known : IsKnownAt g p next

-- what is told of a position is so
abbrev pub IsTold : Game → Score → Position → Told → Type 0
IsTold g t q Unsure = Unit {0}
IsTold g t q Open = decided g t q ≡ None
IsTold g t q (Decided b body) = (decided g t q ≡ Some b) × IsLeaf g t q b body
IsTold g t q (Attack line) = (decided g t q ≡ Some (answer_for q.turn))
    × IsLeaf g t q (answer_for q.turn) (Threat (points_of_line line))
