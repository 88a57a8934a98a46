-- A list of attacks and replies round by round: an attack and the reply to it are a round.
use Rattle.std.specs.Prelude.{◌≡◌, ℕ, zero, suc, ◌+◌, ◌*◌, ◌<◌, ◌≤◌, ◌-◌, ◌||◌, ◌==◌, nat_le}
use Rattle.std.specs.Prelude.{if◌then◌else◌, true, false, List, get_or}
use Rattle.pg_check.specs.Prelude.{Contains, list_any, list_all, FinSet, contains, nat_cmp, other}
use Rattle.pg_check.specs.Prelude.{MakerMaker, Side, Game, Position, points_of, lines_of}
use Rattle.pg_check.specs.Prelude.{has_filled, after, IsPosition, is_on, has_threat, threatens}
use Rattle.pg_check.specs.Prelude.{is_near, IsAttack}
use Rattle.pg_check.specs.Lacked.{filled_but}

-- the attack of a round, and the reply to it
abbrev pub attack_at : List ℕ → ℕ → ℕ
attack_at points i = get_or points (2 * i) 0

abbrev pub reply_at : List ℕ → ℕ → ℕ
reply_at points i = get_or points (2 * i + 1) 0

-- the position after so many rounds
unfoldable pub before_round : Game → Position → List ℕ → ℕ → Position
before_round g p points zero = p
before_round g p points (suc i) =
    after g (after g (before_round g p points i) (attack_at points i)) (reply_at points i)

-- the position after the attack of a round
abbrev pub attacked : Game → Position → List ℕ → ℕ → Position
attacked g p points i = after g (before_round g p points i) (attack_at points i)

-- the attack and the reply of a round take free points of the game
pub record IsRound (g : Game) (p : Position) (points : List ℕ) (i : ℕ) : Type 0 where
  pub attack : IsAttack g (before_round g p points i) (attack_at points i)
  pub reply : IsAttack g (attacked g p points i) (reply_at points i)

-- so do those of the first rounds
abbrev pub AreRounds : Game → Position → List ℕ → ℕ → Type 0
AreRounds g p points count = (i : ℕ) → i < count → IsRound g p points i

-- For each point that a side has after so many rounds: the number of rounds after which it has it.
pub record AreTimes (g : Game) (p : Position) (points : List ℕ) (count : ℕ) (times : List ℕ)
    : Type 0 where
  pub late : (side : Side) (q k : ℕ) → k ≤ count
      → contains (points_of (before_round g p points k) side) q ≡ true → get_or times q 0 ≤ k
  pub early : (side : Side) (q k : ℕ) → k ≤ count
      → contains (points_of (before_round g p points count) side) q ≡ true
      → get_or times q 0 ≤ k
      → contains (points_of (before_round g p points k) side) q ≡ true

-- after the attack of one of the first rounds the other side lacks just one free point of the line
pub record WasNear (g : Game) (p : Position) (points : List ℕ) (count : ℕ) (side : Side)
    (line : List ℕ) : Type 0 where
  pub round : ℕ
  pub before : round < count
  pub near : list_any (is_near (attacked g p points round) (other side) line) line ≡ true

-- after no attack of the first rounds has the other side a threat
abbrev pub IsSafe : Game → Position → List ℕ → ℕ → Side → Type 0
IsSafe g p points count side =
    (i : ℕ) → i < count → has_threat g (attacked g p points i) (other side) ≡ false

-- each attack of the first rounds forces its reply
abbrev pub AreForced : Game → Position → List ℕ → ℕ → Side → Type 0
AreForced g p points count side =
    (i : ℕ) → i < count → threatens g (attacked g p points i) side (reply_at points i) ≡ true

-- the number of the point if the set has it, and else the number for the end
abbrev pub taken_at : FinSet nat_cmp → List ℕ → ℕ → ℕ → ℕ
taken_at set times end w = if contains set w then get_or times w 0 else end

-- One set lacks just one point of the line, and had the others two rounds before the other set took
-- that point.
pub record LacksLate (mine theirs : FinSet nat_cmp) (times : List ℕ) (end : ℕ) (line : List ℕ)
    : Type 0 where
  pub point : ℕ
  pub on : is_on point line ≡ true
  pub lacked : contains theirs point ≡ false
  pub rest : filled_but theirs point line ≡ true
  pub some : 2 ≤ taken_at mine times end point
  pub early : list_all (λ q. q == point || nat_le (get_or times q 0)
      (taken_at mine times end point - 2)) line ≡ true

-- the other side has filled no line at the end, and lacked no point of a line alone while it was
-- free
pub record IsClear (g : Game) (side : Side) (last : Position) (times : List ℕ) (end : ℕ) : Type 0
  where
    pub unfilled : has_filled g last (other side) ≡ false
    pub none : (line : List ℕ) → Contains (lines_of g) line
        → LacksLate (points_of last side) (points_of last (other side)) times end line → ⊥

-- The side is to move where each side claims one point a turn, and in Maker-Maker the other side
-- has filled no line.
pub record IsAtMove (g : Game) (p : Position) (side : Side) : Type 0 where
  pub position : IsPosition g p
  pub turn : p.turn ≡ side
  pub single : g.bias ≡ 1
  pub theirs : g.kind ≡ MakerMaker → has_filled g p (other side) ≡ false
