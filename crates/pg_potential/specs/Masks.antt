-- The lines of a game with their sets.
use Rattle.std.specs.Prelude.{◌≡◌, ℕ, ◌+◌, ◌-◌, ◌*◌, ◌^◌, ◌<◌, ◌≤◌, ◌||◌, List, length, map}
use Rattle.pg_base.specs.declared.limits.TheConstants.{MAX_MEMBERS}
use Rattle.pg_game.specs.declared.bounds.TheConstants.{MAX_LINE_POINTS}
use Rattle.pg_potential.specs.Prelude.{All, AreBelow, FinSet, contains, from_list, greatest_length}
use Rattle.pg_potential.specs.Prelude.{lines_of, nat_cmp, Game, Position}
use Rattle.pg_potential.specs.declared.masks.Mask.{Mask}

-- the set of a line's points
abbrev pub set_of : List ℕ → FinSet nat_cmp
set_of line = from_list {R = nat_cmp} line

-- each is a line with the set of its points, in the order of the lines
pub record AreMasks (lines : List (List ℕ)) (masks : List Mask) : Type 0 where
  pub sets : map (λ (m : Mask). m.points) masks ≡ map set_of lines
  pub each : map (λ (m : Mask). m.line.items) masks ≡ lines

-- what a line weighs that no side has touched, and a base for which it fits into 128 bits
abbrev pub clear_weight : ℕ → ℕ → List ℕ → ℕ
clear_weight base longest line = base ^ (longest - length line)

pub record IsWeighing (base longest : ℕ) : Type 0 where
  pub some : 1 ≤ base
  pub few : longest ≤ MAX_LINE_POINTS
  pub fits : base ^ longest ≤ 2 ^ MAX_LINE_POINTS

-- each mask has the weight of its line without marks
abbrev pub AreClear : Game → List Mask → Type 0
AreClear g masks = All (λ (m : Mask).
    m.clear ≡ clear_weight (1 + g.bias) (greatest_length (lines_of g)) m.line.items) masks

-- the masks of the game's lines, with what these weigh without marks
pub record AreMasksOf (g : Game) (masks : List Mask) : Type 0 where
  pub lines : AreMasks (lines_of g) masks
  pub clear : AreClear g masks

-- the points of the line in so many words, and what it weighs without marks
pub record IsMask (base longest width : ℕ) (m : Mask) : Type 0 where
  pub range : All (λ v. v < MAX_MEMBERS) m.line.items
  pub set : m.points ≡ set_of m.line.items
  pub below : AreBelow m.points (64 * width)
  pub clear : m.clear ≡ clear_weight base longest m.line.items

-- the marks of both sides
abbrev pub AreMarked : FinSet nat_cmp → Position → Type 0
AreMarked marked p = (v : ℕ) → contains marked v ≡ (contains p.x v || contains p.y v)
