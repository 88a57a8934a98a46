-- What a threat line says of the position after a move of the other side.
use Rattle.std.specs.Prelude.{◌≡◌, ℕ, ◌+◌, ◌/◌, ◌≤◌, true, false, List, ◌∷◌, get_or, length}
use Rattle.pg_threat.specs.Prelude.{Contains, count_by, other, MakerMaker, Side, Game, Position}
use Rattle.pg_threat.specs.Prelude.{LeadsToLine, depth_of, is_on, is_touched, lines_of, points_of}
use Rattle.pg_threat.specs.Lacking.{own_count}
use Rattle.pg_threat.specs.Search.{NoneBelow}
use Rattle.pg_threat.specs.declared.line.ThreatLine.{ThreatLine}

-- If the side hasn't touched the line, the other side lacks two points or more of it even with
-- another one and all points of the list.
abbrev pub IsSlowOn : Position → Side → List ℕ → List ℕ → Type 0
IsSlowOn p side points line = is_touched (points_of p side) line ≡ false
    → own_count p (other side) line + count_by (λ x. is_on x line) points + 3 ≤ length line

-- and so it is with each line through the point v
abbrev pub IsSlow : Game → Position → Side → ℕ → List ℕ → Type 0
IsSlow g p side v points = (line : List ℕ) → Contains (lines_of g) line → is_on v line ≡ true
    → IsSlowOn p side points line

-- A move to v takes no point of the list, and in Maker-Maker it brings no threat against a list
-- that forces replies.
pub record IsApart (g : Game) (p : Position) (v : ℕ) (points : List ℕ) : Type 0 where
  pub off : is_on v points ≡ false
  pub slow : g.kind ≡ MakerMaker → 2 ≤ length points → IsSlow g p (other p.turn) v points

-- No list that leads to a line comes before this threat line: none has fewer replies, and none of
-- as many begins with a smaller point.
pub record IsBound (g : Game) (p : Position) (side : Side) (t : ThreatLine) : Type 0 where
  pub least : NoneBelow (LeadsToLine g p side) (t.len / 2)
  pub first : (v : ℕ) (points : List ℕ)
      → LeadsToLine g p side (v ∷ points)
      → depth_of (v ∷ points) ≡ t.len / 2
      → get_or t.points 0 0 ≤ v
