-- A trail after some changes.
use Rattle.std.specs.Prelude.{◌≡◌, ℕ, ◌+◌, ◌≤◌, length}
use Rattle.pg_undo.specs.Trail.{Cells, back_to}

-- the second trail is the first after at most so many changes
pub record Extends (few : ℕ) (t now : Cells) : Type 0 where
  pub levels : (level : ℕ) → level ≤ length t.entries → back_to level now ≡ back_to level t
  pub more : length t.entries ≤ length now.entries
  pub bound : length now.entries ≤ length t.entries + few
  pub spare : now.spare + length now.entries ≡ t.spare + length t.entries
  pub width : length now.cells ≡ length t.cells
