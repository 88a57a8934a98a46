-- What a trail is seen as, what a change makes of it, and how it was before its last changes.
use Rattle.std.specs.Prelude.{ℕ, ◌+◌, ◌-◌, List, [], ◌∷◌, ◌++◌, length, get_or, set, take}
use Rattle.std.specs.Prelude.{drop}

-- cells, with the changes that were made: which cell, and what it was; and how many more have room
pub record Cells : Type 0 where
  pub cells : List ℕ
  pub entries : List (ℕ × ℕ)
  pub spare : ℕ

-- a cell is changed
unfoldable pub with_set : Cells → ℕ → ℕ → Cells
with_set t i v = record {
  cells = set t.cells i v;
  entries = t.entries ++ (i, get_or t.cells i 0) ∷ [];
  spare = t.spare - 1;
}

-- a cell is changed, and what it was isn't written down
unfoldable pub with_cell : Cells → ℕ → ℕ → Cells
with_cell t i v = record { cells = set t.cells i v; entries = t.entries; spare = t.spare }

-- the cells before the changes
unfoldable pub before : List (ℕ × ℕ) → List ℕ → List ℕ
before [] cells = cells
before (e ∷ entries) cells = set (before entries cells) e.0 e.1

-- the trail as it was when it had so many entries
unfoldable pub back_to : ℕ → Cells → Cells
back_to level t = record {
  cells = before (drop level t.entries) t.cells;
  entries = take level t.entries;
  spare = t.spare + (length t.entries - level);
}

-- the trail without entries
unfoldable pub settled : Cells → Cells
settled t = record { cells = t.cells; entries = []; spare = t.spare + length t.entries }
