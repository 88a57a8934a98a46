-- What a search keeps, as its table.
use Rattle.std.specs.Prelude.{◌≡◌, ℕ, List, [], Some, slice_get}
use Rattle.pg_met.specs.Prelude.{Position, Game, Score}
use Rattle.pg_met.specs.declared.table.Table.{Table}
use Rattle.pg_met.specs.Claims.{nodes_of}
use Rattle.pg_met.specs.Table.{AreExpanded}
use Rattle.pg_met.specs.Met.{IsTree, Extends}

abbrev pub IsTreeBut : Game → Score → List ℕ → Table → Type 0
IsTreeBut g t due s = IsTree g t due s.positions.items s.moves.items s.parents.items
    s.answers.items (nodes_of s.claims)

abbrev pub IsTreeOf : Game → Score → Table → Type 0
IsTreeOf g t s = IsTreeBut g t [] s

-- a table whose last position was added to those met, and nothing else for it yet
abbrev pub IsTreeFor : Game → Score → List Position → Table → Type 0
IsTreeFor g t before s =
    IsTree g t [] before s.moves.items s.parents.items s.answers.items (nodes_of s.claims)

-- the position has the place, and nothing else is new beside what there was with these positions
pub record IsMetFrom (g : Game) (t : Score) (before : List Position) (old new : Table)
    (q : Position) (place : ℕ) : Type 0 where
  pub tree : IsTreeOf g t new
  pub at : slice_get new.positions.items place ≡ Some q
  pub extends : Extends q before new.positions.items old.moves.items new.moves.items
      old.parents.items new.parents.items old.answers.items new.answers.items
  pub expanded : (table : List Position)
      → AreExpanded table before old.moves.items
      → AreExpanded table new.positions.items new.moves.items

-- the same, beside what there was
abbrev pub IsMetAt : Game → Score → Table → Table → Position → ℕ → Type 0
IsMetAt g t old new q place = IsMetFrom g t old.positions.items old new q place
