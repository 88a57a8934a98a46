-- Maps of a board as tables, and the positions that they lead back to.
use Rattle.std.specs.Prelude.{◌≡◌, ℕ, ◌↔◌, ◌<◌, ◌*◌, List, [], map, get_or, None, Some}
use Rattle.pg_fold.specs.Prelude.{from_list, All, AllPairs, Contains, range_with_len, Grid}
use Rattle.pg_fold.specs.Prelude.{MAX_MEMBERS, Game, Position, IsMapOf, image_of, number_of}
use Rattle.pg_fold.specs.Prelude.{reverse_of, Fits, board_of, GridMap}
use Rattle.pg_fold.specs.declared.marks.Marks.{Marks}
use Rattle.pg_fold.specs.declared.tables.MapTable.{MapTable}

-- the point that the map takes to this one, by its table; what is no cell stays
abbrev pub come_from : MapTable → ℕ → ℕ
come_from t v = get_or t.sources.items v v

-- the position that the map takes to this one, whose marks these are
abbrev pub image_before : MapTable → Marks → Position → Position
image_before t marks p = record {
  x = from_list (map (come_from t) marks.x.items);
  y = from_list (map (come_from t) marks.y.items);
  turn = p.turn;
  left = p.left;
}

-- the table holds for each cell the one that the map takes there
pub record IsTable (grid : Grid) (t : MapTable) : Type 0 where
  pub is_map : IsMapOf grid t.map
  pub sources : t.sources.items
      ≡ map (image_of (reverse_of t.map) grid) (range_with_len 0 (grid.width * grid.height))
  pub small : All (λ u. u < MAX_MEMBERS) t.sources.items

-- the maps of tables
abbrev pub maps_of : List MapTable → List GridMap
maps_of tables = map (λ (t : MapTable). t.map) tables

-- the maps stand by their numbers, and all points are within the limit
pub record AreOrdered (tables : List MapTable) : Type 0 where
  pub ascending : AllPairs (λ a b. number_of a < number_of b) (maps_of tables)
  pub small : All (λ (t : MapTable). All (λ u. u < MAX_MEMBERS) t.sources.items) tables

-- the tables of these maps, in their order
pub record AreTablesOf (grid : Grid) (maps : List GridMap) (tables : List MapTable) : Type 0 where
  pub maps_are : maps_of tables ≡ maps
  pub each : All (IsTable grid) tables

-- the tables of the maps of that board which fit the game
pub record AreTablesOn (g : Game) (grid : Grid) (tables : List MapTable) : Type 0 where
  pub fit : (m : GridMap) → Contains (maps_of tables) m ↔ Fits g m
  pub each : All (IsTable grid) tables

-- the tables of the maps that fit the game's board; none without one
pub record AreTables (g : Game) (tables : List MapTable) : Type 0 where
  pub off : board_of g.field ≡ None → tables ≡ []
  pub on : (grid : Grid) → board_of g.field ≡ Some grid → AreTablesOn g grid tables
