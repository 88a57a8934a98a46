-- The printed text of a game.
use Rattle.std.specs.Prelude.{ℕ, nat_lt, if◌then◌else◌, List, [], ◌∷◌, ◌++◌, map, codes, Option}
use Rattle.std.specs.Prelude.{Some, None}
use Rattle.pg_files.specs.Prelude.{flat_map, decimal, FinSet, nat_cmp, Grid, Side, Field}
use Rattle.pg_game.specs.declared.field.Field.TheVariants as fields
use Rattle.pg_files.specs.Prelude.{Bytes, spelled, members, kind_word, side_word}
use Rattle.pg_files.specs.Key.{key_name}
use Rattle.pg_files.specs.GameFile.{Entry}
use Rattle.pg_files.specs.declared.key.Key.{Key}
use Rattle.pg_files.specs.declared.key.Key.TheVariants as keys

-- the words of a word and numbers
abbrev pub number_words : Bytes → List ℕ → List Bytes
number_words word ns = word ∷ map decimal ns

-- the words of a key and numbers
abbrev pub numbered : Key → List ℕ → List Bytes
numbered key ns = number_words (key_name key) ns

-- the words of a key and a word
abbrev pub worded : Key → Bytes → List Bytes
worded key word = key_name key ∷ word ∷ []

-- a line of marks, where there are any
abbrev pub marked : Key → List ℕ → List (List Bytes)
marked key [] = []
marked key (n ∷ ns) = numbered key (n ∷ ns) ∷ []

-- the words of the first line
abbrev pub header : List Bytes
header = codes "posgame" ∷ codes "1" ∷ []

-- the grid where there is one, else the number of points
abbrev pub size_words : ℕ → Option Grid → List Bytes
size_words points None = numbered keys.Points (points ∷ [])
size_words points (Some grid) = numbered keys.Grid (grid.width ∷ grid.height ∷ [])

-- a line of the bias, where it is above 1
abbrev pub bias_words : ℕ → List (List Bytes)
bias_words bias = if nat_lt 1 bias then numbered keys.Bias (bias ∷ []) ∷ [] else []

-- the words of an edge
abbrev pub edge_words : ℕ × ℕ → List Bytes
edge_words ends = numbered keys.Edge (ends.0 ∷ ends.1 ∷ [])

-- the lines that say the bias and what a game is played on; on a graph the bias is 1
abbrev pub field_words : ℕ → Field → List (List Bytes)
field_words bias (fields.Lines f) =
    size_words f.points f.grid ∷ (bias_words bias ++ map (numbered keys.Line) f.lines)
field_words bias (fields.Graph h) = numbered keys.Vertices (h.vertices ∷ [])
    ∷ numbered keys.Terminals (h.s ∷ h.t ∷ []) ∷ map edge_words h.ends

-- the lines of the marks of both sides and of the turn
abbrev pub last_lines : FinSet nat_cmp → FinSet nat_cmp → Side → List (List Bytes)
last_lines x y turn = marked keys.X (members x)
    ++ (marked keys.Y (members y) ++ worded keys.Turn (side_word turn) ∷ [])

-- the lines of a game, each as its words
abbrev pub printed_lines : Entry → List (List Bytes)
printed_lines g = header ∷ worded keys.Kind (kind_word g.kind)
    ∷ (field_words g.bias g.field ++ last_lines g.x g.y g.turn)

-- The printed text of a game.
unfoldable pub printed : Entry → Bytes
printed g = flat_map spelled (printed_lines g)
