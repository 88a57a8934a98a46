-- What a game file says, and the fault that it has.
use Rattle.std.specs.Prelude.{◌≡◌, ℕ, ◌+◌, ◌*◌, Bool, true, false, ◌&&◌, ◌||◌, not, nat_lt, nat_le}
use Rattle.std.specs.Prelude.{◌==◌, if◌then◌else◌, List, [], ◌∷◌, ◌++◌, length, Option, Some, None}
use Rattle.std.specs.Prelude.{is_none, unwrap_or, codes, Result, Ok, Err, sum_by}
use Rattle.pg_files.specs.Prelude.{list_all, bytes_eq, FinSet, empty, nat_cmp, Grid, Kind}
use Rattle.pg_base.specs.declared.signs.TheConstants.{SPACE}
use Rattle.pg_base.specs.declared.kind.Kind.TheVariants as kinds
use Rattle.pg_files.specs.Prelude.{Side, Field}
use Rattle.pg_game.specs.declared.field.Field.TheVariants as fields
use Rattle.pg_files.specs.Prelude.{Bytes, lines, words, numbers, Cell, is_shape, placements_of}
use Rattle.pg_files.specs.Prelude.{cells_of, ones, MAX_EDGES, MAX_BIAS, MAX_LINES, MAX_POINTS}
use Rattle.pg_files.specs.Prelude.{MAX_SUMMED_POINTS, MAX_VERTICES, longest, least, unless, reading}
use Rattle.pg_files.specs.Prelude.{kind_of, side_of}
use Rattle.pg_files.specs.declared.limits.TheConstants.{MAX_GAME_BYTES}
use Rattle.pg_files.specs.Sets.{set_of, ascending, repeats}
use Rattle.pg_files.specs.Key.{key_of, rank_of, belongs, needed_rank}
use Rattle.pg_files.specs.declared.key.Key.{Key}
use Rattle.pg_files.specs.declared.key.Key.TheVariants as keys
use Rattle.pg_files.specs.declared.fault.Fault.{Fault}
use Rattle.pg_files.specs.declared.fault.Fault.TheVariants as faults

-- What the significant lines so far have said.
pub record Draft : Type 0 where
  -- whether the header has stood
  pub begun : Bool
  -- the greatest rank of a key
  pub rank : ℕ
  pub kind : Option Kind
  -- how many points a game with lines has, 0 before that is said
  pub points : ℕ
  pub grid : Option Grid
  -- how many vertices there are, and the terminals, 0 before that is said
  pub vertices : ℕ
  pub s : ℕ
  pub t : ℕ
  -- how many points Y claims in a turn, 1 before that is said
  pub bias : ℕ
  pub lines : List (List ℕ)
  -- the ends of each edge
  pub ends : List (ℕ × ℕ)
  pub x : FinSet nat_cmp
  pub y : FinSet nat_cmp
  pub turn : Option Side

-- the draft before the first line
abbrev pub nothing : Draft
nothing = record {
  begun = false;
  rank = 0;
  kind = None;
  points = 0;
  grid = None;
  vertices = 0;
  s = 0;
  t = 0;
  bias = 1;
  lines = [];
  ends = [];
  x = empty;
  y = empty;
  turn = None;
}

-- how many points a game of the kind has, by the number of points said and that of its edges: the
-- points of a switching game are its edges
abbrev pub points_for : Option Kind → ℕ → ℕ → ℕ
points_for (Some kinds.Switching) points edges = edges
points_for _ points edges = points

-- how many points there are so far
abbrev pub points_so_far : Draft → ℕ
points_so_far d = points_for d.kind d.points (length d.ends)

-- ---- the faults of a line

-- the first of some words, none where there is none
abbrev pub first : List Bytes → Bytes
first [] = []
first (word ∷ others) = word

-- the words behind the first
abbrev pub rest : List Bytes → List Bytes
rest [] = []
rest (word ∷ others) = others

-- the numbers of the arguments; not asked where one is no number
abbrev pub numbers_of : List Bytes → List ℕ
numbers_of arguments = unwrap_or (numbers arguments) []

-- the first of some numbers, 0 where there is none
abbrev pub first_number : List ℕ → ℕ
first_number [] = 0
first_number (n ∷ ns) = n

-- the second of some numbers, 0 where there is none
abbrev pub second_number : List ℕ → ℕ
second_number [] = 0
second_number (n ∷ ns) = first_number ns

-- a first argument that isn't one of the words of kind or turn
abbrev pub is_unknown_choice : Key → List Bytes → Bool
is_unknown_choice keys.Kind (word ∷ others) = is_none (kind_of word)
is_unknown_choice keys.Turn (word ∷ others) = is_none (side_of word)
is_unknown_choice _ _ = false

-- a shape where there is no grid
abbrev pub lacks_grid : Draft → Key → Bool
lacks_grid d keys.Shape = is_none d.grid
lacks_grid d _ = false

-- Before the kind has stood only that may come. Then: a key of another kind, a rank that is below
-- the greatest so far or repeats one other than 4, the lack of a needed key of lower rank, or of a
-- grid.
abbrev pub is_misplaced : Option Kind → Draft → Key → Bool
is_misplaced None d key = nat_lt 1 (rank_of key)
is_misplaced (Some kind) d key = not (belongs kind key)
    || (nat_lt (rank_of key) d.rank
    || ((rank_of key == d.rank && not (rank_of key == 4))
    || (nat_lt d.rank (needed_rank kind key) || lacks_grid d key)))

-- a key that may not stand here
abbrev pub is_out_of_place : Draft → Key → Bool
is_out_of_place d key = is_misplaced d.kind d key

-- the wrong number of arguments, or one in a number's place that is none
abbrev pub is_ill_formed : Key → List Bytes → Bool
is_ill_formed keys.Kind arguments = not (length arguments == 1)
is_ill_formed keys.Turn arguments = not (length arguments == 1)
is_ill_formed keys.Shape arguments = not (length arguments == 1)
is_ill_formed keys.Points arguments = not (length arguments == 1) || is_none (numbers arguments)
is_ill_formed keys.Vertices arguments = not (length arguments == 1) || is_none (numbers arguments)
is_ill_formed keys.Bias arguments = not (length arguments == 1) || is_none (numbers arguments)
is_ill_formed keys.Grid arguments = not (length arguments == 2) || is_none (numbers arguments)
is_ill_formed keys.Terminals arguments = not (length arguments == 2) || is_none (numbers arguments)
is_ill_formed keys.Edge arguments = not (length arguments == 2) || is_none (numbers arguments)
is_ill_formed _ arguments = is_none (numbers arguments)

-- a point that isn't below the number of points, or a vertex that isn't below the number of
-- vertices
abbrev pub is_out_of_range : Draft → Key → List ℕ → Bool
is_out_of_range d keys.Line ns = not (list_all (λ n. nat_lt n (points_so_far d)) ns)
is_out_of_range d keys.X ns = not (list_all (λ n. nat_lt n (points_so_far d)) ns)
is_out_of_range d keys.Y ns = not (list_all (λ n. nat_lt n (points_so_far d)) ns)
is_out_of_range d keys.Terminals ns = not (list_all (λ n. nat_lt n d.vertices) ns)
is_out_of_range d keys.Edge ns = not (list_all (λ n. nat_lt n d.vertices) ns)
is_out_of_range d _ ns = false

-- a point that stands twice in the line, or in x and in y
abbrev pub is_repeated : Draft → Key → List ℕ → Bool
is_repeated d keys.Line ns = repeats empty ns
is_repeated d keys.X ns = repeats empty ns
is_repeated d keys.Y ns = repeats d.x ns
is_repeated d _ ns = false

-- a line without points, or one of more than 100, or 33 where the bias said before is above 1
abbrev pub has_wrong_length : Draft → Key → List ℕ → Bool
has_wrong_length d keys.Line ns = length ns == 0 || nat_lt (longest d.bias) (length ns)
has_wrong_length d _ ns = false

-- a count that isn't from the first number to the second
abbrev pub is_outside : ℕ → ℕ → ℕ → Bool
is_outside low high n = nat_lt n low || nat_lt high n

-- a count out of its limits
abbrev pub exceeds : Draft → Key → List ℕ → Bool
exceeds d keys.Points ns = is_outside 1 MAX_POINTS (first_number ns)
exceeds d keys.Grid ns = is_outside 1 MAX_POINTS (first_number ns * second_number ns)
exceeds d keys.Vertices ns = is_outside 2 MAX_VERTICES (first_number ns)
exceeds d keys.Bias ns = is_outside 1 MAX_BIAS (first_number ns)
exceeds d keys.Line ns = nat_le MAX_LINES (length d.lines)
    || nat_lt MAX_SUMMED_POINTS (sum_by length d.lines + length ns)
exceeds d keys.Edge ns = nat_le MAX_EDGES (length d.ends)
exceeds _ _ _ = false

-- the grid with these sides, where it has 1 to 256 cells
abbrev pub grid_of : ℕ → ℕ → Option Grid
grid_of width height = if is_outside 1 MAX_POINTS (width * height)
    then None
    else Some (record { width = width; height = height })

-- a key of a line of marks
abbrev pub IsMarks : Key → Type 0
IsMarks keys.X = Unit {0}
IsMarks keys.Y = Unit {0}
IsMarks _ = ⊥

-- terminals that are one vertex
abbrev pub is_one_terminal : Key → List ℕ → Bool
is_one_terminal keys.Terminals ns = first_number ns == second_number ns
is_one_terminal _ ns = false

-- the faults that are told from the numbers of a line, if its arguments are of the right form
abbrev pub numbers_faults : Draft → Key → List ℕ → List (Fault × Bool)
numbers_faults d key ns =
    (faults.Range, is_out_of_range d key ns) ∷
    (faults.Repeated, is_repeated d key ns) ∷
    (faults.Length, has_wrong_length d key ns) ∷
    (faults.Limit, exceeds d key ns) ∷
    (faults.Terminals, is_one_terminal key ns) ∷ []

-- the placements of some cells, where there is a grid
abbrev pub placed_in : Option Grid → List Cell → List (List ℕ)
placed_in None cells = []
placed_in (Some grid) cells = placements_of grid cells

-- lines that are too many with those before, or have too many points with them
abbrev pub exceeds_with : Draft → List (List ℕ) → Bool
exceeds_with d more = nat_lt MAX_LINES (length d.lines + length more)
    || nat_lt MAX_SUMMED_POINTS (sum_by length d.lines + sum_by length more)

-- the faults that are told from the word of a shape
abbrev pub shape_faults : Draft → Bytes → List (Fault × Bool)
shape_faults d word =
    (faults.Length, nat_lt (longest d.bias) (ones word)) ∷
    (faults.Limit, is_shape word && exceeds_with d (placed_in d.grid (cells_of word))) ∷
    (faults.Shape, not (is_shape word)) ∷ []

-- the faults that are told from the arguments, if these are of the right form
abbrev pub further_faults : Draft → Key → List Bytes → List (Fault × Bool)
further_faults d keys.Shape arguments = shape_faults d (first arguments)
further_faults d key arguments = numbers_faults d key (numbers_of arguments)

-- the faults that a line with this key can have
abbrev pub keyed_faults : Draft → Key → List Bytes → List (Fault × Bool)
keyed_faults d key arguments =
    (faults.Key, is_unknown_choice key arguments) ∷
    (faults.Order, is_out_of_place d key) ∷
    (faults.Arguments, is_ill_formed key arguments) ∷
    further_faults d key arguments

-- the fault of a line with this key
abbrev pub keyed_fault : Draft → Key → List Bytes → Option Fault
keyed_fault d key arguments = least (keyed_faults d key arguments)

-- ---- what a line says

-- the draft after a line of numbers without a fault
abbrev pub with_numbers : Draft → Key → List ℕ → Draft
with_numbers d keys.Points ns = record d { rank = 2; points = first_number ns }
with_numbers d keys.Grid ns = record d {
  rank = 2;
  points = first_number ns * second_number ns;
  grid = Some (record { width = first_number ns; height = second_number ns });
}
with_numbers d keys.Vertices ns = record d { rank = 2; vertices = first_number ns }
with_numbers d keys.Terminals ns = record d { rank = 3; s = first_number ns; t = second_number ns }
with_numbers d keys.Bias ns = record d { rank = 3; bias = first_number ns }
with_numbers d keys.Line ns = record d { rank = 4; lines = d.lines ++ ascending ns ∷ [] }
with_numbers d keys.Edge ns =
    record d { rank = 4; ends = d.ends ++ (first_number ns, second_number ns) ∷ [] }
with_numbers d keys.X ns = record d { rank = 5; x = set_of ns }
with_numbers d keys.Y ns = record d { rank = 6; y = set_of ns }
with_numbers d _ ns = d

-- the draft after a line without a fault
abbrev pub said : Draft → Key → List Bytes → Draft
said d keys.Kind arguments = record d { rank = 1; kind = kind_of (first arguments) }
said d keys.Turn arguments = record d { rank = 7; turn = side_of (first arguments) }
said d keys.Shape arguments =
    record d { rank = 4; lines = d.lines ++ placed_in d.grid (cells_of (first arguments)) }
said d key arguments = with_numbers d key (numbers_of arguments)

-- The draft after a line with this key, or the line's fault.
unfoldable pub keyed : Draft → Key → List Bytes → Result Draft Fault
keyed d key arguments = unless (keyed_fault d key arguments) (said d key arguments)

-- the draft after a line whose first word stands for this key, or the line's fault
abbrev pub named : Draft → Option Key → List Bytes → Result Draft Fault
named d None arguments = Err faults.Key
named d (Some key) arguments = keyed d key arguments

-- the words of the first significant line
abbrev pub is_header : List Bytes → Bool
is_header [] = false
is_header (word ∷ []) = false
is_header (word ∷ version ∷ []) = bytes_eq word (codes "posgame") && bytes_eq version (codes "1")
is_header (word ∷ version ∷ other ∷ others) = false

-- a byte that may stand in a line
abbrev pub is_printable : ℕ → Bool
is_printable b = nat_le SPACE b && nat_le b 126

-- a line whose first byte is `#`
abbrev pub begins_comment : Bytes → Bool
begins_comment [] = false
begins_comment (b ∷ bs) = b == 35

-- The draft after a significant line, or its fault.
unfoldable pub significant : Draft → List Bytes → Result Draft Fault
significant d ws = if d.begun
    then named d (key_of (first ws)) (rest ws)
    else if is_header ws
    then Ok (record d { begun = true })
    else Err faults.Header

-- The draft after a line, or the line's fault.
unfoldable pub after : Draft → Bytes → Result Draft Fault
after d line = if not (list_all is_printable line)
    then Err faults.Bytes
    else if begins_comment line || length (words line) == 0
    then Ok d
    else significant d (words line)

-- ---- the whole file

-- a game as a file says it
pub record Entry : Type 0 where
  pub kind : Kind
  pub field : Field
  pub x : FinSet nat_cmp
  pub y : FinSet nat_cmp
  pub turn : Side
  -- how many points Y claims in a turn
  pub bias : ℕ

-- some lines say this
pub record IsSaid (d : Draft) : Type 0 where
  pub said_by : List Bytes
  pub is_said : reading after 1 nothing said_by ≡ Ok d

-- what a game of the kind is played on
abbrev pub field_of : Kind → Draft → Field
field_of kinds.Switching d = fields.Graph (record {
  vertices = d.vertices;
  s = d.s;
  t = d.t;
  ends = d.ends;
})
field_of _ d = fields.Lines (record { points = d.points; grid = d.grid; lines = d.lines })

-- The game of a file without a faulty line. At the end of the file it lacks its header or its last
-- line.
abbrev pub game_of : Draft → Option Kind → Option Side → Result Entry (Fault × ℕ)
game_of d (Some kind) (Some turn) = Ok (record {
  kind = kind;
  field = field_of kind d;
  x = d.x;
  y = d.y;
  turn = turn;
  bias = d.bias;
})
game_of d _ _ = Err (faults.Ends, 0)

-- the game after the last line
abbrev pub ended : Result Draft (Fault × ℕ) → Result Entry (Fault × ℕ)
ended (Err fault) = Err fault
ended (Ok d) = if d.begun then game_of d d.kind d.turn else Err (faults.Header, 0)

-- The game that a text says, or its fault with the number of the line.
unfoldable pub game : Bytes → Result Entry (Fault × ℕ)
game text = if nat_lt MAX_GAME_BYTES (length text)
    then Err (faults.Size, 0)
    else ended (reading after 1 nothing (lines text))
