-- What a file of a family's game says, and the fault that it has.
use Rattle.std.specs.Prelude.{ℕ, ◌+◌, ◌*◌, Bool, true, false, ◌&&◌, ◌||◌, not, nat_lt, nat_le, ◌==◌}
use Rattle.std.specs.Prelude.{if◌then◌else◌, List, [], ◌∷◌, ◌++◌, length, Option, Some, None}
use Rattle.std.specs.Prelude.{is_none, unwrap_or, codes, Result, Ok, Err}
use Rattle.pg_family_files.specs.Prelude.{list_all, bytes_eq, FinSet, empty, nat_cmp, MAX_EDGES}
use Rattle.pg_family_files.specs.Prelude.{Side, side_of, Bytes, lines, words, numbers, least}
use Rattle.pg_family_files.specs.Prelude.{unless, reading, Graph, MAX_VERTICES, MAX_GAME_BYTES}
use Rattle.pg_family_files.specs.Prelude.{Fault, set_of, repeats, first, rest, numbers_of}
use Rattle.pg_family_files.specs.Prelude.{first_number, second_number, is_outside, is_printable}
use Rattle.pg_family_files.specs.Prelude.{begins_comment, MAX_ROWS, MAX_VECTORS}
use Rattle.pg_files.specs.declared.fault.Fault.TheVariants as faults
use Rattle.pg_family_files.specs.Family.{header_word, key_of, rank_of, needed_rank}
use Rattle.pg_family_files.specs.declared.family.Family.{Family}
use Rattle.pg_family_files.specs.declared.family.Family.TheVariants as families
use Rattle.pg_family_files.specs.declared.family.Key.{Key}
use Rattle.pg_family_files.specs.declared.family.Key.TheVariants as keys

-- What the significant lines so far have said.
pub record Draft : Type 0 where
  -- whether the header has stood
  pub begun : Bool
  -- the greatest rank of a key
  pub rank : ℕ
  -- how many vertices there are, 0 before that is said
  pub vertices : ℕ
  -- the ends of each edge
  pub ends : List (ℕ × ℕ)
  -- how many signs a vector has, and what X wants as a sum, 0 before that is said
  pub rows : ℕ
  pub target : ℕ
  pub vectors : List ℕ
  pub x : FinSet nat_cmp
  pub y : FinSet nat_cmp
  pub turn : Option Side

-- the draft before the first line
abbrev pub nothing : Draft
nothing = record {
  begun = false;
  rank = 0;
  vertices = 0;
  ends = [];
  rows = 0;
  target = 0;
  vectors = [];
  x = empty;
  y = empty;
  turn = None;
}

-- how many points a game of the family has, by the numbers of its edges and of its vectors
abbrev pub points_for : Family → ℕ → ℕ → ℕ
points_for families.Connectivity edges vectors = edges
points_for families.Vectors edges vectors = vectors

-- how many points there are so far
abbrev pub points_so_far : Family → Draft → ℕ
points_so_far family d = points_for family (length d.ends) (length d.vectors)

-- ---- vectors

-- a sign `0` or `1`
abbrev pub is_sign : ℕ → Bool
is_sign b = b == 48 || b == 49

-- the number whose bits the signs are, the first the lowest
abbrev pub signs_value : Bytes → ℕ
signs_value [] = 0
signs_value (b ∷ bs) = (if b == 49 then 1 else 0) + 2 * signs_value bs

-- the vector that a word of as many signs as rows writes
abbrev pub vector_of : ℕ → Bytes → Option ℕ
vector_of rows word =
    if length word == rows && list_all is_sign word then Some (signs_value word) else None

-- ---- the faults of a line

-- a first argument of turn that is no side
abbrev pub is_unknown_choice : Key → List Bytes → Bool
is_unknown_choice keys.Turn (word ∷ others) = is_none (side_of word)
is_unknown_choice _ _ = false

-- a key whose rank is below the greatest so far or repeats one other than 4, or before which a
-- needed key lacks
abbrev pub is_out_of_place : Family → Draft → Key → Bool
is_out_of_place family d key = nat_lt (rank_of key) d.rank
    || ((rank_of key == d.rank && not (rank_of key == 4)) || nat_lt d.rank (needed_rank family key))

-- the wrong number of arguments, or one in a number's place that is none
abbrev pub is_ill_formed : Key → List Bytes → Bool
is_ill_formed keys.Turn arguments = not (length arguments == 1)
is_ill_formed keys.Target arguments = not (length arguments == 1)
is_ill_formed keys.Vector arguments = not (length arguments == 1)
is_ill_formed keys.Vertices arguments = not (length arguments == 1) || is_none (numbers arguments)
is_ill_formed keys.Rows arguments = not (length arguments == 1) || is_none (numbers arguments)
is_ill_formed keys.Edge arguments = not (length arguments == 2) || is_none (numbers arguments)
is_ill_formed _ arguments = is_none (numbers arguments)

-- a point that isn't below the number of points, or a vertex that isn't below the number of
-- vertices
abbrev pub is_out_of_range : Family → Draft → Key → List ℕ → Bool
is_out_of_range family d keys.X ns = not (list_all (λ n. nat_lt n (points_so_far family d)) ns)
is_out_of_range family d keys.Y ns = not (list_all (λ n. nat_lt n (points_so_far family d)) ns)
is_out_of_range family d keys.Edge ns = not (list_all (λ n. nat_lt n d.vertices) ns)
is_out_of_range family d _ ns = false

-- a point that stands twice in x, twice in y, or in both
abbrev pub is_repeated : Draft → Key → List ℕ → Bool
is_repeated d keys.X ns = repeats empty ns
is_repeated d keys.Y ns = repeats d.x ns
is_repeated d _ ns = false

-- a count out of its limits
abbrev pub exceeds : Draft → Key → List ℕ → Bool
exceeds d keys.Vertices ns = is_outside 2 MAX_VERTICES (first_number ns)
exceeds d keys.Rows ns = is_outside 1 MAX_ROWS (first_number ns)
exceeds d keys.Edge ns = nat_le MAX_EDGES (length d.ends)
exceeds d keys.Vector ns = nat_le MAX_VECTORS (length d.vectors)
exceeds d _ ns = false

-- an argument that isn't as many signs as there are rows
abbrev pub is_no_vector : Draft → Key → List Bytes → Bool
is_no_vector d keys.Target arguments = is_none (vector_of d.rows (first arguments))
is_no_vector d keys.Vector arguments = is_none (vector_of d.rows (first arguments))
is_no_vector d _ arguments = false

-- The faults that a line with this key can have, in ascending order, each with whether it applies.
abbrev pub keyed_faults : Family → Draft → Key → List Bytes → List (Fault × Bool)
keyed_faults family d key arguments =
    (faults.Key, is_unknown_choice key arguments) ∷
    (faults.Order, is_out_of_place family d key) ∷
    (faults.Arguments, is_ill_formed key arguments) ∷
    (faults.Range, is_out_of_range family d key (numbers_of arguments)) ∷
    (faults.Repeated, is_repeated d key (numbers_of arguments)) ∷
    (faults.Limit, exceeds d key (numbers_of arguments)) ∷
    (faults.Shape, is_no_vector d key arguments) ∷ []

-- the fault of a line with this key
abbrev pub keyed_fault : Family → Draft → Key → List Bytes → Option Fault
keyed_fault family d key arguments = least (keyed_faults family d key arguments)

-- ---- what a line says

-- the vector of the first argument; not asked where that is none
abbrev pub first_vector : Draft → List Bytes → ℕ
first_vector d arguments = unwrap_or (vector_of d.rows (first arguments)) 0

-- the draft after a line without a fault
abbrev pub said : Draft → Key → List Bytes → Draft
said d keys.Vertices arguments =
    record d { rank = rank_of keys.Vertices; vertices = first_number (numbers_of arguments) }
said d keys.Rows arguments =
    record d { rank = rank_of keys.Rows; rows = first_number (numbers_of arguments) }
said d keys.Target arguments =
    record d { rank = rank_of keys.Target; target = first_vector d arguments }
said d keys.Edge arguments = record d {
  rank = rank_of keys.Edge;
  ends = d.ends ++ (first_number (numbers_of arguments), second_number (numbers_of arguments)) ∷ [];
}
said d keys.Vector arguments =
    record d { rank = rank_of keys.Vector; vectors = d.vectors ++ first_vector d arguments ∷ [] }
said d keys.X arguments = record d { rank = rank_of keys.X; x = set_of (numbers_of arguments) }
said d keys.Y arguments = record d { rank = rank_of keys.Y; y = set_of (numbers_of arguments) }
said d keys.Turn arguments = record d { rank = rank_of keys.Turn; turn = side_of (first arguments) }

-- The draft after a line with this key, or the line's fault.
unfoldable pub keyed : Family → Draft → Key → List Bytes → Result Draft Fault
keyed family d key arguments = unless (keyed_fault family d key arguments) (said d key arguments)

-- the draft after a line whose first word stands for this key, or the line's fault
abbrev pub named : Family → Draft → Option Key → List Bytes → Result Draft Fault
named family d None arguments = Err faults.Key
named family d (Some key) arguments = keyed family d key arguments

-- the words of the first significant line
abbrev pub is_header : Family → List Bytes → Bool
is_header family (word ∷ version ∷ []) =
    bytes_eq word (header_word family) && bytes_eq version (codes "1")
is_header family _ = false

-- The draft after a significant line, or its fault.
unfoldable pub significant : Family → Draft → List Bytes → Result Draft Fault
significant family d ws = if d.begun
    then named family d (key_of family (first ws)) (rest ws)
    else if is_header family ws
    then Ok (record d { begun = true })
    else Err faults.Header

-- The draft after a line, or the line's fault.
unfoldable pub after : Family → Draft → Bytes → Result Draft Fault
after family d line = if not (list_all is_printable line)
    then Err faults.Bytes
    else if begins_comment line || length (words line) == 0
    then Ok d
    else significant family d (words line)

-- ---- the whole file

-- what a whole file has said, with the side to move
pub record Whole : Type 0 where
  pub draft : Draft
  pub turn : Side

-- At the end of the file it may lack its last line.
abbrev pub turned : Draft → Option Side → Result Whole (Fault × ℕ)
turned d None = Err (faults.Ends, 0)
turned d (Some turn) = Ok (record { draft = d; turn = turn })

-- what the lines have said, or what the file lacks
abbrev pub ended : Result Draft (Fault × ℕ) → Result Whole (Fault × ℕ)
ended (Err fault) = Err fault
ended (Ok d) = if d.begun then turned d d.turn else Err (faults.Header, 0)

-- What a file of the family says, or its fault with the number of the line.
unfoldable pub whole : Family → Bytes → Result Whole (Fault × ℕ)
whole family text = if nat_lt MAX_GAME_BYTES (length text)
    then Err (faults.Size, 0)
    else ended (reading (after family) 1 nothing (lines text))

-- what is made of a whole file, if it has no fault
abbrev pub made : {G : Type 0} → (Whole → G) → Result Whole (Fault × ℕ) → Result G (Fault × ℕ)
made make (Ok w) = Ok (make w)
made make (Err fault) = Err fault

-- ---- connectivity games

-- a connectivity game as a file says it
pub record SpanEntry : Type 0 where
  pub graph : Graph
  pub x : FinSet nat_cmp
  pub y : FinSet nat_cmp
  pub turn : Side

abbrev pub span_of : Whole → SpanEntry
span_of w = record {
  graph = record { vertices = w.draft.vertices; s = 0; t = 1; ends = w.draft.ends };
  x = w.draft.x;
  y = w.draft.y;
  turn = w.turn;
}

-- The connectivity game that a text says, or its fault with the number of the line.
abbrev pub span_game : Bytes → Result SpanEntry (Fault × ℕ)
span_game text = made span_of (whole families.Connectivity text)

-- ---- games on vectors

-- a game on vectors as a file says it
pub record VectorEntry : Type 0 where
  pub rows : ℕ
  pub target : ℕ
  pub vectors : List ℕ
  pub x : FinSet nat_cmp
  pub y : FinSet nat_cmp
  pub turn : Side

abbrev pub vectors_of : Whole → VectorEntry
vectors_of w = record {
  rows = w.draft.rows;
  target = w.draft.target;
  vectors = w.draft.vectors;
  x = w.draft.x;
  y = w.draft.y;
  turn = w.turn;
}

-- The game on vectors that a text says, or its fault with the number of the line.
abbrev pub vector_game : Bytes → Result VectorEntry (Fault × ℕ)
vector_game text = made vectors_of (whole families.Vectors text)
