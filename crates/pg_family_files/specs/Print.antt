-- The printed texts of games of the families.
use Rattle.std.specs.Prelude.{ℕ, zero, suc, ◌+◌, ◌/◌, ◌%◌, List, [], ◌∷◌, ◌++◌, map, codes}
use Rattle.pg_family_files.specs.Prelude.{flat_map, Bytes, spelled, number_words, edge_words}
use Rattle.pg_family_files.specs.Prelude.{last_lines, SpanGame, VecGame}
use Rattle.pg_family_files.specs.Family.{header_word, key_name}
use Rattle.pg_family_files.specs.declared.family.Family.{Family}
use Rattle.pg_family_files.specs.declared.family.Family.TheVariants as families
use Rattle.pg_family_files.specs.declared.family.Key.{Key}
use Rattle.pg_family_files.specs.declared.family.Key.TheVariants as keys

-- the words of the first line
abbrev pub header : Family → List Bytes
header family = header_word family ∷ codes "1" ∷ []

-- the words of a key and numbers
abbrev pub numbered : Key → List ℕ → List Bytes
numbered key ns = number_words (key_name key) ns

-- the words of a key and a word
abbrev pub worded : Key → Bytes → List Bytes
worded key word = key_name key ∷ word ∷ []

-- the signs of a vector, the lowest bit first
unfoldable pub signs_of : ℕ → ℕ → Bytes
signs_of zero v = []
signs_of (suc rows) v = (48 + v % 2) ∷ signs_of rows (v / 2)

-- the words of a vector
abbrev pub vector_words : ℕ → ℕ → List Bytes
vector_words rows v = worded keys.Vector (signs_of rows v)

-- the lines of a connectivity game, each as its words
abbrev pub span_lines : SpanGame → List (List Bytes)
span_lines g = header families.Connectivity ∷ numbered keys.Vertices (g.graph.vertices ∷ [])
    ∷ (map edge_words g.graph.ends ++ last_lines g.x g.y g.turn)

-- the lines of a game on vectors, each as its words
abbrev pub vector_lines : VecGame → List (List Bytes)
vector_lines g = header families.Vectors ∷ numbered keys.Rows (g.rows ∷ []) ∷ worded keys.Target
    (signs_of g.rows g.target) ∷ (map (vector_words g.rows) g.vectors ++ last_lines g.x g.y g.turn)

-- The printed text of a connectivity game.
unfoldable pub printed_span : SpanGame → Bytes
printed_span g = flat_map spelled (span_lines g)

-- The printed text of a game on vectors.
unfoldable pub printed_vectors : VecGame → Bytes
printed_vectors g = flat_map spelled (vector_lines g)
