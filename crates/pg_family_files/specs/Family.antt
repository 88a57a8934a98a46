-- The families of games with files of their own, and the keys of these.
use Rattle.std.specs.Prelude.{ℕ, Bool, true, false, ◌&&◌, Option, List, [], ◌∷◌, codes, find}
use Rattle.pg_family_files.specs.Prelude.{bytes_eq, Bytes}
use Rattle.pg_family_files.specs.declared.family.Family.{Family}
use Rattle.pg_family_files.specs.declared.family.Family.TheVariants as families
use Rattle.pg_family_files.specs.declared.family.Key.{Key}
use Rattle.pg_family_files.specs.declared.family.Key.TheVariants as keys

-- the first word of a file
abbrev pub header_word : Family → Bytes
header_word families.Connectivity = codes "posgame-span"
header_word families.Vectors = codes "posgame-vectors"

-- the word that stands for a key
abbrev pub key_name : Key → Bytes
key_name keys.Vertices = codes "vertices"
key_name keys.Edge = codes "edge"
key_name keys.Rows = codes "rows"
key_name keys.Target = codes "target"
key_name keys.Vector = codes "vector"
key_name keys.X = codes "x"
key_name keys.Y = codes "y"
key_name keys.Turn = codes "turn"

-- all keys
abbrev pub all_keys : List Key
all_keys = keys.Vertices ∷ keys.Edge ∷ keys.Rows ∷ keys.Target ∷ keys.Vector ∷ keys.X ∷ keys.Y
    ∷ keys.Turn ∷ []

abbrev pub is_connectivity : Family → Bool
is_connectivity families.Connectivity = true
is_connectivity families.Vectors = false

abbrev pub is_vectors : Family → Bool
is_vectors families.Connectivity = false
is_vectors families.Vectors = true

-- whether games of the family have the key
abbrev pub has_key : Family → Key → Bool
has_key family keys.Vertices = is_connectivity family
has_key family keys.Edge = is_connectivity family
has_key family keys.Rows = is_vectors family
has_key family keys.Target = is_vectors family
has_key family keys.Vector = is_vectors family
has_key family _ = true

-- the key of the family that a word stands for
abbrev pub key_of : Family → Bytes → Option Key
key_of family word = find (λ key. has_key family key && bytes_eq (key_name key) word) all_keys

-- keys stand in the order of their ranks
abbrev pub rank_of : Key → ℕ
rank_of keys.Vertices = 2
rank_of keys.Rows = 2
rank_of keys.Target = 3
rank_of keys.Edge = 4
rank_of keys.Vector = 4
rank_of keys.X = 5
rank_of keys.Y = 6
rank_of keys.Turn = 7

-- the rank of the last key that must stand before those of rank 4
abbrev pub head_rank : Family → ℕ
head_rank families.Connectivity = 2
head_rank families.Vectors = 3

-- the greatest rank below the key's of which a key is needed, 0 where none is
abbrev pub needed_rank : Family → Key → ℕ
needed_rank family keys.Vertices = 0
needed_rank family keys.Rows = 0
needed_rank family keys.Target = 2
needed_rank family _ = head_rank family
