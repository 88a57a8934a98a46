-- The keys of a game file.
use Rattle.std.specs.Prelude.{ℕ, Bool, true, not, nat_lt, Option, List, [], ◌∷◌, codes, find}
use Rattle.std.specs.Prelude.{if◌then◌else◌}
use Rattle.pg_files.specs.Prelude.{bytes_eq, Bytes, Kind, is_switching, greatest_bias}
use Rattle.pg_files.specs.declared.key.Key.{Key}
use Rattle.pg_files.specs.declared.key.Key.TheVariants as keys

-- the word that stands for a key
abbrev pub key_name : Key → Bytes
key_name keys.Kind = codes "kind"
key_name keys.Points = codes "points"
key_name keys.Grid = codes "grid"
key_name keys.Vertices = codes "vertices"
key_name keys.Terminals = codes "terminals"
key_name keys.Bias = codes "bias"
key_name keys.Line = codes "line"
key_name keys.Shape = codes "shape"
key_name keys.Edge = codes "edge"
key_name keys.X = codes "x"
key_name keys.Y = codes "y"
key_name keys.Turn = codes "turn"

-- all keys
abbrev pub all_keys : List Key
all_keys = keys.Kind ∷ keys.Points ∷ keys.Grid ∷ keys.Vertices ∷ keys.Terminals ∷ keys.Bias
    ∷ keys.Line ∷ keys.Shape ∷ keys.Edge ∷ keys.X ∷ keys.Y ∷ keys.Turn ∷ []

-- the key that a word stands for
abbrev pub key_of : Bytes → Option Key
key_of word = find (λ key. bytes_eq (key_name key) word) all_keys

-- keys stand in the order of their ranks
abbrev pub rank_of : Key → ℕ
rank_of keys.Kind = 1
rank_of keys.Points = 2
rank_of keys.Grid = 2
rank_of keys.Vertices = 2
rank_of keys.Terminals = 3
rank_of keys.Bias = 3
rank_of keys.Line = 4
rank_of keys.Shape = 4
rank_of keys.Edge = 4
rank_of keys.X = 5
rank_of keys.Y = 6
rank_of keys.Turn = 7

-- whether games of the kind have the key
abbrev pub belongs : Kind → Key → Bool
belongs kind keys.Points = not (is_switching kind)
belongs kind keys.Grid = not (is_switching kind)
belongs kind keys.Line = not (is_switching kind)
belongs kind keys.Shape = not (is_switching kind)
belongs kind keys.Vertices = is_switching kind
belongs kind keys.Terminals = is_switching kind
belongs kind keys.Edge = is_switching kind
belongs kind keys.Bias = nat_lt 1 (greatest_bias kind)
belongs kind _ = true

-- the greatest rank below the key's of which a key is needed
abbrev pub needed_rank : Kind → Key → ℕ
needed_rank kind keys.Kind = 0
needed_rank kind keys.Points = 1
needed_rank kind keys.Grid = 1
needed_rank kind keys.Vertices = 1
needed_rank kind keys.Terminals = 2
needed_rank kind keys.Bias = 2
needed_rank kind _ = if is_switching kind then 3 else 2
