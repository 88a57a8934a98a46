-- The sides.
use Rattle.std.specs.Prelude.{ℕ, Bool, true, false, List, codes, Option, Some, None, if◌then◌else◌}
use Rattle.std.specs.Str.{bytes_eq}
use Rattle.pg_base.specs.declared.side.Side.{Side}
use Rattle.pg_base.specs.declared.side.Side.TheVariants.{X, Y}

-- the side that moves after a side
abbrev pub other : Side → Side
other X = Y
other Y = X

-- whether the two sides are one
abbrev pub is_same_side : Side → Side → Bool
is_same_side X X = true
is_same_side X Y = false
is_same_side Y X = false
is_same_side Y Y = true

-- how files and texts name a side
abbrev pub side_word : Side → List ℕ
side_word X = codes "x"
side_word Y = codes "y"

-- the side that a word names
abbrev pub side_of : List ℕ → Option Side
side_of word = if bytes_eq (side_word X) word
    then Some X
    else if bytes_eq (side_word Y) word
    then Some Y
    else None
