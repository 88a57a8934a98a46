-- The marks of points, each three characters wide.
use Rattle.std.specs.Prelude.{ℕ, ◌++◌, ◌==◌, Bool, true, false, if◌then◌else◌, ◌∷◌, [], codes}
use Rattle.std.specs.Prelude.{Option}
use Rattle.std.specs.Prelude.{Some, None}
use Rattle.std.specs.FinSet.{contains}
use Rattle.pg_base.specs.Texts.{Bytes}
use Rattle.pg_base.specs.declared.side.Side.{Side}
use Rattle.pg_base.specs.declared.side.Side.TheVariants.{X, Y}
use Rattle.pg_game.specs.declared.position.Position.{Position}
use Rattle.pg_characters.specs.declared.shown.Shown.{Shown}

-- the letter that marks the points of a side
abbrev pub letter_of : Side → Bytes
letter_of X = codes "X"
letter_of Y = codes "O"

-- the bytes that begin the colour of a side on a terminal, and those that end it
abbrev pub colour_of : Side → Bytes
colour_of X = 27 ∷ codes "[31m"
colour_of Y = 27 ∷ codes "[34m"

abbrev pub plain : Bytes
plain = 27 ∷ codes "[0m"

-- what begins and ends a colour, if marks are coloured
abbrev pub tint : Bool → Side → Bytes
tint colour side = if colour then colour_of side else []

abbrev pub untint : Bool → Bytes
untint colour = if colour then plain else []

-- the letter of a side, in its colour if marks are coloured
abbrev pub painted : Bool → Side → Bytes
painted true side = colour_of side ++ (letter_of side ++ plain)
painted false side = letter_of side

-- whether the point is the one that was claimed last
abbrev pub is_last : Option ℕ → ℕ → Bool
is_last None v = false
is_last (Some w) v = w == v

-- the side that has the point: X if both have it
abbrev pub mark_of : Position → ℕ → Option Side
mark_of p v = if contains p.x v then Some X else if contains p.y v then Some Y else None

-- the mark of a point of a side: in brackets if the point was claimed last
abbrev pub mark_text : Shown → ℕ → Side → Bytes
mark_text s v side = if is_last s.last v
    then codes "[" ++ (painted s.look.colour side ++ codes "]")
    else codes " " ++ (painted s.look.colour side ++ codes " ")

-- the mark of a side that has the point, or this text if none has it
abbrev pub mark_or : Shown → ℕ → Bytes → Option Side → Bytes
mark_or s v free None = free
mark_or s v free (Some side) = mark_text s v side

-- the mark of a point, or this text if the point is free
abbrev pub marked : Shown → ℕ → Bytes → Bytes
marked s v free = mark_or s v free (mark_of s.position v)
