-- The text of a plan.
use Rattle.std.specs.Prelude.{List, [], ◌∷◌, ◌++◌, codes, map}
use Rattle.pg_plan.specs.Prelude.{Bytes, decimal, flat_map, spelled}
use Rattle.pg_plan.specs.declared.line.TheConstants.{COLON}
use Rattle.pg_plan.specs.declared.place.Place.{Place}
use Rattle.pg_plan.specs.declared.place.Place.TheVariants.{Decided, Game, Image, Moves}
use Rattle.pg_plan.specs.declared.place.Step.{Step}

-- the words of the first line
abbrev pub header : List Bytes
header = codes "posgame-plan" ∷ codes "1" ∷ []

-- a point and a position as a word
abbrev pub step_word : Step → Bytes
step_word s = decimal s.point ++ COLON ∷ decimal s.place

-- the words of a position's line
abbrev pub place_words : Place → List Bytes
place_words Decided = codes "decided" ∷ []
place_words (Image m j) = codes "image" ∷ decimal m ∷ decimal j ∷ []
place_words (Game k steps) = codes "game" ∷ decimal k ∷ map step_word steps
place_words (Moves steps) = codes "moves" ∷ map step_word steps

-- the text of a plan: a first line, and a line for each position
unfoldable pub printed_plan : List Place → Bytes
printed_plan places = spelled header ++ flat_map (λ p. spelled (place_words p)) places
