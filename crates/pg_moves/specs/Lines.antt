-- What is printed of the moves of a game.
use Rattle.std.specs.Prelude.{ℕ, List, ◌++◌, Option, Some, None, codes, decimal}
use Rattle.pg_moves.specs.Prelude.{Bytes, Kind, Side, flat_map, json_line, outcome_word}
use Rattle.pg_moves.specs.Prelude.{unknown_text}
use Rattle.pg_moves.specs.JsonLines.{moves_data}
use Rattle.pg_moves.specs.declared.trial.Trial.{Trial}
use Rattle.pg_moves.specs.declared.trial.Worth.{Worth}
use Rattle.pg_moves.specs.declared.trial.Worth.TheVariants.{Known, Unknown}

-- the value in a word, how many nodes the certificate has and how many positions were expanded; or
-- that it is unknown after so many positions
abbrev pub worth_words : Kind → Worth → Bytes
worth_words kind (Known score nodes expanded) = outcome_word kind score
    ++ (codes " nodes " ++ (decimal nodes ++ (codes " expanded " ++ (decimal expanded
    ++ codes "\n"))))
worth_words kind (Unknown expanded) = unknown_text expanded

-- the line of a move
abbrev pub trial_line : Kind → Trial → Bytes
trial_line kind t = decimal t.point ++ (codes " " ++ worth_words kind t.worth)

abbrev pub point_words : ℕ → Bytes
point_words v = codes " " ++ decimal v

-- the line of the best moves
abbrev pub best_line : Option (List ℕ) → Bytes
best_line None = codes "best unknown\n"
best_line (Some points) = codes "best" ++ (flat_map point_words points ++ codes "\n")

-- all lines
abbrev pub moves_lines : Kind → List Trial → Option (List ℕ) → Bytes
moves_lines kind trials best = flat_map (trial_line kind) trials ++ best_line best

-- THE TEXT: the lines; or, where JSON is asked for, the line of the game's file with this name
abbrev pub moves_text : Option Bytes → Kind → Side → List Trial → Option (List ℕ) → Bytes
moves_text None kind turn trials best = moves_lines kind trials best
moves_text (Some name) kind turn trials best = json_line (moves_data name kind turn trials best)
