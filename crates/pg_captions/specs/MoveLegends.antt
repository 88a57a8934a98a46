-- Titles and legends of recorded games.
use Rattle.std.specs.Prelude.{ℕ, ◌++◌, nat_lt, Bool, true, false, if◌then◌else◌, List, [], ◌∷◌}
use Rattle.std.specs.Prelude.{length, codes}
use Rattle.pg_captions.specs.Prelude.{decimal, Kind, Game, Position}
use Rattle.pg_captions.specs.Legends.{board_lines, turn_line}
use Rattle.pg_captions.specs.Words.{kind_title}
use Rattle.pg_captions.specs.declared.look.Legend.{Legend}
use Rattle.pg_captions.specs.declared.look.Legend.TheVariants.{Absent, OfBody, Whole}
use Rattle.pg_captions.specs.declared.look.Look.{Look}

-- the kind of a game, and how many moves were played
abbrev pub moves_title : Kind → ℕ → List ℕ
moves_title kind count = kind_title kind ++ (codes ", moves played: " ++ decimal count)

-- that the game is over, or who is to move
abbrev pub stage_line : Kind → Position → Bool → List ℕ
stage_line kind p over = if over then codes "the game is over" else turn_line kind p

-- what the numbers are
abbrev pub number_lines : List (List ℕ)
number_lines = codes "numbers in rings: the order of moves;"
    ∷ codes "whole: odd numbers; dashed: even ones" ∷ []

-- the same, if there are moves
abbrev pub order_if : Bool → List (List ℕ)
order_if true = number_lines
order_if false = []

abbrev pub order_lines : List ℕ → List (List ℕ)
order_lines moves = order_if (nat_lt 0 (length moves))

-- the legend
abbrev pub moves_by : Legend → Look → Game → Position → Bool → List ℕ → List (List ℕ)
moves_by Absent look g p over moves = []
moves_by OfBody look g p over moves = order_lines moves
moves_by Whole look g p over moves =
    stage_line g.kind p over ∷ board_lines look g p ++ order_lines moves
