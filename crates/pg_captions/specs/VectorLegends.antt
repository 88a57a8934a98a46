-- Titles and legends of games on vectors, and of nodes of their certificates.
use Rattle.std.specs.Prelude.{ℕ, List, [], ◌∷◌, ◌++◌, length, codes, Option, Some, None}
use Rattle.pg_captions.specs.Prelude.{decimal, Switching, Position, Claim, Body, VecGame}
use Rattle.pg_captions.specs.Prelude.{at_turn}
use Rattle.pg_cert.specs.declared.node.Body.TheVariants as bodies
use Rattle.pg_captions.specs.Legends.{claim_line, fault_lines, turn_line}
use Rattle.pg_captions.specs.Look.{seen_at}
use Rattle.pg_captions.specs.Marks.{marks_lines, said_if, seen_lines, seen_sets}
use Rattle.pg_captions.specs.Words.{node_title}
use Rattle.pg_captions.specs.declared.look.Legend.{Legend}
use Rattle.pg_captions.specs.declared.look.Legend.TheVariants.{Absent, OfBody, Whole}
use Rattle.pg_captions.specs.declared.look.Look.{Look}
use Rattle.pg_captions.specs.declared.marks.Seen.{Seen}

-- ---- titles

-- a node: what the claim's side reaches there; or, of an invalid node, the number of its fault
abbrev pub vector_title : Claim → ℕ → Option ℕ → List ℕ
vector_title claim node None = node_title Switching claim node None
vector_title claim node (Some why) =
    codes "Position " ++ (decimal node ++ (codes ": rejected V" ++ decimal why))

-- ---- legends

-- how many vectors there are, and how many entries each has
abbrev pub vectors_line : ℕ → ℕ → List ℕ
vectors_line vectors entries =
    codes "vectors: " ++ (decimal vectors ++ (codes ", entries of each: " ++ decimal entries))

-- what is said of a game and a position
abbrev pub vector_position_lines : VecGame → Position → List (List ℕ)
vector_position_lines g p = turn_line Switching p
    ∷ marks_lines (codes "X, dark: Short") (codes "Y, light: Cut") p (length g.vectors)
    ++ vectors_line (length g.vectors) g.rows
    ∷ codes "last row: the target, a sum for Short" ∷ []

-- two sets of vectors, as they are seen, and what they do
abbrev pub vector_sets_lines : Seen → List ℕ → List (List ℕ)
vector_sets_lines seen does = seen_lines seen (codes "whole line: the first set of vectors;")
    (codes "dashed line: the second set of vectors;")
    ++ does ∷ said_if seen.further (codes "the target is in the first set too")

-- what a body names
abbrev pub vector_lines : VecGame → Body → List (List ℕ)
vector_lines g (bodies.Trees with_e first second) =
    vector_sets_lines (seen_sets with_e (length g.vectors) first second)
    (codes "with Short's, each set has the target as a sum")
vector_lines g (bodies.Cuts with_e first second) =
    vector_sets_lines (seen_sets with_e (length g.vectors) first second)
    (codes "without either set the target is no sum")
vector_lines g _ = []

-- what is said of a node of a claim
abbrev pub vector_node_lines : VecGame → Claim → Position → Body → List (List ℕ)
vector_node_lines g claim p body = claim_line Switching claim.turn claim.side claim.goal
    ∷ vector_position_lines g p ++ vector_lines g body

-- the legend of a game
abbrev pub vector_game_by : Legend → Look → VecGame → List (List ℕ)
vector_game_by Absent look g = []
vector_game_by OfBody look g = []
vector_game_by Whole look g = vector_position_lines g (seen_at look.blank (at_turn g g.turn))

-- the legend of a node: first as if it were valid
abbrev pub vector_said_by : Legend → VecGame → Claim → Position → Body → List (List ℕ)
vector_said_by Absent g claim p body = []
vector_said_by OfBody g claim p body = vector_lines g body
vector_said_by Whole g claim p body = vector_node_lines g claim p body

abbrev pub vector_by : Legend → VecGame → Claim → Position → Body → Option ℕ → List (List ℕ)
vector_by Absent g claim p body fault = []
vector_by OfBody g claim p body fault = vector_lines g body
vector_by Whole g claim p body fault = vector_node_lines g claim p body ++ fault_lines fault
