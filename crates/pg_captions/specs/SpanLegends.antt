-- Titles and legends of connectivity games, and of claims of their certificates.
use Rattle.std.specs.Prelude.{ℕ, nat_lt, false, List, [], ◌∷◌, ◌++◌, length, codes, Option, Some}
use Rattle.std.specs.Prelude.{None}
use Rattle.pg_captions.specs.Prelude.{decimal, MakerBreaker, Position, Side, marks_at, SpanBody}
use Rattle.pg_captions.specs.Prelude.{Trees, Parts, SpanClaim, SpanGame, edge_count}
use Rattle.pg_base.specs.declared.goal.Goal.TheVariants.{Win}
use Rattle.pg_captions.specs.Legends.{claim_line, fault_lines, graph_line, sets_lines, turn_line}
use Rattle.pg_captions.specs.Look.{seen_at}
use Rattle.pg_captions.specs.Marks.{marks_lines, said_if, seen_sets}
use Rattle.pg_captions.specs.Words.{result_words}
use Rattle.pg_captions.specs.declared.look.Legend.{Legend}
use Rattle.pg_captions.specs.declared.look.Legend.TheVariants.{Absent, OfBody, Whole}
use Rattle.pg_captions.specs.declared.look.Look.{Look}

-- ---- titles

-- a claim: what its side reaches; or, of an invalid claim, the number of its fault
abbrev pub span_title : Side → Option ℕ → List ℕ
span_title side None = result_words MakerBreaker side Win
span_title side (Some why) = codes "Claim rejected: S" ++ decimal why

-- ---- legends

-- what is said of a game and a position
abbrev pub span_position_lines : Look → SpanGame → Position → List (List ℕ)
span_position_lines look g p = turn_line MakerBreaker p
    ∷ marks_lines (codes "thick: Maker's edges") (codes "dotted: Breaker's edges") p
    (edge_count g.graph)
    ++ graph_line look.numbers g.graph.vertices (length g.graph.ends) ∷ []

-- that an edge is claimed first, if one of the game's is
abbrev pub first_lines : ℕ → Option ℕ → List (List ℕ)
first_lines n (Some v) =
    said_if (nat_lt v n) (codes "1 in a ring: the edge that Maker claims first;")
first_lines n None = []

-- what a body names
abbrev pub span_lines : SpanGame → SpanBody → List (List ℕ)
span_lines g (Trees first a1 a2) = first_lines (edge_count g.graph) first
    ++ sets_lines (seen_sets false (edge_count g.graph) a1 a2) (codes "each set joins all vertices")
span_lines g (Parts parts) = codes "in rings: the numbers of the vertices' parts" ∷ []

-- what is said of a claim
abbrev pub span_claim_lines : Look → SpanGame → SpanClaim → List (List ℕ)
span_claim_lines look g claim = claim_line MakerBreaker claim.turn claim.side Win
    ∷ span_position_lines look g (marks_at g claim.turn) ++ span_lines g claim.body

-- the legend of a game
abbrev pub span_game_by : Legend → Look → SpanGame → List (List ℕ)
span_game_by Absent look g = []
span_game_by OfBody look g = []
span_game_by Whole look g =
    span_position_lines look g (seen_at look.blank (marks_at g g.turn))

-- the legend of a claim: first as if it were valid
abbrev pub span_said_by : Legend → Look → SpanGame → SpanClaim → List (List ℕ)
span_said_by Absent look g claim = []
span_said_by OfBody look g claim = span_lines g claim.body
span_said_by Whole look g claim = span_claim_lines look g claim

abbrev pub span_by : Legend → Look → SpanGame → SpanClaim → Option ℕ → List (List ℕ)
span_by Absent look g claim fault = []
span_by OfBody look g claim fault = span_lines g claim.body
span_by Whole look g claim fault = span_claim_lines look g claim ++ fault_lines fault
