-- Legends: what is said of a game, of a position, and of what a node's body names.
use Rattle.std.specs.Prelude.{ℕ, ◌++◌, nat_lt, Bool, ◌&&◌, if◌then◌else◌, List, [], ◌∷◌}
use Rattle.std.specs.Prelude.{length, codes, Option, Some, None}
use Rattle.pg_captions.specs.Prelude.{decimal, count_text, Kind, AvoiderEnforcer, MakerBreaker}
use Rattle.pg_captions.specs.Prelude.{MakerMaker, Switching, Side, Claim, Body, lines_of, Field}
use Rattle.pg_captions.specs.Prelude.{Lines}
use Rattle.pg_captions.specs.Prelude.{Graph, Game, Position, is_graph, point_count}
use Rattle.pg_base.specs.Side.{other}
use Rattle.pg_base.specs.declared.goal.Goal.{Goal}
use Rattle.pg_base.specs.declared.side.Side.TheVariants.{X, Y}
use Rattle.pg_cert.specs.declared.node.Body.TheVariants as bodies
use Rattle.pg_captions.specs.Look.{are_drawn}
use Rattle.pg_captions.specs.Marks.{marks_lines, said_if, seen_lines, seen_sets}
use Rattle.pg_captions.specs.Lightest.{base_of, most_free, own_of}
use Rattle.pg_captions.specs.Words.{result_words, side_name}
use Rattle.pg_captions.specs.declared.look.Legend.{Legend}
use Rattle.pg_captions.specs.declared.look.Legend.TheVariants.{Absent, OfBody, Whole}
use Rattle.pg_captions.specs.declared.look.Look.{Look}
use Rattle.pg_captions.specs.declared.marks.Seen.{Seen}

-- ---- a position

-- who is to move, with how many points it still claims if these are several
abbrev pub turn_line : Kind → Position → List ℕ
turn_line kind p = side_name kind p.turn ++ (codes " to move"
    ++ (if nat_lt 1 p.left then count_text (codes ", ") p.left (codes " points") else []))

-- how many points Y claims in a turn
abbrev pub bias_line : Kind → ℕ → List ℕ
bias_line kind bias =
    side_name kind Y ++ count_text (codes " claims ") bias (codes " points a turn")

-- how the points of a side look
abbrev pub mark_words : Kind → Side → List ℕ
mark_words MakerBreaker X = codes "X, dark: Maker"
mark_words MakerBreaker Y = codes "Y, light: Breaker"
mark_words MakerMaker X = codes "dark: X"
mark_words MakerMaker Y = codes "light: Y"
mark_words AvoiderEnforcer X = codes "X, dark: Avoider"
mark_words AvoiderEnforcer Y = codes "Y, light: Enforcer"
mark_words Switching X = codes "thick: Short's edges"
mark_words Switching Y = codes "dotted: Cut's edges"

-- ---- a board

-- how many vertices and edges there are
abbrev pub graph_words : ℕ → ℕ → List ℕ
graph_words vertices edges =
    codes "vertices: " ++ (decimal vertices ++ (codes ", edges: " ++ decimal edges))

-- the same, and whether they have numbers
abbrev pub graph_line : Bool → ℕ → ℕ → List ℕ
graph_line numbers vertices edges =
    graph_words vertices edges ++ (if numbers then codes ", with numbers" else [])

-- how many points there are, or vertices and edges
abbrev pub size_line : Bool → Field → List ℕ
size_line numbers (Lines f) =
    count_text (codes "points: ") f.points (if numbers then codes ", each with its number" else [])
size_line numbers (Graph h) = graph_line numbers h.vertices (length h.ends)

-- how many lines there are, and how they look
abbrev pub lines_line : Bool → List (List ℕ) → List ℕ
lines_line seen lines = if are_drawn seen lines
    then codes "lines in grey, each from its dot: " ++ decimal (length lines)
    else codes "lines, not drawn: " ++ decimal (length lines)

-- the lines of a game, or the terminals
abbrev pub field_line : Bool → Field → List ℕ
field_line seen (Lines f) = lines_line seen f.lines
field_line seen (Graph h) = codes "grey: the two terminals"

-- ---- bodies

-- a move, and the node that follows
abbrev pub ring_lines : Kind → Side → List (List ℕ)
ring_lines kind side = (side_name kind side ++ codes " claims a ringed point;")
    ∷ codes "in the ring: the next position" ∷ []

-- a pairing, by which a side answers
abbrev pub pairs_lines : Kind → Side → List (List ℕ)
pairs_lines kind side = (codes "each stroke is a pair: when " ++ side_name kind (other side))
    ∷ (codes "claims one end, " ++ (side_name kind side ++ codes " claims the other")) ∷ []

-- the weight of the lightest line
abbrev pub lightest_line : ℕ → List ℕ
lightest_line free = count_text (codes "a line with ") free (codes " free points weighs 1,")

-- the weights of other lines
abbrev pub heavier_line : ℕ → List ℕ
heavier_line base = count_text (codes "and ") base (codes " times as much with each less")

-- what the weights of points are sums of
abbrev pub weights_lines : ℕ → ℕ → List (List ℕ)
weights_lines base free = codes "bold: the weight of a point, which is"
    ∷ codes "the sum of the weights of its lines;"
    ∷ lightest_line free ∷ heavier_line base ∷ []

-- two sets of edges, as they are seen, and what each of them does
abbrev pub sets_lines : Seen → List ℕ → List (List ℕ)
sets_lines seen does = seen_lines seen (codes "whole: the first set of edges;")
    (codes "dashed: the second set of edges;")
    ++ does ∷ said_if seen.further (codes "e: an extra edge, in the first set")

-- attacks and replies
abbrev pub threat_lines : List (List ℕ)
threat_lines = codes "numbers in rings: the order of moves;"
    ∷ codes "whole: attacks; dashed: forced replies" ∷ []

-- that a position is no worse for a side than another node's
abbrev pub weaker_lines : Kind → Side → ℕ → List (List ℕ)
weaker_lines kind side child =
    (codes "no worse for " ++ (side_name kind side ++ (codes " than position " ++ decimal child)))
    ∷ []

-- what a body names, if the claimer is that side
abbrev pub body_lines : Game → Position → Side → Body → List (List ℕ)
body_lines g p side bodies.Over = codes "the game is over" ∷ []
body_lines g p side (bodies.Move v child) = ring_lines g.kind side
body_lines g p side (bodies.All replies) = ring_lines g.kind (other side)
body_lines g p side (bodies.Pairs pairs) = pairs_lines g.kind side
body_lines g p side bodies.Potential =
    weights_lines (base_of g.kind g.bias) (most_free (own_of g.kind p side) p (lines_of g))
body_lines g p side (bodies.Trees with_e first second) =
    sets_lines (seen_sets (with_e && is_graph g.field) (point_count g) first second)
    (codes "each set joins the terminals")
body_lines g p side (bodies.Cuts with_e first second) =
    sets_lines (seen_sets (with_e && is_graph g.field) (point_count g) first second)
    (codes "each set separates the terminals")
body_lines g p side (bodies.Threat points) = threat_lines
body_lines g p side (bodies.Weaker child) = weaker_lines g.kind side child

-- that a node is invalid, if it is
abbrev pub fault_lines : Option ℕ → List (List ℕ)
fault_lines (Some why) = codes "red cross: not proved" ∷ []
fault_lines None = []

-- ---- legends

-- what is said of a game, with the marks that are seen at a position
abbrev pub board_lines : Look → Game → Position → List (List ℕ)
board_lines look g p = said_if (nat_lt 1 g.bias) (bias_line g.kind g.bias)
    ++ (marks_lines (mark_words g.kind X) (mark_words g.kind Y) p (point_count g)
    ++ size_line look.numbers g.field ∷ field_line look.lines g.field ∷ [])

-- what is said of a game and a position
abbrev pub position_lines : Look → Game → Position → List (List ℕ)
position_lines look g p = turn_line g.kind p ∷ board_lines look g p

-- what a claim says
abbrev pub claim_line : Kind → Side → Side → Goal → List ℕ
claim_line kind turn side goal = result_words kind side goal
    ++ (codes " if " ++ (side_name kind turn ++ codes " moves first"))

-- what is said of a node of a claim
abbrev pub node_lines : Look → Game → Claim → Position → Body → List (List ℕ)
node_lines look g claim p body = claim_line g.kind claim.turn claim.side claim.goal
    ∷ position_lines look g p ++ body_lines g p claim.side body

-- the legend of a game
abbrev pub game_by : Legend → Look → Game → Position → List (List ℕ)
game_by Absent look g p = []
game_by OfBody look g p = []
game_by Whole look g p = position_lines look g p

abbrev pub game_legend : Look → Game → Position → List (List ℕ)
game_legend look g p = game_by look.legend look g p

-- the legend of a node: first as if it were valid
abbrev pub said_by : Legend → Look → Game → Claim → Position → Body → List (List ℕ)
said_by Absent look g claim p body = []
said_by OfBody look g claim p body = body_lines g p claim.side body
said_by Whole look g claim p body = node_lines look g claim p body

abbrev pub node_by : Legend → Look → Game → Claim → Position → Body → Option ℕ → List (List ℕ)
node_by Absent look g claim p body fault = []
node_by OfBody look g claim p body fault = body_lines g p claim.side body
node_by Whole look g claim p body fault = node_lines look g claim p body ++ fault_lines fault

abbrev pub node_legend : Look → Game → Claim → Position → Body → Option ℕ → List (List ℕ)
node_legend look g claim p body fault = node_by look.legend look g claim p body fault
