-- Legends are short.
use Rattle.std.proofs.Common.{ℕ, ◌≤◌, Bool, true, false, List, [], ◌∷◌, ◌++◌, length, Option, Some}
use Rattle.std.proofs.Common.{None, arith}
use Rattle.std.specs.Prelude.{codes, nat_lt, ◌&&◌, ◌||◌}
use Rattle.pg_base.specs.declared.side.Side.TheVariants.{X, Y}
use Rattle.pg_captions.proofs.Common.{VecGame, at_turn, edge_count, is_graph, point_count}
use Rattle.pg_captions.proofs.Common.{length-append, Side, Claim, Body, Game, Position, marks_at}
use Rattle.pg_captions.proofs.Common.{SpanBody, SpanClaim, SpanGame, Parts, Trees}
use Rattle.pg_cert.specs.declared.node.Body.TheVariants as bodies
use Rattle.pg_captions.specs.Legends.{bias_line, board_lines, body_lines, fault_lines, field_line}
use Rattle.pg_captions.specs.Legends.{game_by, mark_words, node_by, node_lines, position_lines}
use Rattle.pg_captions.specs.Legends.{sets_lines, size_line}
use Rattle.pg_captions.specs.Look.{seen_at}
use Rattle.pg_captions.specs.Marks.{are_marked, marks_by, marks_lines, said_if, seen_lines}
use Rattle.pg_captions.specs.Marks.{seen_sets}
use Rattle.pg_captions.specs.MoveLegends.{moves_by, order_if, order_lines}
use Rattle.pg_captions.specs.SpanLegends.{first_lines, span_by, span_claim_lines, span_game_by}
use Rattle.pg_captions.specs.SpanLegends.{span_lines, span_position_lines}
use Rattle.pg_captions.specs.Legends.{graph_line}
use Rattle.pg_captions.specs.VectorLegends.{vector_by, vector_game_by, vector_lines}
use Rattle.pg_captions.specs.VectorLegends.{vector_node_lines, vector_position_lines}
use Rattle.pg_captions.specs.VectorLegends.{vector_sets_lines, vectors_line}
use Rattle.pg_captions.specs.declared.marks.Seen.{Seen}
use Rattle.pg_captions.specs.declared.look.Legend.{Legend}
use Rattle.pg_captions.specs.declared.look.Legend.TheVariants.{Absent, OfBody, Whole}
use Rattle.pg_captions.specs.declared.look.Look.{Look}

-- ---- games and nodes

said-few : (b : Bool) (line : List ℕ) → length (said_if b line) ≤ 1
said-few true line = omega arith
said-few false line = omega arith

marks-few : (x y : List ℕ) (of_x of_y : Bool) → length (marks_by x y of_x of_y) ≤ 1
marks-few x y true true = omega arith
marks-few x y true false = omega arith
marks-few x y false true = omega arith
marks-few x y false false = omega arith

board-few : (look : Look) (g : Game) (p : Position) → length (board_lines look g p) ≤ 4
board-few look g p =
    let n = point_count g in
    let bias = said_if (nat_lt 1 g.bias) (bias_line g.kind g.bias) in
    let marks = marks_lines (mark_words g.kind X) (mark_words g.kind Y) p n in
    let last = size_line look.numbers g.field ∷ field_line look.lines g.field ∷ [] in
    let few = said-few (nat_lt 1 g.bias) (bias_line g.kind g.bias) in
    let marked = marks-few (mark_words g.kind X) (mark_words g.kind Y) (are_marked p n X)
    (are_marked p n Y) in
    omega (arith, few, marked, length-append bias (marks ++ last), length-append marks last)

position-few : (look : Look) (g : Game) (p : Position) → length (position_lines look g p) ≤ 5
position-few look g p =
    let few = board-few look g p in
    omega (arith, few)

order_if-few : (b : Bool) → length (order_if b) ≤ 2
order_if-few true = omega arith
order_if-few false = omega arith

order-few : (moves : List ℕ) → length (order_lines moves) ≤ 2
order-few moves = order_if-few (nat_lt 0 (length moves))

pub moves-few : (legend : Legend) (look : Look) (g : Game) (p : Position) (over : Bool)
    (moves : List ℕ)
    → length (moves_by legend look g p over moves) ≤ 7
moves-few Absent look g p over moves = omega arith
moves-few OfBody look g p over moves =
    let few = order-few moves in
    omega (arith, few)
moves-few Whole look g p over moves =
    let board = board-few look g p in
    let order = order-few moves in
    omega (arith, board, order, length-append (board_lines look g p) (order_lines moves))

pub game-few : (legend : Legend) (look : Look) (g : Game) (p : Position)
    → length (game_by legend look g p) ≤ 5
game-few Absent look g p = omega arith
game-few OfBody look g p = omega arith
game-few Whole look g p = position-few look g p

seen-few : (seen : Seen) (first second : List ℕ) → length (seen_lines seen first second) ≤ 2
seen-few seen first second =
    let one = said-few (seen.further || seen.first) first in
    let two = said-few seen.second second in
    omega (
      arith,
      one,
      two,
      length-append (said_if (seen.further || seen.first) first) (said_if seen.second second),
    )

sets-few : (seen : Seen) (does : List ℕ) → length (sets_lines seen does) ≤ 4
sets-few seen does =
    let first = codes "whole: the first set of edges;" in
    let second = codes "dashed: the second set of edges;" in
    let extra = said_if seen.further (codes "e: an extra edge, in the first set") in
    let few = seen-few seen first second in
    let last = said-few seen.further (codes "e: an extra edge, in the first set") in
    omega (arith, few, last, length-append (seen_lines seen first second) (does ∷ extra))

body-few : (g : Game) (p : Position) (side : Side) (body : Body)
    → length (body_lines g p side body) ≤ 4
body-few g p side bodies.Over = omega arith
body-few g p side (bodies.Move v child) = omega arith
body-few g p side (bodies.All replies) = omega arith
body-few g p side (bodies.Pairs pairs) = omega arith
body-few g p side bodies.Potential = omega arith
body-few g p side (bodies.Trees with_e first second) =
    sets-few (seen_sets (with_e && is_graph g.field) (point_count g) first second)
    (codes "each set joins the terminals")
body-few g p side (bodies.Cuts with_e first second) =
    sets-few (seen_sets (with_e && is_graph g.field) (point_count g) first second)
    (codes "each set separates the terminals")
body-few g p side (bodies.Threat points) = omega arith
body-few g p side (bodies.Weaker child) = omega arith

fault-few : (fault : Option ℕ) → length (fault_lines fault) ≤ 1
fault-few (Some why) = omega arith
fault-few None = omega arith

pub node-few : (legend : Legend) (look : Look) (g : Game) (claim : Claim) (p : Position)
    (body : Body) (fault : Option ℕ)
    → length (node_by legend look g claim p body fault) ≤ 11
node-few Absent look g claim p body fault = omega arith
node-few OfBody look g claim p body fault =
    let few = body-few g p claim.side body in
    omega (arith, few)
node-few Whole look g claim p body fault =
    let position = position-few look g p in
    let few = body-few g p claim.side body in
    let faulty = fault-few fault in
    let all = length-append (node_lines look g claim p body) (fault_lines fault) in
    let inner = length-append (position_lines look g p) (body_lines g p claim.side body) in
    omega (arith, position, few, faulty, all, inner)

-- ---- connectivity games

first-few : (n : ℕ) (first : Option ℕ) → length (first_lines n first) ≤ 1
first-few n (Some v) =
    said-few (nat_lt v n) (codes "1 in a ring: the edge that Maker claims first;")
first-few n None = omega arith

span-few : (g : SpanGame) (body : SpanBody) → length (span_lines g body) ≤ 5
span-few g (Trees first a1 a2) =
    let n = edge_count g.graph in
    let few = first-few n first in
    let seen = seen_sets false n a1 a2 in
    let sets = sets-few seen (codes "each set joins all vertices") in
    let last = sets_lines seen (codes "each set joins all vertices") in
    omega (arith, few, sets, length-append (first_lines n first) last)
span-few g (Parts parts) = omega arith

span_position-few : (look : Look) (g : SpanGame) (p : Position)
    → length (span_position_lines look g p) ≤ 3
span_position-few look g p =
    let n = edge_count g.graph in
    let x = codes "thick: Maker's edges" in
    let y = codes "dotted: Breaker's edges" in
    let last = graph_line look.numbers g.graph.vertices (length g.graph.ends) ∷ [] in
    let few = marks-few x y (are_marked p n X) (are_marked p n Y) in
    omega (arith, few, length-append (marks_lines x y p n) last)

pub span_game-few : (legend : Legend) (look : Look) (g : SpanGame)
    → length (span_game_by legend look g) ≤ 3
span_game-few Absent look g = omega arith
span_game-few OfBody look g = omega arith
span_game-few Whole look g = span_position-few look g (seen_at look.blank (marks_at g g.turn))

pub span_claim-few : (legend : Legend) (look : Look) (g : SpanGame) (claim : SpanClaim)
    (fault : Option ℕ)
    → length (span_by legend look g claim fault) ≤ 10
span_claim-few Absent look g claim fault = omega arith
span_claim-few OfBody look g claim fault =
    let few = span-few g claim.body in
    omega (arith, few)
span_claim-few Whole look g claim fault =
    let p = marks_at g claim.turn in
    let few = span-few g claim.body in
    let faulty = fault-few fault in
    let position = span_position-few look g p in
    let all = length-append (span_claim_lines look g claim) (fault_lines fault) in
    let inner = length-append (span_position_lines look g p) (span_lines g claim.body) in
    omega (arith, few, faulty, position, all, inner)

-- ---- games on vectors

vector_sets-few : (seen : Seen) (does : List ℕ) → length (vector_sets_lines seen does) ≤ 4
vector_sets-few seen does =
    let first = codes "whole line: the first set of vectors;" in
    let second = codes "dashed line: the second set of vectors;" in
    let target = said_if seen.further (codes "the target is in the first set too") in
    let few = seen-few seen first second in
    let last = said-few seen.further (codes "the target is in the first set too") in
    omega (arith, few, last, length-append (seen_lines seen first second) (does ∷ target))

vector-few : (g : VecGame) (body : Body) → length (vector_lines g body) ≤ 4
vector-few g bodies.Over = omega arith
vector-few g (bodies.Move v child) = omega arith
vector-few g (bodies.All replies) = omega arith
vector-few g (bodies.Pairs pairs) = omega arith
vector-few g bodies.Potential = omega arith
vector-few g (bodies.Trees with_e first second) =
    vector_sets-few (seen_sets with_e (length g.vectors) first second)
    (codes "with Short's, each set has the target as a sum")
vector-few g (bodies.Cuts with_e first second) =
    vector_sets-few (seen_sets with_e (length g.vectors) first second)
    (codes "without either set the target is no sum")
vector-few g (bodies.Threat points) = omega arith
vector-few g (bodies.Weaker child) = omega arith

vector_position-few : (g : VecGame) (p : Position) → length (vector_position_lines g p) ≤ 4
vector_position-few g p =
    let n = length g.vectors in
    let x = codes "X, dark: Short" in
    let y = codes "Y, light: Cut" in
    let last = vectors_line n g.rows ∷ codes "last row: the target, a sum for Short" ∷ [] in
    let few = marks-few x y (are_marked p n X) (are_marked p n Y) in
    omega (arith, few, length-append (marks_lines x y p n) last)

pub vector_game-few : (legend : Legend) (look : Look) (g : VecGame)
    → length (vector_game_by legend look g) ≤ 4
vector_game-few Absent look g = omega arith
vector_game-few OfBody look g = omega arith
vector_game-few Whole look g = vector_position-few g (seen_at look.blank (at_turn g g.turn))

pub vector_node-few : (legend : Legend) (g : VecGame) (claim : Claim) (p : Position) (body : Body)
    (fault : Option ℕ)
    → length (vector_by legend g claim p body fault) ≤ 10
vector_node-few Absent g claim p body fault = omega arith
vector_node-few OfBody g claim p body fault =
    let few = vector-few g body in
    omega (arith, few)
vector_node-few Whole g claim p body fault =
    let few = vector-few g body in
    let faulty = fault-few fault in
    let position = vector_position-few g p in
    let all = length-append (vector_node_lines g claim p body) (fault_lines fault) in
    let inner = length-append (vector_position_lines g p) (vector_lines g body) in
    omega (arith, few, faulty, position, all, inner)
