-- What is printed of a game is read again as that game.
use Rattle.std.proofs.Common.{◌≡◌, ℕ, ◌^◌, ◌<◌, ◌≤◌, lit≤, List, [], ◌∷◌, ◌++◌, length, map, arith}
use Rattle.std.proofs.Common.{refl, sym, ap, ap₂, ◌∙◌, Ok}
use Rattle.std.specs.Prelude.{nat_lt, true}
use Rattle.pg_family_files.proofs.Common.{list_all, FinSet, nat_cmp, AreBelow, members}
use Rattle.pg_family_files.proofs.Common.{points_below-length, Side, side_word, Bytes, Graph}
use Rattle.pg_family_files.proofs.Common.{marked, edge_words, last_lines, below-members, smaller}
use Rattle.pg_family_files.proofs.Common.{one_small, two_small, SpanGame, VecGame}
use Rattle.pg_files.specs.declared.key.Key.TheVariants as game_keys
use Rattle.pg_family_files.specs.FamilyFile.{made, span_of, span_game, vectors_of, vector_game}
use Rattle.pg_family_files.specs.Print.{header, numbered, worded, signs_of, vector_words}
use Rattle.pg_family_files.specs.Print.{span_lines, vector_lines, printed_span, printed_vectors}
use Rattle.pg_family_files.specs.Views.{span_entry, vector_entry}
use Rattle.pg_family_files.specs.declared.family.Family.TheVariants as families
use Rattle.pg_family_files.specs.declared.family.Key.TheVariants as keys
use Rattle.pg_family_files.proofs.SignsAgain.{signs_word, signs_length}
use Rattle.pg_family_files.proofs.PrintSize.{AreLinesIn, IsShort, both_in, each_in, header_in}
use Rattle.pg_family_files.proofs.PrintSize.{key_short, numbers_in, word_in, turn_in, marks_in}
use Rattle.pg_family_files.proofs.RoundTrip.{of_edges, of_vectors, rank_within, span_goes}
use Rattle.pg_family_files.proofs.RoundTrip.{vectors_go, file_again}

-- ---- sizes

marks_few : (points : ℕ) (s : FinSet nat_cmp)
    → points ≤ 1000
    → AreBelow s points
    → list_all (λ n. nat_lt n 1000) (members s) ≡ true
marks_few points s few below = smaller points (members s) few (below-members points s below)

last_in : (points : ℕ) (x y : FinSet nat_cmp) (turn : Side)
    → points ≤ 1000
    → AreBelow x points
    → AreBelow y points
    → AreLinesIn (last_lines x y turn) 264708
last_in points x y turn few x_below y_below =
    let a = marks_in game_keys.X (members x) (key_short keys.X) (marks_few points x few x_below)
    (points_below-length x 1024) in
    let b = marks_in game_keys.Y (members y) (key_short keys.Y) (marks_few points y few y_below)
    (points_below-length y 1024) in
    let rest = both_in (marked game_keys.Y (members y))
    (worded keys.Turn (side_word turn) ∷ []) _ _ b (turn_in turn) in
    both_in (marked game_keys.X (members x))
    (marked game_keys.Y (members y) ++ worded keys.Turn (side_word turn) ∷ []) _ _ a rest

wider : (wss : List (List Bytes)) (m n : ℕ) → m ≤ n → AreLinesIn wss m → AreLinesIn wss n
wider wss m n le h = record { words = h.words; few = omega (arith, h.few, le) }

signs_short : (r v : ℕ) → 1 ≤ r → r ≤ 128 → IsShort (signs_of r v)
signs_short r v some few =
    record { word = signs_word r v some; few = omega (arith, signs_length r v) }

span_in : (g : SpanGame) → AreLinesIn (span_lines g) 4194304
span_in g =
    let fits = g.fits in
    let n = g.graph.vertices in
    let ends = g.graph.ends in
    let few : n ≤ 500 = fits.few_vertices in
    let count : length ends ≤ 1000 = fits.graph.few_edges in
    let edges = each_in edge_words 387 (λ e. (e.0 < n) × (e.1 < n)) ends (0, 0) (λ e is.
    let a = is.0 in
    let b = is.1 in
    numbers_in keys.Edge (e.0 ∷ e.1 ∷ [])
    (two_small e.0 e.1 (omega (arith, few, a)) (omega (arith, few, b)))) fits.graph.ends_range in
    let last = last_in (length ends) g.x g.y g.turn count fits.x_range fits.y_range in
    let tail = both_in (map edge_words ends) (last_lines g.x g.y g.turn) _ _ edges last in
    let size = both_in (numbered keys.Vertices (n ∷ []) ∷ [])
    (map edge_words ends ++ last_lines g.x g.y g.turn) _ _
    (numbers_in keys.Vertices (n ∷ []) (one_small n (omega arith))) tail in
    let whole = both_in (header families.Connectivity ∷ [])
    (numbered keys.Vertices (n ∷ []) ∷ (map edge_words ends ++ last_lines g.x g.y g.turn)) _ _
    (header_in families.Connectivity) size in
    wider (span_lines g) _ 4194304 (omega arith) whole

vectors_in : (g : VecGame) → AreLinesIn (vector_lines g) 4194304
vectors_in g =
    let fits = g.fits in
    let r = g.rows in
    let some : 1 ≤ r = fits.some_rows in
    let few : r ≤ 128 = fits.few_rows in
    let count : length g.vectors ≤ 1000 = fits.few_vectors in
    let vectors = each_in (vector_words r) 258 (λ v. v < 2 ^ r) g.vectors 0
    (λ v is. word_in keys.Vector (signs_of r v) (signs_short r v some few)) fits.vectors_range in
    let last = last_in (length g.vectors) g.x g.y g.turn count fits.x_range fits.y_range in
    let tail =
    both_in (map (vector_words r) g.vectors) (last_lines g.x g.y g.turn) _ _ vectors last in
    let goal = both_in (worded keys.Target (signs_of r g.target) ∷ [])
    (map (vector_words r) g.vectors ++ last_lines g.x g.y g.turn) _ _
    (word_in keys.Target (signs_of r g.target) (signs_short r g.target some few)) tail in
    let size = both_in (numbered keys.Rows (r ∷ []) ∷ [])
    (worded keys.Target (signs_of r g.target)
    ∷ (map (vector_words r) g.vectors ++ last_lines g.x g.y g.turn)) _ _
    (numbers_in keys.Rows (r ∷ []) (one_small r (omega arith))) goal in
    let whole = both_in (header families.Vectors ∷ [])
    (numbered keys.Rows (r ∷ []) ∷ worded keys.Target (signs_of r g.target)
    ∷ (map (vector_words r) g.vectors ++ last_lines g.x g.y g.turn)) _ _
    (header_in families.Vectors) size in
    wider (vector_lines g) _ 4194304 (omega arith) whole

-- ---- games

graph_is : (h : Graph)
    → h.s ≡ 0
    → h.t ≡ 1
    → ◌≡◌ {A = Graph} (record { vertices = h.vertices; s = 0; t = 1; ends = h.ends }) h
graph_is h first second = ap₂ (λ (s t : ℕ). record {
  vertices = h.vertices;
  s = s;
  t = t;
  ends = h.ends;
}) (sym first) (sym second)

pub span_again : (g : SpanGame) → span_game (printed_span g) ≡ Ok (span_entry g)
unfolding printed_span
span_again g =
    let fits = g.fits in
    let n = g.graph.vertices in
    let ends = g.graph.ends in
    let rank = rank_within 2 ends (lit≤ tt) in
    let read = file_again families.Connectivity
    (header families.Connectivity ∷ numbered keys.Vertices (n ∷ []) ∷ map edge_words ends)
    (of_edges n ends) g.x g.y g.turn (span_in g)
    (span_goes n ends fits.some_vertices fits.few_vertices fits.graph.ends_range
    fits.graph.few_edges) refl rank.0 (omega (arith, rank.1)) refl refl fits.graph.few_edges
    fits.x_range fits.y_range fits.disjoint in
    ap (made span_of) read
    ∙ ap (λ (h : Graph). Ok (record {
      graph = h;
      x = g.x;
      y = g.y;
      turn = g.turn;
    })) (graph_is g.graph fits.first_terminal fits.second_terminal)

pub vectors_again : (g : VecGame) → vector_game (printed_vectors g) ≡ Ok (vector_entry g)
unfolding printed_vectors
vectors_again g =
    let fits = g.fits in
    let rank = rank_within 3 g.vectors (lit≤ tt) in
    let read = file_again families.Vectors
    (header families.Vectors ∷ numbered keys.Rows (g.rows ∷ [])
    ∷ worded keys.Target (signs_of g.rows g.target) ∷ map (vector_words g.rows) g.vectors)
    (of_vectors g.rows g.target g.vectors) g.x g.y g.turn (vectors_in g)
    (vectors_go g.rows g.target g.vectors fits.some_rows fits.few_rows fits.target_range
    fits.vectors_range fits.few_vectors) refl rank.0
    (omega (arith, rank.1)) refl refl fits.few_vectors fits.x_range fits.y_range fits.disjoint in
    ap (made vectors_of) read
