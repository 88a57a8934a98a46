-- A printed game is within the limit of a file, and its lines are words.
use Rattle.std.proofs.Common.{◌≡◌, ℕ, ◌+◌, ◌*◌, ◌<◌, ◌≤◌, lit<, lit≤, Bool, true, false, cond, List}
use Rattle.std.proofs.Common.{[], ◌∷◌, ◌++◌, length, map, arith, refl, ap, ◌∙◌}
use Rattle.std.specs.Prelude.{nat_lt, sum_by, Option, Some, None}
use Rattle.pg_files.proofs.Common.{decimal, list_all, flat_map, All, AllByRecursion, ltb-true}
use Rattle.pg_files.proofs.Common.{and_parts, length-decimal-le, length-append, All-tail}
use Rattle.pg_files.proofs.Common.{sum_by-cons, flat_map-append, Grid, Kind}
use Rattle.pg_base.specs.declared.kind.Kind.TheVariants as kinds
use Rattle.pg_base.specs.declared.side.Side.{Side}
use Rattle.pg_base.specs.declared.side.Side.TheVariants as sides
use Rattle.pg_files.proofs.Common.{Graph, Field}
use Rattle.pg_game.specs.declared.field.Field.TheVariants as fields
use Rattle.pg_files.proofs.Common.{LineField, field_points, greatest_bias, IsLineOf, AreLinesOf}
use Rattle.pg_files.proofs.Common.{IsBoard, IsFit, Bytes, spaced, spelled, members, kind_word}
use Rattle.pg_files.proofs.Common.{side_word}
use Rattle.pg_files.specs.Print.{header, numbered, worded, marked, size_words, bias_words}
use Rattle.pg_files.specs.Print.{edge_words, field_words, printed, printed_lines}
use Rattle.pg_files.specs.Key.{key_name}
use Rattle.pg_files.specs.GameFile.{Entry}
use Rattle.pg_files.specs.declared.key.Key.{Key}
use Rattle.pg_files.specs.declared.key.Key.TheVariants as keys
use Rattle.pg_files.proofs.Words.{is_word, decimals_are_words}
use Rattle.pg_base.proofs.MemberLemmas.{points_below-length}
use Rattle.pg_files.proofs.SetLaws.{below-members}
use Rattle.pg_files.proofs.RoundTrip.{AreSmall, smaller, one_small, two_small, all_below, factors}
use Rattle.pg_files.proofs.RoundTrip.{key_is_word, kind_is_word, side_is_word}

-- ---- what is printed is small numbers

-- the field's numbers have three digits at most, and they are not too many
pub record IsSmallField (bias : ℕ) (field : Field) : Type 0 where
  pub on_lines : (f : LineField) → field ≡ fields.Lines f → AreLinesOf bias f
  pub on_graph : (h : Graph) → field ≡ fields.Graph h → IsBoard h

lines_small : (points bias : ℕ) (ls : List (List ℕ))
    → points ≤ 256
    → All (IsLineOf points bias) ls
    → AllByRecursion AreSmall ls
lines_small points bias [] few fits = tt
lines_small points bias (l ∷ ls) few fits =
    let here = fits 0 [] (omega arith) in (
      smaller points l (omega arith) (all_below points l here.range),
      lines_small points bias ls few (All-tail (IsLineOf points bias) l ls fits),
    )

edges_small : (v : ℕ) (es : List (ℕ × ℕ))
    → v ≤ 500
    → All (λ e. (e.0 < v) × (e.1 < v)) es
    → AllByRecursion (λ e. AreSmall (e.0 ∷ e.1 ∷ [])) es
edges_small v [] few fits = tt
edges_small v (e ∷ es) few fits =
    let here = fits 0 (0, 0) (omega arith) in (
      two_small e.0 e.1 (omega arith) (omega arith),
      edges_small v es few (All-tail (λ e. (e.0 < v) × (e.1 < v)) e es fits),
    )

-- ---- words

abbrev pub AreWords : List Bytes → Type 0
AreWords ws = list_all is_word ws ≡ true

numbered_words : (key : Key) (ns : List ℕ) → AreSmall ns → AreWords (numbered key ns)
numbered_words key ns small = rw (key_is_word key) (decimals_are_words ns small)

lines_words : (ls : List (List ℕ))
    → AllByRecursion AreSmall ls
    → AllByRecursion AreWords (map (numbered keys.Line) ls)
lines_words [] small = tt
lines_words (l ∷ ls) small = (numbered_words keys.Line l small.0, lines_words ls small.1)

edges_words : (es : List (ℕ × ℕ))
    → AllByRecursion (λ e. AreSmall (e.0 ∷ e.1 ∷ [])) es
    → AllByRecursion AreWords (map edge_words es)
edges_words [] small = tt
edges_words (e ∷ es) small =
    (numbered_words keys.Edge (e.0 ∷ e.1 ∷ []) small.0, edges_words es small.1)

marks_words : (key : Key) (ns : List ℕ) → AreSmall ns → AllByRecursion AreWords (marked key ns)
marks_words key [] small = tt
marks_words key (n ∷ ns) small = (numbered_words key (n ∷ ns) small, tt)

pub both_words : (a b : List (List Bytes))
    → AllByRecursion AreWords a
    → AllByRecursion AreWords b
    → AllByRecursion AreWords (a ++ b)
both_words [] b p q = q
both_words (x ∷ a) b p q = (p.0, both_words a b p.1 q)

-- ---- lengths

others_len : (ns : List ℕ)
    → AreSmall ns
    → length (flat_map (λ (w : Bytes). 32 ∷ w) (map decimal ns)) ≤ 4 * length ns
others_len [] e = lit≤ tt
others_len (n ∷ ns) e =
    let both = and_parts (nat_lt n 1000) (list_all (λ n. nat_lt n 1000) ns) e in
    let below = ltb-true n 1000 both.0 in
    let here : length (decimal n) ≤ 3 =
    length-decimal-le 3 n (lit< tt) (omega (arith, below)) (omega (arith, below)) in
    let cut : length (decimal n ++ flat_map (λ (w : Bytes). 32 ∷ w) (map decimal ns))
    ≡ length (decimal n) + length (flat_map (λ (w : Bytes). 32 ∷ w) (map decimal ns)) =
    length-append (decimal n) (flat_map (λ (w : Bytes). 32 ∷ w) (map decimal ns)) in
    omega (arith, cut, here, others_len ns both.1)

key_len : (key : Key) → length (key_name key) ≤ 9
key_len keys.Kind = lit≤ tt
key_len keys.Points = lit≤ tt
key_len keys.Grid = lit≤ tt
key_len keys.Vertices = lit≤ tt
key_len keys.Terminals = lit≤ tt
key_len keys.Bias = lit≤ tt
key_len keys.Line = lit≤ tt
key_len keys.Shape = lit≤ tt
key_len keys.Edge = lit≤ tt
key_len keys.X = lit≤ tt
key_len keys.Y = lit≤ tt
key_len keys.Turn = lit≤ tt

numbered_len : (key : Key) (ns : List ℕ)
    → AreSmall ns
    → length (spelled (numbered key ns)) ≤ 10 + 4 * length ns
numbered_len key ns small =
    let a : length (spelled (numbered key ns)) ≡ length (spaced (numbered key ns)) + 1 =
    length-append (spaced (numbered key ns)) (10 ∷ []) in
    let b : length (spaced (numbered key ns))
    ≡ length (key_name key) + length (flat_map (λ (w : Bytes). 32 ∷ w) (map decimal ns)) =
    length-append (key_name key) (flat_map (λ (w : Bytes). 32 ∷ w) (map decimal ns)) in
    omega (arith, a, b, key_len key, others_len ns small)

kind_line_len : (kind : Kind) → length (spelled (worded keys.Kind (kind_word kind))) ≤ 24
kind_line_len kinds.MakerBreaker = lit≤ tt
kind_line_len kinds.MakerMaker = lit≤ tt
kind_line_len kinds.AvoiderEnforcer = lit≤ tt
kind_line_len kinds.Switching = lit≤ tt

turn_line_len : (side : Side) → length (spelled (worded keys.Turn (side_word side))) ≤ 9
turn_line_len sides.X = lit≤ tt
turn_line_len sides.Y = lit≤ tt

lines_len : (ls : List (List ℕ))
    → AllByRecursion AreSmall ls
    → length (flat_map spelled (map (numbered keys.Line) ls))
    ≤ 10 * length ls + 4 * sum_by length ls
lines_len [] small = lit≤ tt
lines_len (l ∷ ls) small =
    let a :
    length (spelled (numbered keys.Line l) ++ flat_map spelled (map (numbered keys.Line) ls))
    ≡ length (spelled (numbered keys.Line l))
    + length (flat_map spelled (map (numbered keys.Line) ls)) = length-append
    (spelled (numbered keys.Line l)) (flat_map spelled (map (numbered keys.Line) ls)) in
    let b : sum_by length (l ∷ ls) ≡ length l + sum_by length ls = sum_by-cons length l ls in
    omega (arith, a, b, numbered_len keys.Line l small.0, lines_len ls small.1)

edges_len : (es : List (ℕ × ℕ))
    → AllByRecursion (λ e. AreSmall (e.0 ∷ e.1 ∷ [])) es
    → length (flat_map spelled (map edge_words es)) ≤ 18 * length es
edges_len [] small = lit≤ tt
edges_len (e ∷ es) small =
    let a : length (spelled (edge_words e) ++ flat_map spelled (map edge_words es))
    ≡ length (spelled (edge_words e)) + length (flat_map spelled (map edge_words es)) =
    length-append (spelled (edge_words e)) (flat_map spelled (map edge_words es)) in
    omega (arith, a, numbered_len keys.Edge (e.0 ∷ e.1 ∷ []) small.0, edges_len es small.1)

marks_len : (key : Key) (ns : List ℕ)
    → AreSmall ns
    → length ns ≤ 1024
    → length (flat_map spelled (marked key ns)) ≤ 5000
marks_len key [] small short = lit≤ tt
marks_len key (n ∷ ns) small short =
    let a : length (spelled (numbered key (n ∷ ns)) ++ [])
    ≡ length (spelled (numbered key (n ∷ ns))) + 0 =
    length-append (spelled (numbered key (n ∷ ns))) [] in
    omega (arith, a, numbered_len key (n ∷ ns) small)

size_small : (points : ℕ) (grid : Option Grid)
    → 1 ≤ points
    → points ≤ 256
    → ((g : Grid) → grid ≡ Some g → g.width * g.height ≡ points)
    → (AreWords (size_words points grid)) × (length (spelled (size_words points grid)) ≤ 18)
size_small points None some few cells =
    let small = one_small points (omega arith) in (
      numbered_words keys.Points (points ∷ []) small,
      omega (arith, numbered_len keys.Points (points ∷ []) small),
    )
size_small points (Some g) some few cells =
    let sides = factors g.width g.height points (cells g refl) some in
    let small = two_small g.width g.height (omega (arith, sides.0)) (omega (arith, sides.1)) in (
      numbered_words keys.Grid (g.width ∷ g.height ∷ []) small,
      omega (arith, numbered_len keys.Grid (g.width ∷ g.height ∷ []) small),
    )

-- a line of the bias is a short line of words, and else there is none
bias_small : (bias : ℕ)
    → bias ≤ 7
    → AllByRecursion AreWords (bias_words bias) × (length (flat_map spelled (bias_words bias)) ≤ 14)
bias_small bias few = by (nat_lt 1 bias)
  where
    small : AreSmall (bias ∷ [])
    small = one_small bias (omega arith)

    by : (t : Bool)
        → AllByRecursion AreWords (cond t (numbered keys.Bias (bias ∷ []) ∷ []) [])
        × (length (flat_map spelled (cond t (numbered keys.Bias (bias ∷ []) ∷ []) [])) ≤ 14)
    by true =
        let a : length (spelled (numbered keys.Bias (bias ∷ [])) ++ [])
        ≡ length (spelled (numbered keys.Bias (bias ∷ []))) + 0 =
        length-append (spelled (numbered keys.Bias (bias ∷ []))) [] in (
          (numbered_words keys.Bias (bias ∷ []) small, tt),
          omega (arith, a, numbered_len keys.Bias (bias ∷ []) small),
        )
    by false = (tt, lit≤ tt)

-- ---- the field

abbrev pub IsShortField : ℕ → Field → Type 0
IsShortField bias field = AllByRecursion AreWords (field_words bias field)
    × (length (flat_map spelled (field_words bias field)) ≤ 2000000)

size_len : (s : List Bytes) (b ls : List (List Bytes))
    → length (flat_map spelled (s ∷ (b ++ ls)))
    ≡ length (spelled s) + (length (flat_map spelled b) + length (flat_map spelled ls))
size_len s b ls = simp (flat_map-append, length-append) (omega arith)

field_of_lines : (bias : ℕ) (f : LineField)
    → bias ≤ 7
    → AreLinesOf bias f
    → IsShortField bias (fields.Lines f)
field_of_lines bias f small_bias h =
    let some = h.some_points in
    let few = h.few_points in
    let lines = h.few_lines in
    let total = h.few_summed in
    let size = size_small f.points f.grid some few h.cells in
    let small = lines_small f.points bias f.lines few h.lines in
    let said = bias_small bias small_bias in
    let cut =
    size_len (size_words f.points f.grid) (bias_words bias) (map (numbered keys.Line) f.lines) in (
      (
        size.0,
        both_words (bias_words bias) (map (numbered keys.Line) f.lines) said.0
            (lines_words f.lines small),
      ),
      omega (arith, cut, size.1, said.1, lines_len f.lines small),
    )

field_of_graph : (bias : ℕ) (h : Graph) → IsBoard h → IsShortField bias (fields.Graph h)
field_of_graph bias h b =
    let few = b.few_vertices in
    let edges = b.few_edges in
    let first = b.s_range in
    let second = b.t_range in
    let small = edges_small h.vertices h.ends few b.ends in
    let one = one_small h.vertices (omega arith) in
    let two = two_small h.s h.t (omega arith) (omega arith) in
    let tail = flat_map spelled (map edge_words h.ends) in
    let v = spelled (numbered keys.Vertices (h.vertices ∷ [])) in
    let t = spelled (numbered keys.Terminals (h.s ∷ h.t ∷ [])) in
    let a : length (v ++ (t ++ tail)) ≡ length v + length (t ++ tail) =
    length-append v (t ++ tail) in
    let b : length (t ++ tail) ≡ length t + length tail = length-append t tail in (
      (
        numbered_words keys.Vertices (h.vertices ∷ []) one,
        (numbered_words keys.Terminals (h.s ∷ h.t ∷ []) two, edges_words h.ends small),
      ),
      omega (
        arith,
        a,
        b,
        numbered_len keys.Vertices (h.vertices ∷ []) one,
        numbered_len keys.Terminals (h.s ∷ h.t ∷ []) two,
        edges_len h.ends small,
      ),
    )

few_points : (bias : ℕ) (field : Field)
    → bias ≤ 7
    → IsSmallField bias field
    → (field_points field ≤ 1000) × IsShortField bias field
few_points bias (fields.Lines f) few h =
    let fit = h.on_lines f refl in
    (omega (arith, fit.few_points), field_of_lines bias f few fit)
few_points bias (fields.Graph g) few h =
    let fit = h.on_graph g refl in
    (fit.few_edges, field_of_graph bias g fit)

-- no kind allows more than 7 points a turn
pub greatest_bias-few : (kind : Kind) → greatest_bias kind ≤ 7
greatest_bias-few kinds.MakerBreaker = lit≤ tt
greatest_bias-few kinds.MakerMaker = lit≤ tt
greatest_bias-few kinds.AvoiderEnforcer = lit≤ tt
greatest_bias-few kinds.Switching = lit≤ tt

-- ---- the file

parts_len : (h k t : List Bytes) (d e f : List (List Bytes))
    → length (flat_map spelled (h ∷ k ∷ (d ++ (e ++ (f ++ t ∷ [])))))
    ≡ length (spelled h) + (length (spelled k) + (length (flat_map spelled d)
    + (length (flat_map spelled e) + (length (flat_map spelled f) + length (spelled t)))))
parts_len h k t d e f = simp (flat_map-append, length-append) (omega arith)

sum_len : (whole a b d e f t : ℕ)
    → whole ≡ a + (b + (d + (e + (f + t))))
    → a ≤ 10
    → b ≤ 24
    → d ≤ 2000000
    → e ≤ 5000
    → f ≤ 5000
    → t ≤ 9
    → whole ≤ 4194304
sum_len whole a b d e f t is ha hb hd he hf ht = omega arith

printed_parts : (g : Entry) → printed g ≡ flat_map spelled (printed_lines g)
unfolding printed
printed_parts g = refl

pub printed_small : (g : Entry)
    → IsFit g.kind g.field g.x g.y g.bias
    → AllByRecursion AreWords (printed_lines g) × (length (printed g) ≤ 4194304)
printed_small g fit =
    let field = few_points g.bias g.field (omega (arith, fit.few_bias, greatest_bias-few g.kind))
    (record { on_lines = fit.within.on_lines; on_graph = fit.within.on_graph }) in
    let x = smaller (field_points g.field) (members g.x) field.0
    (below-members (field_points g.field) g.x fit.x_range) in
    let y = smaller (field_points g.field) (members g.y) field.0
    (below-members (field_points g.field) g.y fit.y_range) in
    let parts =
    parts_len header (worded keys.Kind (kind_word g.kind)) (worded keys.Turn (side_word g.turn))
    (field_words g.bias g.field) (marked keys.X (members g.x)) (marked keys.Y (members g.y)) in
    let kind_words : AreWords (worded keys.Kind (kind_word g.kind)) =
    rw (kind_is_word g.kind) refl in
    let turn_words : AreWords (worded keys.Turn (side_word g.turn)) =
    rw (side_is_word g.turn) refl in (
      (
        refl,
        (
          kind_words,
          both_words (field_words g.bias g.field)
              (marked keys.X (members g.x)
              ++ (marked keys.Y (members g.y) ++ worded keys.Turn (side_word g.turn) ∷ []))
              field.1.0
              (both_words (marked keys.X (members g.x))
              (marked keys.Y (members g.y) ++ worded keys.Turn (side_word g.turn) ∷ [])
              (marks_words keys.X (members g.x) x)
              (both_words (marked keys.Y (members g.y)) (worded keys.Turn (side_word g.turn) ∷ [])
              (marks_words keys.Y (members g.y) y) (turn_words, tt))),
        ),
      ),
      sum_len (length (printed g)) _ _ _ _ _ _ (ap length (printed_parts g) ∙ parts) (lit≤ tt)
          (kind_line_len g.kind) field.1.1
          (marks_len keys.X (members g.x) x (points_below-length g.x 1024))
          (marks_len keys.Y (members g.y) y (points_below-length g.y 1024)) (turn_line_len g.turn),
    )
