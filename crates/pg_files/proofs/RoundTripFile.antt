-- A printed file is read line by line, each line after those before it.
use Rattle.std.proofs.Common.{◌≡◌, ℕ, ◌+◌, ◌*◌, ◌<◌, ◌≤◌, lit<, lit≤, Bool, true, false, cond, inl}
use Rattle.std.proofs.Common.{inr, List, [], ◌∷◌, ◌++◌, length, map, arith, refl, sym, ap, subst}
use Rattle.std.proofs.Common.{append_assoc, ◌∙◌, Ok, Err}
use Rattle.std.specs.Prelude.{nat_lt, sum_by, Option, Some, None}
use Rattle.pg_files.proofs.Common.{decimal, list_all, All, FinSet, empty, nat_cmp, cases_Bool}
use Rattle.pg_files.proofs.Common.{ltb-true, ltb-false, nat_tests, append-nil, length-append}
use Rattle.pg_files.proofs.Common.{map-append, All-tail, sum_by-cons, sum_by_push, Grid, Kind}
use Rattle.pg_base.specs.declared.kind.Kind.TheVariants as kinds
use Rattle.pg_files.proofs.Common.{Side, Graph, Field}
use Rattle.pg_game.specs.declared.field.Field.TheVariants as fields
use Rattle.pg_files.proofs.Common.{LineField, Game, field_points, AreBelow, ShareNone, IsLineOf}
use Rattle.pg_files.proofs.Common.{AreLinesOf, IsBoard, IsFit, is_switching, longest, greatest_bias}
use Rattle.pg_files.proofs.Common.{Bytes, spaced, lines, words, members, points_below-ascend}
use Rattle.pg_files.proofs.Common.{from_list-points_below, kind_word, side_word, reading}
use Rattle.pg_files.specs.Sets.{set_of, ascending, repeats}
use Rattle.pg_files.specs.Print.{header, numbered, worded, marked, size_words, bias_words}
use Rattle.pg_files.specs.Print.{edge_words, field_words, last_lines, printed, printed_lines}
use Rattle.pg_files.specs.GameFile.{Draft, Entry, nothing, after, significant, game, game_of}
use Rattle.pg_files.specs.GameFile.{is_misplaced, points_for, points_so_far, field_of}
use Rattle.pg_files.specs.Views.{entry}
use Rattle.pg_files.specs.declared.fault.Fault.TheVariants as faults
use Rattle.pg_files.specs.declared.key.Key.TheVariants as keys
use Rattle.pg_files.proofs.Words.{lines_spelled, decimals_are_words}
use Rattle.pg_files.proofs.SetLaws.{ascending_is, repeats_none, below-members, members-apart}
use Rattle.pg_files.proofs.SetLaws.{below_more}
use Rattle.pg_files.proofs.Sound.{lines_kind}
use Rattle.pg_files.proofs.PrintSize.{printed_small, greatest_bias-few}
use Rattle.pg_files.proofs.RoundTrip.{smaller, one_small, two_small, all_below, factors}
use Rattle.pg_files.proofs.RoundTrip.{after_keyed, kind_is_word, side_is_word, in_place}
use Rattle.pg_files.proofs.RoundTrip.{line_in_place, edge_in_place, keyed_line, keyed_edge, keyed_x}
use Rattle.pg_files.proofs.RoundTrip.{keyed_y, keyed_turn, of_kind, keyed_kind, keyed_points}
use Rattle.pg_files.proofs.RoundTrip.{keyed_grid, keyed_bias, keyed_vertices, keyed_terminals}

-- ---- one line after the other

-- after these lines the draft is the next one, whatever follows
abbrev pub Goes : Draft → List Bytes → Draft → Type 0
Goes d ls next = (n : ℕ) (others : List Bytes)
    → (m : ℕ) × (reading after n d (ls ++ others) ≡ reading after m next others)

goes_one : (d next : Draft) (l : Bytes) → after d l ≡ Ok next → Goes d (l ∷ []) next
unfolding reading
goes_one d next l e = λ n others. (n + 1, rw e refl)

goes_then : (a b c : Draft) (ls ms : List Bytes) → Goes a ls b → Goes b ms c → Goes a (ls ++ ms) c
goes_then a b c ls ms p q = λ n others.
    let first = p n (ms ++ others) in
    let second = q first.0 others in
    (second.0, ap (reading after n a) (append_assoc ls ms others) ∙ first.1 ∙ second.1)

-- a printed list of words
abbrev text : List (List Bytes) → List Bytes
text wss = map spaced wss

goes_both : (a b c : Draft) (ls ms : List (List Bytes))
    → Goes a (text ls) b
    → Goes b (text ms) c
    → Goes a (text (ls ++ ms)) c
goes_both a b c ls ms p q = subst (λ (t : List Bytes). Goes a t c) (sym (map-append spaced ls ms))
    (goes_then a b c (text ls) (text ms) p q)

-- ---- lines and edges

abbrev rank_after : {X : Type 0} → ℕ → List X → ℕ
rank_after rank [] = rank
rank_after rank (x ∷ xs) = 4

rank_stays : {X : Type 0} (xs : List X) → rank_after 4 xs ≡ 4
rank_stays [] = refl
rank_stays (x ∷ xs) = refl

abbrev with_lines : Draft → List (List ℕ) → Draft
with_lines d ls = record d { rank = rank_after d.rank ls; lines = d.lines ++ ls }

next_lines : (d : Draft) (l : List ℕ) (ls : List (List ℕ))
    → with_lines (record d { rank = 4; lines = d.lines ++ l ∷ [] }) ls ≡ with_lines d (l ∷ ls)
next_lines d l ls = rw (rank_stays ls, append_assoc d.lines (l ∷ []) ls) refl

-- what a draft needs for lines to follow
record TakesLines (kind : Kind) (d : Draft) : Type 0 where
  begun : d.begun ≡ true
  kind_is : d.kind ≡ Some kind
  on_lines : is_switching kind ≡ false
  two : 2 ≤ d.rank
  four : d.rank ≤ 4
  few : d.points ≤ 256

takes_next : (kind : Kind) (d : Draft) (l : List ℕ)
    → TakesLines kind d
    → TakesLines kind (record d { rank = 4; lines = d.lines ++ l ∷ [] })
takes_next kind d l h = record {
  begun = h.begun;
  kind_is = h.kind_is;
  on_lines = h.on_lines;
  two = lit≤ tt;
  four = lit≤ tt;
  few = h.few;
}

points_are : (kind : Kind) (d : Draft)
    → d.kind ≡ Some kind
    → is_switching kind ≡ false
    → points_so_far d ≡ d.points
points_are kind d is on = ap (λ (k : Option Kind). points_for k d.points (length d.ends)) is
    ∙ (lines_kind kind (rw on refl)).points d.points (length d.ends)

one_line : (kind : Kind) (d : Draft) (l : List ℕ)
    → TakesLines kind d
    → IsLineOf d.points d.bias l
    → length d.lines < 20000
    → sum_by length d.lines + length l ≤ 400000
    → Goes d (spaced (numbered keys.Line l) ∷ []) (record d { rank = 4; lines = d.lines ++ l ∷ [] })
one_line kind d l h fits room total =
    let few = h.few in
    let below = all_below d.points l fits.range in
    let small = smaller d.points l (omega arith) below in
    let counted =
    ap (λ n. list_all (λ p. nat_lt p n) l) (points_are kind d h.kind_is h.on_lines) ∙ below in
    let again : ascending l ≡ l =
    ascending_is l fits.ascending (below_more d.points l (omega arith) below) in
    let some : 0 < length l = fits.some in
    let short : length l ≤ longest d.bias = fits.short in
    let read = keyed_line d l (line_in_place kind d h.on_lines h.kind_is h.two h.four) counted small
    (repeats_none l fits.ascending) some short room total in
    goes_one d (record d { rank = 4; lines = d.lines ++ l ∷ [] }) (spaced (numbered keys.Line l))
    (after_keyed d keys.Line (map decimal l) h.begun (decimals_are_words l small)
    ∙ read
    ∙ ap (λ (k : List ℕ). Ok (record d { rank = 4; lines = d.lines ++ k ∷ [] })) again)

all_lines : (kind : Kind) (d : Draft) (ls : List (List ℕ))
    → TakesLines kind d
    → All (IsLineOf d.points d.bias) ls
    → length d.lines + length ls ≤ 20000
    → sum_by length d.lines + sum_by length ls ≤ 400000
    → Goes d (text (map (numbered keys.Line) ls)) (with_lines d ls)
all_lines kind d [] h fits room total = λ n others. (
  n,
  ap (λ (ls : List (List ℕ)). reading after n (record d { lines = ls }) others)
      (sym (append-nil d.lines)),
)
all_lines kind d (l ∷ ls) h fits room total =
    let next : Draft = record d { rank = 4; lines = d.lines ++ l ∷ [] } in
    let each : sum_by length (l ∷ ls) ≡ length l + sum_by length ls = sum_by-cons length l ls in
    let added : sum_by length (d.lines ++ l ∷ []) ≡ sum_by length d.lines + length l =
    sum_by_push length d.lines l in
    let longer : length (d.lines ++ l ∷ []) ≡ length d.lines + 1 =
    length-append d.lines (l ∷ []) ∙ omega arith in
    let first = one_line kind d l h (fits 0 [] (omega arith)) (omega arith) (omega arith) in
    let others = all_lines kind next ls (takes_next kind d l h)
    (All-tail (IsLineOf d.points d.bias) l ls fits) (omega arith) (omega arith) in
    let both = goes_then d next (with_lines next ls) (spaced (numbered keys.Line l) ∷ [])
    (text (map (numbered keys.Line) ls)) first others in
    subst (λ (last : Draft). Goes d (text (map (numbered keys.Line) (l ∷ ls))) last)
    (next_lines d l ls) both

abbrev with_ends : Draft → List (ℕ × ℕ) → Draft
with_ends d es = record d { rank = rank_after d.rank es; ends = d.ends ++ es }

next_ends : (d : Draft) (e : ℕ × ℕ) (es : List (ℕ × ℕ))
    → with_ends (record d { rank = 4; ends = d.ends ++ e ∷ [] }) es ≡ with_ends d (e ∷ es)
next_ends d e es = rw (rank_stays es, append_assoc d.ends (e ∷ []) es) refl

-- what a draft needs for edges to follow
record TakesEdges (d : Draft) : Type 0 where
  begun : d.begun ≡ true
  kind_is : d.kind ≡ Some kinds.Switching
  three : 3 ≤ d.rank
  four : d.rank ≤ 4
  few : d.vertices ≤ 500

one_edge : (d : Draft) (e : ℕ × ℕ)
    → TakesEdges d
    → e.0 < d.vertices
    → e.1 < d.vertices
    → length d.ends < 1000
    → Goes d (spaced (edge_words e) ∷ []) (record d { rank = 4; ends = d.ends ++ e ∷ [] })
one_edge d e h first second room =
    let few = h.few in
    let small = two_small e.0 e.1 (omega arith) (omega arith) in
    goes_one d (record d { rank = 4; ends = d.ends ++ e ∷ [] }) (spaced (edge_words e))
    (after_keyed d keys.Edge (map decimal (e.0 ∷ e.1 ∷ [])) h.begun
    (decimals_are_words (e.0 ∷ e.1 ∷ []) small)
    ∙ keyed_edge d e.0 e.1 (edge_in_place d h.kind_is h.three h.four) first second few room)

all_edges : (d : Draft) (es : List (ℕ × ℕ))
    → TakesEdges d
    → All (λ e. (e.0 < d.vertices) × (e.1 < d.vertices)) es
    → length d.ends + length es ≤ 1000
    → Goes d (text (map edge_words es)) (with_ends d es)
all_edges d [] h fits room = λ n others. (
  n,
  ap (λ (es : List (ℕ × ℕ)). reading after n (record d { ends = es }) others)
      (sym (append-nil d.ends)),
)
all_edges d (e ∷ es) h fits room =
    let next : Draft = record d { rank = 4; ends = d.ends ++ e ∷ [] } in
    let longer : length (d.ends ++ e ∷ []) ≡ length d.ends + 1 =
    length-append d.ends (e ∷ []) ∙ omega arith in
    let here = fits 0 (0, 0) (omega arith) in
    let first = one_edge d e h here.0 here.1 (omega arith) in
    let others = all_edges next es (record {
      begun = h.begun;
      kind_is = h.kind_is;
      three = lit≤ tt;
      four = lit≤ tt;
      few = h.few;
    }) (All-tail (λ e. (e.0 < d.vertices) × (e.1 < d.vertices)) e es fits) (omega arith) in
    let both = goes_then d next (with_ends next es) (spaced (edge_words e) ∷ [])
    (text (map edge_words es)) first others in
    subst (λ (last : Draft). Goes d (text (map edge_words (e ∷ es))) last) (next_ends d e es) both

-- ---- marks and the turn

-- what a draft needs for marks to follow
record TakesMarks (kind : Kind) (d : Draft) : Type 0 where
  begun : d.begun ≡ true
  kind_is : d.kind ≡ Some kind
  needed : cond (is_switching kind) 3 2 ≤ d.rank
  few : points_so_far d ≤ 1000

needed_small : (kind : Kind) (r : ℕ) → 3 ≤ r → cond (is_switching kind) 3 2 ≤ r
needed_small kinds.MakerBreaker r le = omega (arith, le)
needed_small kinds.MakerMaker r le = omega (arith, le)
needed_small kinds.AvoiderEnforcer r le = omega (arith, le)
needed_small kinds.Switching r le = le

marks_x : (kind : Kind) (d : Draft) (ns : List ℕ) (s : FinSet nat_cmp)
    → TakesMarks kind d
    → d.rank < 5
    → d.x ≡ empty
    → set_of ns ≡ s
    → list_all (λ n. nat_lt n (points_so_far d)) ns ≡ true
    → repeats empty ns ≡ false
    → (rank : ℕ) × (cond (is_switching kind) 3 2 ≤ rank)
    × (rank < 6)
    × Goes d (text (marked keys.X ns)) (record d { rank = rank; x = s })
marks_x kind d [] s h five none is below different = (
  d.rank,
  h.needed,
  omega arith,
  λ n others.
      (n, ap (λ (x : FinSet nat_cmp). reading after n (record d { x = x }) others) (none ∙ is)),
)
marks_x kind d (m ∷ ms) s h five none is below different =
    let ns : List ℕ = m ∷ ms in
    let small = smaller (points_so_far d) ns h.few below in
    let place = ap (λ (k : Option Kind). is_misplaced k d keys.X) h.kind_is
    ∙ in_place kind d keys.X refl five h.needed refl in (
      5,
      needed_small kind 5 (lit≤ tt),
      lit< tt,
      goes_one d (record d { rank = 5; x = s }) (spaced (numbered keys.X ns))
          (after_keyed d keys.X (map decimal ns) h.begun (decimals_are_words ns small)
          ∙ keyed_x d ns place below small different
          ∙ ap (λ (x : FinSet nat_cmp). Ok (record d { rank = 5; x = x })) is),
    )

marks_y : (kind : Kind) (d : Draft) (ns : List ℕ) (s : FinSet nat_cmp)
    → TakesMarks kind d
    → d.rank < 6
    → d.y ≡ empty
    → set_of ns ≡ s
    → list_all (λ n. nat_lt n (points_so_far d)) ns ≡ true
    → repeats d.x ns ≡ false
    → (rank : ℕ) × (cond (is_switching kind) 3 2 ≤ rank)
    × (rank < 7)
    × Goes d (text (marked keys.Y ns)) (record d { rank = rank; y = s })
marks_y kind d [] s h six none is below different = (
  d.rank,
  h.needed,
  omega arith,
  λ n others.
      (n, ap (λ (y : FinSet nat_cmp). reading after n (record d { y = y }) others) (none ∙ is)),
)
marks_y kind d (m ∷ ms) s h six none is below different =
    let ns : List ℕ = m ∷ ms in
    let small = smaller (points_so_far d) ns h.few below in
    let place = ap (λ (k : Option Kind). is_misplaced k d keys.Y) h.kind_is
    ∙ in_place kind d keys.Y refl six h.needed refl in (
      6,
      needed_small kind 6 (lit≤ tt),
      lit< tt,
      goes_one d (record d { rank = 6; y = s }) (spaced (numbered keys.Y ns))
          (after_keyed d keys.Y (map decimal ns) h.begun (decimals_are_words ns small)
          ∙ keyed_y d ns place below small different
          ∙ ap (λ (y : FinSet nat_cmp). Ok (record d { rank = 6; y = y })) is),
    )

the_turn : (kind : Kind) (d : Draft) (turn : Side)
    → TakesMarks kind d
    → d.rank < 7
    → Goes d (text (worded keys.Turn (side_word turn) ∷ [])) (record d {
      rank = 7;
      turn = Some turn;
    })
the_turn kind d turn h seven =
    let place = ap (λ (k : Option Kind). is_misplaced k d keys.Turn) h.kind_is
    ∙ in_place kind d keys.Turn refl seven h.needed refl in
    goes_one d (record d { rank = 7; turn = Some turn })
    (spaced (worded keys.Turn (side_word turn)))
    (after_keyed d keys.Turn (side_word turn ∷ []) h.begun (rw (side_is_word turn) refl)
    ∙ keyed_turn d turn place)

-- the marks of both sides and the turn
tail_goes : (kind : Kind) (d : Draft) (x y : FinSet nat_cmp) (turn : Side) (points : ℕ)
    → TakesMarks kind d
    → d.rank < 5
    → d.x ≡ empty
    → d.y ≡ empty
    → points_so_far d ≡ points
    → AreBelow x points
    → AreBelow y points
    → ShareNone x y
    → Goes d (text (last_lines x y turn)) (record d { rank = 7; x = x; y = y; turn = Some turn })
tail_goes kind d x y turn points h five no_x no_y is x_below y_below apart =
    let few : points ≤ 1000 = omega (arith, h.few, is) in
    let x_in : list_all (λ n. nat_lt n (points_so_far d)) (members x) ≡ true =
    ap (λ k. list_all (λ n. nat_lt n k) (members x)) is ∙ below-members points x x_below in
    let y_in : list_all (λ n. nat_lt n (points_so_far d)) (members y) ≡ true =
    ap (λ k. list_all (λ n. nat_lt n k) (members y)) is ∙ below-members points y y_below in
    let x_again = from_list-points_below x 1024 (λ q held. omega (arith, x_below q held)) in
    let y_again = from_list-points_below y 1024 (λ q held. omega (arith, y_below q held)) in
    let a = marks_x kind d (members x) x h five no_x x_again x_in
    (repeats_none (members x) (points_below-ascend x 1024)) in
    let d1 : Draft = record d { rank = a.0; x = x } in
    let h1 : TakesMarks kind d1 = record {
      begun = h.begun;
      kind_is = h.kind_is;
      needed = a.1;
      few = h.few;
    } in
    let b = marks_y kind d1 (members y) y h1 a.2 no_y y_again y_in (members-apart x y apart) in
    let d2 : Draft = record d1 { rank = b.0; y = y } in
    let h2 : TakesMarks kind d2 = record {
      begun = h.begun;
      kind_is = h.kind_is;
      needed = b.1;
      few = h.few;
    } in
    let e = the_turn kind d2 turn h2 b.2 in
    let d3 : Draft = record d2 { rank = 7; turn = Some turn } in
    goes_both d d1 d3 (marked keys.X (members x))
    (marked keys.Y (members y) ++ worded keys.Turn (side_word turn) ∷ []) a.3
    (goes_both d1 d2 d3 (marked keys.Y (members y)) (worded keys.Turn (side_word turn) ∷ []) b.3 e)

-- ---- the first lines

header_is : after nothing (spaced header) ≡ Ok (record nothing { begun = true })
unfolding after significant words
header_is = refl

head_goes : (kind : Kind)
    → Goes nothing (text (header ∷ worded keys.Kind (kind_word kind) ∷ [])) (of_kind kind)
head_goes kind =
    let d1 : Draft = record nothing { begun = true } in
    goes_then nothing d1 (of_kind kind) (spaced header ∷ [])
    (spaced (worded keys.Kind (kind_word kind)) ∷ [])
    (goes_one nothing d1 (spaced header) header_is)
    (goes_one d1 (of_kind kind) (spaced (worded keys.Kind (kind_word kind)))
    (after_keyed d1 keys.Kind (kind_word kind ∷ []) refl (rw (kind_is_word kind) refl)
    ∙ keyed_kind kind))

-- the draft after the number of points or the grid
abbrev of_size : Kind → ℕ → Option Grid → Draft
of_size kind points grid = record (of_kind kind) { rank = 2; points = points; grid = grid }

size_goes : (kind : Kind) (points : ℕ) (grid : Option Grid)
    → is_switching kind ≡ false
    → 1 ≤ points
    → points ≤ 256
    → ((g : Grid) → grid ≡ Some g → g.width * g.height ≡ points)
    → Goes (of_kind kind) (text (size_words points grid ∷ [])) (of_size kind points grid)
size_goes kind points None on some few cells =
    goes_one (of_kind kind) (of_size kind points None) (spaced (size_words points None))
    (after_keyed (of_kind kind) keys.Points (map decimal (points ∷ [])) refl
    (decimals_are_words (points ∷ []) (one_small points (omega arith)))
    ∙ keyed_points kind points on some few)
size_goes kind points (Some g) on some few cells =
    let is = cells g refl in
    let sides = factors g.width g.height points is some in
    let small = two_small g.width g.height (omega (arith, sides.0)) (omega (arith, sides.1)) in
    goes_one (of_kind kind) (of_size kind points (Some g)) (spaced (size_words points (Some g)))
    (after_keyed (of_kind kind) keys.Grid (map decimal (g.width ∷ g.height ∷ [])) refl
    (decimals_are_words (g.width ∷ g.height ∷ []) small)
    ∙ keyed_grid kind g.width g.height on (omega (arith, is)) (omega (arith, is))
    ∙ ap (λ (n : ℕ). Ok (of_size kind n (Some g))) is)

-- the draft after the bias, where it is printed
abbrev of_bias : Kind → ℕ → Option Grid → ℕ → Draft
of_bias kind points grid bias =
    record (of_size kind points grid) { rank = cond (nat_lt 1 bias) 3 2; bias = bias }

bias_rank : (more : Bool) → (2 ≤ cond more 3 2) × (cond more 3 2 ≤ 3)
bias_rank true = (lit≤ tt, lit≤ tt)
bias_rank false = (lit≤ tt, lit≤ tt)

bias_goes : (kind : Kind) (points : ℕ) (grid : Option Grid) (bias : ℕ)
    → 1 ≤ bias
    → bias ≤ greatest_bias kind
    → Goes (of_size kind points grid) (text (bias_words bias)) (of_bias kind points grid bias)
bias_goes kind points grid bias some fits = elim (cases_Bool (nat_lt 1 bias)) [
  | inl more ↦
      let few : bias ≤ 7 = omega (arith, fits, greatest_bias-few kind) in
      rw more (goes_one (of_size kind points grid) (record (of_size kind points grid) {
        rank = 3;
        bias = bias;
      }) (spaced (numbered keys.Bias (bias ∷ [])))
      (after_keyed (of_size kind points grid) keys.Bias (map decimal (bias ∷ [])) refl
      (decimals_are_words (bias ∷ []) (one_small bias (omega arith)))
      ∙ keyed_bias kind points grid bias (ltb-true 1 bias more) few fits))
  | inr one ↦
      let is : 1 ≡ bias = omega (arith, some, ltb-false 1 bias one) in
      rw one (λ n others. (
        n,
        ap (λ (b : ℕ). reading after n (record (of_size kind points grid) { bias = b }) others) is,
      ))
]

-- ---- games with lines

lines_needed : (kind : Kind)
    → is_switching kind ≡ false
    → (r : ℕ) → 2 ≤ r
    → cond (is_switching kind) 3 2 ≤ r
lines_needed kind on r le = rw on le

after_size : {X : Type 0} (xs : List X) (r : ℕ)
    → 2 ≤ r
    → r ≤ 3
    → (2 ≤ rank_after r xs) × (rank_after r xs < 5)
after_size [] r two three = (two, omega arith)
after_size (x ∷ xs) r two three = (lit≤ tt, lit< tt)

after_bias : {X : Type 0} (xs : List X) (more : Bool)
    → (2 ≤ rank_after (cond more 3 2) xs) × (rank_after (cond more 3 2) xs < 5)
after_bias xs more = after_size xs (cond more 3 2) (bias_rank more).0 (bias_rank more).1

-- the draft after the lines
abbrev of_lines : Kind → LineField → ℕ → Draft
of_lines kind f bias = with_lines (of_bias kind f.points f.grid bias) f.lines

lines_go : (kind : Kind) (f : LineField) (bias : ℕ)
    → is_switching kind ≡ false
    → 1 ≤ bias
    → bias ≤ greatest_bias kind
    → AreLinesOf bias f
    → Goes (of_kind kind) (text (field_words bias (fields.Lines f))) (of_lines kind f bias)
lines_go kind f bias on one fits h =
    let some = h.some_points in
    let few = h.few_points in
    let sized : Draft = of_size kind f.points f.grid in
    let d : Draft = of_bias kind f.points f.grid bias in
    let rank = bias_rank (nat_lt 1 bias) in
    let takes : TakesLines kind d = record {
      begun = refl;
      kind_is = refl;
      on_lines = on;
      two = rank.0;
      four = omega (arith, rank.1);
      few = few;
    } in
    let lines = all_lines kind d f.lines takes h.lines (omega (arith, h.few_lines))
    (omega (arith, h.few_summed)) in
    goes_then (of_kind kind) sized (of_lines kind f bias) (text (size_words f.points f.grid ∷ []))
    (text (bias_words bias ++ map (numbered keys.Line) f.lines))
    (size_goes kind f.points f.grid on some few h.cells)
    (goes_both sized d (of_lines kind f bias) (bias_words bias) (map (numbered keys.Line) f.lines)
    (bias_goes kind f.points f.grid bias one fits) lines)

lines_take : (kind : Kind) (f : LineField) (bias : ℕ)
    → is_switching kind ≡ false
    → AreLinesOf bias f
    → TakesMarks kind (of_lines kind f bias)
lines_take kind f bias on h = record {
  begun = refl;
  kind_is = refl;
  needed = lines_needed kind on (rank_after (cond (nat_lt 1 bias) 3 2) f.lines)
      (after_bias f.lines (nat_lt 1 bias)).0;
  few = omega (arith, points_are kind (of_lines kind f bias) refl on, h.few_points);
}

field_is : (kind : Kind) (d : Draft)
    → is_switching kind ≡ false
    → field_of kind d ≡ fields.Lines (record { points = d.points; grid = d.grid; lines = d.lines })
field_is kinds.MakerBreaker d on = refl
field_is kinds.MakerMaker d on = refl
field_is kinds.AvoiderEnforcer d on = refl
field_is kinds.Switching d on = absurd cc

-- ---- switching games

after_three : {X : Type 0} (xs : List X) → (3 ≤ rank_after 3 xs) × (rank_after 3 xs < 5)
after_three [] = (lit≤ tt, lit< tt)
after_three (x ∷ xs) = (lit≤ tt, lit< tt)

-- the draft after the number of vertices, and after the terminals
abbrev of_vertices : ℕ → Draft
of_vertices n = record (of_kind kinds.Switching) { rank = 2; vertices = n }

abbrev of_terminals : ℕ → ℕ → ℕ → Draft
of_terminals n s t = record (of_kind kinds.Switching) { rank = 3; vertices = n; s = s; t = t }

-- the draft after the edges
abbrev of_edges : Graph → Draft
of_edges h = with_ends (of_terminals h.vertices h.s h.t) h.ends

graph_goes : (h : Graph) (bias : ℕ)
    → IsBoard h
    → Goes (of_kind kinds.Switching) (text (field_words bias (fields.Graph h))) (of_edges h)
graph_goes h bias b =
    let some = b.some_vertices in
    let few = b.few_vertices in
    let first = b.s_range in
    let second = b.t_range in
    let d1 : Draft = of_kind kinds.Switching in
    let d2 : Draft = of_vertices h.vertices in
    let d3 : Draft = of_terminals h.vertices h.s h.t in
    let one = one_small h.vertices (omega arith) in
    let two = two_small h.s h.t (omega arith) (omega arith) in
    let v = goes_one d1 d2 (spaced (numbered keys.Vertices (h.vertices ∷ [])))
    (after_keyed d1 keys.Vertices (map decimal (h.vertices ∷ [])) refl
    (decimals_are_words (h.vertices ∷ []) one)
    ∙ keyed_vertices h.vertices some few) in
    let t = goes_one d2 d3 (spaced (numbered keys.Terminals (h.s ∷ h.t ∷ [])))
    (after_keyed d2 keys.Terminals (map decimal (h.s ∷ h.t ∷ [])) refl
    (decimals_are_words (h.s ∷ h.t ∷ []) two)
    ∙ keyed_terminals h.vertices h.s h.t few first second b.apart) in
    let takes : TakesEdges d3 = record {
      begun = refl;
      kind_is = refl;
      three = lit≤ tt;
      four = lit≤ tt;
      few = few;
    } in
    let e = all_edges d3 h.ends takes b.ends (omega (arith, b.few_edges)) in
    goes_then d1 d2 (of_edges h) (spaced (numbered keys.Vertices (h.vertices ∷ [])) ∷ [])
    (spaced (numbered keys.Terminals (h.s ∷ h.t ∷ [])) ∷ text (map edge_words h.ends)) v
    (goes_then d2 d3 (of_edges h) (spaced (numbered keys.Terminals (h.s ∷ h.t ∷ [])) ∷ [])
    (text (map edge_words h.ends)) t e)

-- ---- the whole file

-- the draft after the last line
abbrev at_end : Draft → Entry → Draft
at_end d g = record d { rank = 7; x = g.x; y = g.y; turn = Some g.turn }

-- what is read of the field is all that is left to show
file_goes : (g : Entry) (d : Draft)
    → IsFit g.kind g.field g.x g.y g.bias
    → Goes (of_kind g.kind) (text (field_words g.bias g.field)) d
    → TakesMarks g.kind d
    → d.rank < 5
    → d.x ≡ empty
    → d.y ≡ empty
    → points_so_far d ≡ field_points g.field
    → Goes nothing (text (printed_lines g)) (at_end d g)
file_goes g d fit field takes five no_x no_y is =
    let tail = last_lines g.x g.y g.turn in
    let marks = tail_goes g.kind d g.x g.y g.turn
    (field_points g.field) takes five no_x no_y is fit.x_range fit.y_range fit.disjoint in
    goes_then nothing (of_kind g.kind) (at_end d g)
    (text (header ∷ worded keys.Kind (kind_word g.kind) ∷ []))
    (text (field_words g.bias g.field ++ tail)) (head_goes g.kind)
    (goes_both (of_kind g.kind) d (at_end d g) (field_words g.bias g.field) tail field marks)

chosen : (begun : Bool) (kind : Option Kind) (turn : Option Side) (d : Draft) (g : Entry)
    → begun ≡ true
    → kind ≡ Some g.kind
    → turn ≡ Some g.turn
    → field_of g.kind d ≡ g.field
    → d.x ≡ g.x
    → d.y ≡ g.y
    → d.bias ≡ g.bias
    → cond begun (game_of d kind turn) (Err (faults.Header, 0)) ≡ Ok g
chosen begun kind turn d g b k t field x y bias = rw (b, k, t, field, x, y, bias) refl

ends_as : (g : Entry) (d : Draft)
    → IsFit g.kind g.field g.x g.y g.bias
    → Goes nothing (text (printed_lines g)) (at_end d g)
    → d.begun ≡ true
    → d.kind ≡ Some g.kind
    → field_of g.kind (at_end d g) ≡ g.field
    → d.bias ≡ g.bias
    → game (printed g) ≡ Ok g
unfolding game printed reading
ends_as g d fit goes begun kind field bias =
    let small = printed_small g fit in
    let short = small.1 in
    let fitting : nat_lt 4194304 (length (printed g)) ≡ false = grind (arith, nat_tests) in
    let cut : lines (printed g) ≡ text (printed_lines g) =
    lines_spelled (printed_lines g) small.0 in
    let last = goes 1 [] in
    let read : reading after 1 nothing (text (printed_lines g)) ≡ Ok (at_end d g) =
    ap (reading after 1 nothing) (sym (append-nil (text (printed_lines g)))) ∙ last.1 in
    rw (fitting, cut, read)
    (chosen d.begun d.kind (Some g.turn) (at_end d g) g begun kind refl field refl refl bias)

-- a game of parts
abbrev parts : Kind → Field → FinSet nat_cmp → FinSet nat_cmp → Side → ℕ → Entry
parts kind field x y turn bias = record {
  kind = kind;
  field = field;
  x = x;
  y = y;
  turn = turn;
  bias = bias;
}

lines_back : (kind : Kind) (f : LineField) (x y : FinSet nat_cmp) (turn : Side) (bias : ℕ)
    → IsFit kind (fields.Lines f) x y bias
    → game (printed (parts kind (fields.Lines f) x y turn bias))
    ≡ Ok (parts kind (fields.Lines f) x y turn bias)
lines_back kind f x y turn bias fit =
    let on : is_switching kind ≡ false = sym fit.within.kind_fits in
    let g : Entry = parts kind (fields.Lines f) x y turn bias in
    let h = fit.within.on_lines f refl in
    let d : Draft = of_lines kind f bias in
    let goes = file_goes g d fit (lines_go kind f bias on fit.some_bias fit.few_bias h)
    (lines_take kind f bias on h) (after_bias f.lines (nat_lt 1 bias)).1 refl refl
    (points_are kind d refl on) in
    ends_as g d fit goes refl refl (field_is kind (at_end d g) on) refl

graph_back : (h : Graph) (x y : FinSet nat_cmp) (turn : Side) (bias : ℕ)
    → IsFit kinds.Switching (fields.Graph h) x y bias
    → game (printed (parts kinds.Switching (fields.Graph h) x y turn bias))
    ≡ Ok (parts kinds.Switching (fields.Graph h) x y turn bias)
graph_back h x y turn bias fit =
    let g : Entry = parts kinds.Switching (fields.Graph h) x y turn bias in
    let b = fit.within.on_graph h refl in
    let d : Draft = of_edges h in
    let takes : TakesMarks kinds.Switching d = record {
      begun = refl;
      kind_is = refl;
      needed = (after_three h.ends).0;
      few = b.few_edges;
    } in
    let goes =
    file_goes g d fit (graph_goes h bias b) takes (after_three h.ends).1 refl refl refl in
    ends_as g d fit goes refl refl refl (omega (arith, fit.some_bias, fit.few_bias))

pub back : (kind : Kind) (field : Field) (x y : FinSet nat_cmp) (turn : Side) (bias : ℕ)
    → IsFit kind field x y bias
    → game (printed (parts kind field x y turn bias)) ≡ Ok (parts kind field x y turn bias)
back kind (fields.Lines f) x y turn bias fit = lines_back kind f x y turn bias fit
back kinds.Switching (fields.Graph h) x y turn bias fit = graph_back h x y turn bias fit
back kinds.MakerBreaker (fields.Graph h) x y turn bias fit = absurd (cc fit.within.kind_fits)
back kinds.MakerMaker (fields.Graph h) x y turn bias fit = absurd (cc fit.within.kind_fits)
back kinds.AvoiderEnforcer (fields.Graph h) x y turn bias fit = absurd (cc fit.within.kind_fits)

-- a game within the limits is read as it is printed
pub entry_back : (g : Entry) → IsFit g.kind g.field g.x g.y g.bias → game (printed g) ≡ Ok g
entry_back g fit = back g.kind g.field g.x g.y g.turn g.bias fit

pub game_back : (g : Game) → game (printed (entry g)) ≡ Ok (entry g)
game_back g = entry_back (entry g) g.fits
