-- What is printed is read again.
use Rattle.std.proofs.Common.{◌≡◌, ℕ, ◌+◌, ◌*◌, ◌<◌, ◌≤◌, true, false, ◌&&◌, inl, inr, List, []}
use Rattle.std.proofs.Common.{◌∷◌, ◌++◌, length, map, arith, refl, ap, ◌∙◌, Ok}
use Rattle.std.specs.Prelude.{◌==◌, nat_lt, nat_le, sum_by, Option, Some, None}
use Rattle.pg_files.proofs.Common.{decimal, list_all, All, empty, cases_lt, lt-ltb, ne_eqb}
use Rattle.pg_files.proofs.Common.{and_parts, and_right, nat_tests, All-tail, Grid, Kind}
use Rattle.std.proofs.Math.Nat.{le-mul_of_pos_right, mul_comm}
use Rattle.pg_base.specs.declared.kind.Kind.TheVariants as kinds
use Rattle.pg_base.specs.declared.side.Side.{Side}
use Rattle.pg_base.specs.declared.side.Side.TheVariants as sides
use Rattle.pg_files.proofs.Common.{greatest_bias, is_switching, longest, Bytes, spaced, lines}
use Rattle.pg_files.proofs.Common.{kind_word, kind_of, side_word, side_of}
use Rattle.pg_files.specs.Sets.{set_of, ascending, repeats}
use Rattle.pg_files.specs.Key.{key_name, key_of, rank_of, belongs, needed_rank}
use Rattle.pg_files.specs.GameFile.{Draft, nothing, after, significant, keyed, is_out_of_place}
use Rattle.pg_files.specs.GameFile.{is_misplaced, lacks_grid, begins_comment, points_so_far}
use Rattle.pg_files.specs.GameFile.{is_outside}
use Rattle.pg_files.specs.declared.key.Key.{Key}
use Rattle.pg_files.specs.declared.key.Key.TheVariants as keys
use Rattle.pg_files.proofs.Words.{is_word, words_again, numbers_decimals, spaced_printable}

-- ---- names

-- a line that is printed is its words
pub after_words : (d : Draft) (w : Bytes) (ws : List Bytes)
    → list_all is_word (w ∷ ws) ≡ true
    → begins_comment (spaced (w ∷ ws)) ≡ false
    → after d (spaced (w ∷ ws)) ≡ significant d (w ∷ ws)
unfolding after
after_words d w ws e plain =
    let longer : (length (w ∷ ws) == 0) ≡ false = grind (arith, nat_tests) in
    rw (spaced_printable (w ∷ ws) e, plain, words_again w ws e, longer) refl

kind_again : (kind : Kind) → kind_of (kind_word kind) ≡ Some kind
kind_again kinds.MakerBreaker = refl
kind_again kinds.MakerMaker = refl
kind_again kinds.AvoiderEnforcer = refl
kind_again kinds.Switching = refl

side_again : (side : Side) → side_of (side_word side) ≡ Some side
side_again sides.X = refl
side_again sides.Y = refl

key_again : (key : Key) → key_of (key_name key) ≡ Some key
key_again keys.Kind = refl
key_again keys.Points = refl
key_again keys.Grid = refl
key_again keys.Vertices = refl
key_again keys.Terminals = refl
key_again keys.Bias = refl
key_again keys.Line = refl
key_again keys.Shape = refl
key_again keys.Edge = refl
key_again keys.X = refl
key_again keys.Y = refl
key_again keys.Turn = refl

pub key_is_word : (key : Key) → is_word (key_name key) ≡ true
key_is_word keys.Kind = refl
key_is_word keys.Points = refl
key_is_word keys.Grid = refl
key_is_word keys.Vertices = refl
key_is_word keys.Terminals = refl
key_is_word keys.Bias = refl
key_is_word keys.Line = refl
key_is_word keys.Shape = refl
key_is_word keys.Edge = refl
key_is_word keys.X = refl
key_is_word keys.Y = refl
key_is_word keys.Turn = refl

key_is_plain : (key : Key) (arguments : List Bytes)
    → begins_comment (spaced (key_name key ∷ arguments)) ≡ false
key_is_plain keys.Kind arguments = refl
key_is_plain keys.Points arguments = refl
key_is_plain keys.Grid arguments = refl
key_is_plain keys.Vertices arguments = refl
key_is_plain keys.Terminals arguments = refl
key_is_plain keys.Bias arguments = refl
key_is_plain keys.Line arguments = refl
key_is_plain keys.Shape arguments = refl
key_is_plain keys.Edge arguments = refl
key_is_plain keys.X arguments = refl
key_is_plain keys.Y arguments = refl
key_is_plain keys.Turn arguments = refl

pub kind_is_word : (kind : Kind) → is_word (kind_word kind) ≡ true
kind_is_word kinds.MakerBreaker = refl
kind_is_word kinds.MakerMaker = refl
kind_is_word kinds.AvoiderEnforcer = refl
kind_is_word kinds.Switching = refl

pub side_is_word : (side : Side) → is_word (side_word side) ≡ true
side_is_word sides.X = refl
side_is_word sides.Y = refl

-- a line with a key
pub after_keyed : (d : Draft) (key : Key) (arguments : List Bytes)
    → d.begun ≡ true
    → list_all is_word arguments ≡ true
    → after d (spaced (key_name key ∷ arguments)) ≡ keyed d key arguments
unfolding significant
after_keyed d key arguments begun e = after_words d (key_name key) arguments
    (rw (key_is_word key, e) refl) (key_is_plain key arguments)
    ∙ rw (begun, key_again key) refl

-- ---- numbers

-- numbers that are printed with three digits at most
abbrev pub AreSmall : List ℕ → Type 0
AreSmall ns = list_all (λ n. nat_lt n 1000) ns ≡ true

pub smaller : (limit : ℕ) (ns : List ℕ)
    → limit ≤ 1000
    → list_all (λ n. nat_lt n limit) ns ≡ true
    → AreSmall ns
smaller limit [] few e = refl
smaller limit (n ∷ ns) few e =
    let both = and_parts (nat_lt n limit) (list_all (λ n. nat_lt n limit) ns) e in
    let here : nat_lt n 1000 ≡ true = grind (arith, nat_tests, both.0) in
    rw here (smaller limit ns few both.1)

pub one_small : (n : ℕ) → n < 1000 → AreSmall (n ∷ [])
one_small n lt = rw (lt-ltb n 1000 lt) refl

pub two_small : (a b : ℕ) → a < 1000 → b < 1000 → AreSmall (a ∷ b ∷ [])
two_small a b first second = rw (lt-ltb a 1000 first, lt-ltb b 1000 second) refl

pub all_below : (limit : ℕ) (ns : List ℕ)
    → All (λ n. n < limit) ns
    → list_all (λ n. nat_lt n limit) ns ≡ true
all_below limit [] all = refl
all_below limit (n ∷ ns) all =
    let here : n < limit = all 0 0 (omega arith) in
    rw (lt-ltb n limit here) (all_below limit ns (All-tail (λ n. n < limit) n ns all))

pub inside : (low high n : ℕ) → low ≤ n → n ≤ high → is_outside low high n ≡ false
inside low high n least most =
    let a : nat_lt n low ≡ false = grind (arith, nat_tests) in
    let b : nat_lt high n ≡ false = grind (arith, nat_tests) in
    rw (a, b) refl

pub factors : (w h n : ℕ) → w * h ≡ n → 1 ≤ n → (w ≤ n) × (h ≤ n)
factors w h n is some =
    let wide : 0 < w = elim (cases_lt 0 w) [
      | inl lt ↦ lt
      | inr le ↦ let z : w ≡ 0 = omega arith in absurd (omega (arith, ap (λ k. k * h) z))
    ] in
    let high : 0 < h = elim (cases_lt 0 h) [
      | inl lt ↦ lt
      | inr le ↦ let z : h ≡ 0 = omega arith in absurd (omega (arith, ap (λ k. w * k) z))
    ] in (
      omega (arith, le-mul_of_pos_right {m = h} w high),
      omega (arith, le-mul_of_pos_right {m = w} h wide, mul_comm h w),
    )

-- ---- where keys stand

-- a key whose rank is above the greatest
pub in_place : (kind : Kind) (d : Draft) (key : Key)
    → belongs kind key ≡ true
    → d.rank < rank_of key
    → needed_rank kind key ≤ d.rank
    → lacks_grid d key ≡ false
    → is_misplaced (Some kind) d key ≡ false
in_place kind d key fits below needed grid =
    let a : nat_lt (rank_of key) d.rank ≡ false = grind (arith, nat_tests) in
    let b : (rank_of key == d.rank) ≡ false = grind (arith, nat_tests) in
    let c : nat_lt d.rank (needed_rank kind key) ≡ false = grind (arith, nat_tests) in
    rw (fits, a, b, c, grid) refl

pub line_in_place : (kind : Kind) (d : Draft)
    → is_switching kind ≡ false
    → d.kind ≡ Some kind
    → 2 ≤ d.rank
    → d.rank ≤ 4
    → is_out_of_place d keys.Line ≡ false
line_in_place kind d lines is two four =
    let a : nat_lt 4 d.rank ≡ false = grind (arith, nat_tests) in
    let b : ((4 == d.rank) && false) ≡ false = and_right (4 == d.rank) false refl in
    let c : nat_lt d.rank 2 ≡ false = grind (arith, nat_tests) in
    rw (is, lines, a, b, c) refl

pub edge_in_place : (d : Draft)
    → d.kind ≡ Some kinds.Switching
    → 3 ≤ d.rank
    → d.rank ≤ 4
    → is_out_of_place d keys.Edge ≡ false
edge_in_place d is three four =
    let a : nat_lt 4 d.rank ≡ false = grind (arith, nat_tests) in
    let b : ((4 == d.rank) && false) ≡ false = and_right (4 == d.rank) false refl in
    let c : nat_lt d.rank 3 ≡ false = grind (arith, nat_tests) in
    rw (is, a, b, c) refl

-- ---- lines with keys

pub keyed_line : (d : Draft) (l : List ℕ)
    → is_out_of_place d keys.Line ≡ false
    → list_all (λ n. nat_lt n (points_so_far d)) l ≡ true
    → AreSmall l
    → repeats empty l ≡ false
    → 0 < length l
    → length l ≤ longest d.bias
    → length d.lines < 20000
    → sum_by length d.lines + length l ≤ 400000
    → keyed d keys.Line (map decimal l)
    ≡ Ok (record d { rank = 4; lines = d.lines ++ ascending l ∷ [] })
unfolding keyed
keyed_line d l place below small different some short room total =
    let again = numbers_decimals l small in
    let a : (length l == 0) ≡ false = grind (arith, nat_tests) in
    let b : nat_lt (longest d.bias) (length l) ≡ false = grind (arith, nat_tests) in
    let c : nat_le 20000 (length d.lines) ≡ false = grind (arith, nat_tests) in
    let e : nat_lt 400000 (sum_by length d.lines + length l) ≡ false = grind (arith, nat_tests) in
    rw (place, again, below, different, a, b, c, e) refl

pub keyed_edge : (d : Draft) (a b : ℕ)
    → is_out_of_place d keys.Edge ≡ false
    → a < d.vertices
    → b < d.vertices
    → d.vertices ≤ 500
    → length d.ends < 1000
    → keyed d keys.Edge (map decimal (a ∷ b ∷ []))
    ≡ Ok (record d { rank = 4; ends = d.ends ++ (a, b) ∷ [] })
unfolding keyed
keyed_edge d a b place first second few room =
    let again = numbers_decimals (a ∷ b ∷ []) (two_small a b (omega arith) (omega arith)) in
    let c : nat_le 1000 (length d.ends) ≡ false = grind (arith, nat_tests) in
    rw (place, again, lt-ltb a d.vertices first, lt-ltb b d.vertices second, c) refl

pub keyed_x : (d : Draft) (ns : List ℕ)
    → is_out_of_place d keys.X ≡ false
    → list_all (λ n. nat_lt n (points_so_far d)) ns ≡ true
    → AreSmall ns
    → repeats empty ns ≡ false
    → keyed d keys.X (map decimal ns) ≡ Ok (record d { rank = 5; x = set_of ns })
unfolding keyed
keyed_x d ns place below small different =
    let again = numbers_decimals ns small in
    rw (place, again, below, different) refl

pub keyed_y : (d : Draft) (ns : List ℕ)
    → is_out_of_place d keys.Y ≡ false
    → list_all (λ n. nat_lt n (points_so_far d)) ns ≡ true
    → AreSmall ns
    → repeats d.x ns ≡ false
    → keyed d keys.Y (map decimal ns) ≡ Ok (record d { rank = 6; y = set_of ns })
unfolding keyed
keyed_y d ns place below small different =
    let again = numbers_decimals ns small in
    rw (place, again, below, different) refl

pub keyed_turn : (d : Draft) (turn : Side)
    → is_out_of_place d keys.Turn ≡ false
    → keyed d keys.Turn (side_word turn ∷ []) ≡ Ok (record d { rank = 7; turn = Some turn })
unfolding keyed
keyed_turn d turn place = rw (place, side_again turn) refl

-- the draft after the header and the kind
abbrev pub of_kind : Kind → Draft
of_kind kind = record nothing { begun = true; rank = 1; kind = Some kind }

pub keyed_kind : (kind : Kind)
    → keyed (record nothing { begun = true }) keys.Kind (kind_word kind ∷ []) ≡ Ok (of_kind kind)
unfolding keyed
keyed_kind kind = rw (kind_again kind) refl

pub keyed_points : (kind : Kind) (n : ℕ)
    → is_switching kind ≡ false
    → 1 ≤ n
    → n ≤ 256
    → keyed (of_kind kind) keys.Points (map decimal (n ∷ [])) ≡ Ok (record (of_kind kind) {
      rank = 2;
      points = n;
      grid = None;
    })
unfolding keyed
keyed_points kind n lines some few =
    let again = numbers_decimals (n ∷ []) (one_small n (omega arith)) in
    rw (lines, again, inside 1 256 n some few) refl

pub keyed_grid : (kind : Kind) (w h : ℕ)
    → is_switching kind ≡ false
    → 1 ≤ w * h
    → w * h ≤ 256
    → keyed (of_kind kind) keys.Grid (map decimal (w ∷ h ∷ [])) ≡ Ok (record (of_kind kind) {
      rank = 2;
      points = w * h;
      grid = Some (record { width = w; height = h });
    })
unfolding keyed
keyed_grid kind w h lines some few =
    let sides = factors w h (w * h) refl some in
    let again = numbers_decimals (w ∷ h ∷ [])
    (two_small w h (omega (arith, sides.0)) (omega (arith, sides.1))) in
    rw (lines, again, inside 1 256 (w * h) some few) refl

-- after the number of points or the grid
pub keyed_bias : (kind : Kind) (points : ℕ) (grid : Option Grid) (bias : ℕ)
    → 1 < bias
    → bias ≤ 7
    → bias ≤ greatest_bias kind
    → keyed (record (of_kind kind) {
      rank = 2;
      points = points;
      grid = grid;
    }) keys.Bias (map decimal (bias ∷ [])) ≡ Ok (record (of_kind kind) {
      rank = 3;
      points = points;
      grid = grid;
      bias = bias;
    })
unfolding keyed
keyed_bias kind points grid bias more few fits =
    let again = numbers_decimals (bias ∷ []) (one_small bias (omega arith)) in
    let has : nat_lt 1 (greatest_bias kind) ≡ true = lt-ltb 1 (greatest_bias kind) (omega arith) in
    rw (has, again, inside 1 7 bias (omega arith) few) refl

pub keyed_vertices : (n : ℕ)
    → 2 ≤ n
    → n ≤ 500
    → keyed (of_kind kinds.Switching) keys.Vertices (map decimal (n ∷ []))
    ≡ Ok (record (of_kind kinds.Switching) { rank = 2; vertices = n })
unfolding keyed
keyed_vertices n some few =
    let again = numbers_decimals (n ∷ []) (one_small n (omega arith)) in
    rw (again, inside 2 500 n some few) refl

pub keyed_terminals : (n s t : ℕ)
    → n ≤ 500
    → s < n
    → t < n
    → (s ≡ t → ⊥)
    → keyed (record (of_kind kinds.Switching) {
      rank = 2;
      vertices = n;
    }) keys.Terminals (map decimal (s ∷ t ∷ [])) ≡ Ok (record (of_kind kinds.Switching) {
      rank = 3;
      vertices = n;
      s = s;
      t = t;
    })
unfolding keyed
keyed_terminals n s t few first second apart =
    let again = numbers_decimals (s ∷ t ∷ []) (two_small s t (omega arith) (omega arith)) in
    rw (again, lt-ltb s n first, lt-ltb t n second, ne_eqb s t apart) refl
