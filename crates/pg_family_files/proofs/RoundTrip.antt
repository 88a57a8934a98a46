-- What is printed is read again.
use Rattle.std.proofs.Common.{◌≡◌, ℕ, ◌+◌, ◌^◌, ◌<◌, ◌≤◌, lit<, lit≤, true, false, ◌&&◌, ◌||◌, List}
use Rattle.std.proofs.Common.{[], ◌∷◌, ◌++◌, length, map, arith, refl, sym, ap, subst, append_assoc}
use Rattle.std.proofs.Common.{◌∙◌, Ok}
use Rattle.std.specs.Prelude.{◌==◌, nat_lt, nat_le, Some}
use Rattle.pg_family_files.proofs.Common.{decimal, list_all, flat_map, All, FinSet, empty, nat_cmp}
use Rattle.pg_family_files.proofs.Common.{lt-ltb, and_right, nat_tests, append-nil, length-append}
use Rattle.pg_family_files.proofs.Common.{map-append, All-tail, AreBelow, ShareNone, members}
use Rattle.pg_family_files.proofs.Common.{points_below-ascend, from_list-points_below, side_word}
use Rattle.pg_family_files.proofs.Common.{side_of, Side, Bytes, spaced, lines, words, spelled}
use Rattle.pg_family_files.proofs.Common.{reading, set_of, repeats, begins_comment, marked}
use Rattle.pg_family_files.proofs.Common.{edge_words, last_lines, is_word, words_again}
use Rattle.pg_family_files.proofs.Common.{numbers_decimals, spaced_printable, decimals_are_words}
use Rattle.pg_family_files.proofs.Common.{lines_spelled, repeats_none, below-members, members-apart}
use Rattle.pg_family_files.proofs.Common.{AreSmall, smaller, one_small, two_small, inside}
use Rattle.pg_family_files.proofs.Common.{side_is_word}
use Rattle.pg_base.specs.declared.side.Side.TheVariants as sides
use Rattle.pg_files.specs.declared.key.Key.TheVariants as game_keys
use Rattle.pg_family_files.specs.Family.{has_key, key_name, key_of, rank_of, needed_rank, head_rank}
use Rattle.pg_family_files.specs.FamilyFile.{Draft, nothing, points_so_far, is_out_of_place, keyed}
use Rattle.pg_family_files.specs.FamilyFile.{significant, after, whole}
use Rattle.pg_family_files.specs.Print.{header, numbered, worded, signs_of, vector_words}
use Rattle.pg_family_files.specs.declared.family.Family.{Family}
use Rattle.pg_family_files.specs.declared.family.Family.TheVariants as families
use Rattle.pg_family_files.specs.declared.family.Key.{Key}
use Rattle.pg_family_files.specs.declared.family.Key.TheVariants as keys
use Rattle.pg_family_files.proofs.SignsAgain.{vector_again, signs_word}
use Rattle.pg_family_files.proofs.PrintSize.{AreLinesIn}

-- ---- names

-- a line that is printed is its words
after_words : (family : Family) (d : Draft) (w : Bytes) (ws : List Bytes)
    → list_all is_word (w ∷ ws) ≡ true
    → begins_comment (spaced (w ∷ ws)) ≡ false
    → after family d (spaced (w ∷ ws)) ≡ significant family d (w ∷ ws)
unfolding after
after_words family d w ws e plain =
    let longer : (length (w ∷ ws) == 0) ≡ false = grind (arith, nat_tests) in
    rw (spaced_printable (w ∷ ws) e, plain, words_again w ws e, longer) refl

side_again : (side : Side) → side_of (side_word side) ≡ Some side
side_again sides.X = refl
side_again sides.Y = refl

key_again : (family : Family) (key : Key)
    → has_key family key ≡ true
    → key_of family (key_name key) ≡ Some key
key_again families.Connectivity keys.Vertices has = refl
key_again families.Connectivity keys.Edge has = refl
key_again families.Connectivity keys.Rows has = absurd cc
key_again families.Connectivity keys.Target has = absurd cc
key_again families.Connectivity keys.Vector has = absurd cc
key_again families.Connectivity keys.X has = refl
key_again families.Connectivity keys.Y has = refl
key_again families.Connectivity keys.Turn has = refl
key_again families.Vectors keys.Vertices has = absurd cc
key_again families.Vectors keys.Edge has = absurd cc
key_again families.Vectors keys.Rows has = refl
key_again families.Vectors keys.Target has = refl
key_again families.Vectors keys.Vector has = refl
key_again families.Vectors keys.X has = refl
key_again families.Vectors keys.Y has = refl
key_again families.Vectors keys.Turn has = refl

key_is_word : (key : Key) → is_word (key_name key) ≡ true
key_is_word keys.Vertices = refl
key_is_word keys.Edge = refl
key_is_word keys.Rows = refl
key_is_word keys.Target = refl
key_is_word keys.Vector = refl
key_is_word keys.X = refl
key_is_word keys.Y = refl
key_is_word keys.Turn = refl

key_is_plain : (key : Key) (arguments : List Bytes)
    → begins_comment (spaced (key_name key ∷ arguments)) ≡ false
key_is_plain keys.Vertices arguments = refl
key_is_plain keys.Edge arguments = refl
key_is_plain keys.Rows arguments = refl
key_is_plain keys.Target arguments = refl
key_is_plain keys.Vector arguments = refl
key_is_plain keys.X arguments = refl
key_is_plain keys.Y arguments = refl
key_is_plain keys.Turn arguments = refl

-- a line with a key of the family
after_keyed : (family : Family) (d : Draft) (key : Key) (arguments : List Bytes)
    → has_key family key ≡ true
    → d.begun ≡ true
    → list_all is_word arguments ≡ true
    → after family d (spaced (key_name key ∷ arguments)) ≡ keyed family d key arguments
unfolding significant
after_keyed family d key arguments has begun e = after_words family d (key_name key) arguments
    (rw (key_is_word key, e) refl) (key_is_plain key arguments)
    ∙ rw (begun, key_again family key has) refl

-- ---- where keys stand

-- a key whose rank is above the greatest
in_place : (family : Family) (d : Draft) (key : Key)
    → d.rank < rank_of key
    → needed_rank family key ≤ d.rank
    → is_out_of_place family d key ≡ false
in_place family d key below needed =
    let a : nat_lt (rank_of key) d.rank ≡ false = grind (arith, nat_tests) in
    let b : (rank_of key == d.rank) ≡ false = grind (arith, nat_tests) in
    let c : nat_lt d.rank (needed_rank family key) ≡ false = grind (arith, nat_tests) in
    rw (a, b, c) refl

-- a key of rank 4, which may be repeated
list_in_place : (r needed : ℕ)
    → needed ≤ r
    → r ≤ 4
    → (nat_lt 4 r || ((4 == r && false) || nat_lt r needed)) ≡ false
list_in_place r needed low high =
    let a : nat_lt 4 r ≡ false = grind (arith, nat_tests) in
    let b : ((4 == r) && false) ≡ false = and_right (4 == r) false refl in
    let c : nat_lt r needed ≡ false = grind (arith, nat_tests) in
    rw (a, b, c) refl

-- ---- lines with keys

keyed_vertices : (d : Draft) (n : ℕ)
    → d.rank < 2
    → 2 ≤ n
    → n ≤ 500
    → keyed families.Connectivity d keys.Vertices (map decimal (n ∷ []))
    ≡ Ok (record d { rank = 2; vertices = n })
unfolding keyed
keyed_vertices d n low some few =
    let again = numbers_decimals (n ∷ []) (one_small n (omega arith)) in
    rw (
      in_place families.Connectivity d keys.Vertices low (omega arith),
      again,
      inside 2 500 n some few,
    ) refl

keyed_edge : (d : Draft) (a b : ℕ)
    → 2 ≤ d.rank
    → d.rank ≤ 4
    → a < d.vertices
    → b < d.vertices
    → d.vertices ≤ 500
    → length d.ends < 1000
    → keyed families.Connectivity d keys.Edge (map decimal (a ∷ b ∷ []))
    ≡ Ok (record d { rank = 4; ends = d.ends ++ (a, b) ∷ [] })
unfolding keyed
keyed_edge d a b low high first second few room =
    let again = numbers_decimals (a ∷ b ∷ []) (two_small a b (omega arith) (omega arith)) in
    let c : nat_le 1000 (length d.ends) ≡ false = grind (arith, nat_tests) in
    rw (
      list_in_place d.rank 2 low high,
      again,
      lt-ltb a d.vertices first,
      lt-ltb b d.vertices second,
      c,
    ) refl

keyed_rows : (d : Draft) (n : ℕ)
    → d.rank < 2
    → 1 ≤ n
    → n ≤ 128
    → keyed families.Vectors d keys.Rows (map decimal (n ∷ []))
    ≡ Ok (record d { rank = 2; rows = n })
unfolding keyed
keyed_rows d n low some few =
    let again = numbers_decimals (n ∷ []) (one_small n (omega arith)) in
    rw (in_place families.Vectors d keys.Rows low (omega arith), again, inside 1 128 n some few)
    refl

keyed_target : (d : Draft) (v : ℕ)
    → d.rank < 3
    → 2 ≤ d.rank
    → v < 2 ^ d.rows
    → keyed families.Vectors d keys.Target (signs_of d.rows v ∷ [])
    ≡ Ok (record d { rank = 3; target = v })
unfolding keyed
keyed_target d v low high small =
    rw (in_place families.Vectors d keys.Target low high, vector_again d.rows v small) refl

keyed_vector : (d : Draft) (v : ℕ)
    → 3 ≤ d.rank
    → d.rank ≤ 4
    → v < 2 ^ d.rows
    → length d.vectors < 1000
    → keyed families.Vectors d keys.Vector (signs_of d.rows v ∷ [])
    ≡ Ok (record d { rank = 4; vectors = d.vectors ++ v ∷ [] })
unfolding keyed
keyed_vector d v low high small room =
    let c : nat_le 1000 (length d.vectors) ≡ false = grind (arith, nat_tests) in
    rw (list_in_place d.rank 3 low high, c, vector_again d.rows v small) refl

keyed_x : (family : Family) (d : Draft) (ns : List ℕ)
    → is_out_of_place family d keys.X ≡ false
    → list_all (λ n. nat_lt n (points_so_far family d)) ns ≡ true
    → AreSmall ns
    → repeats empty ns ≡ false
    → keyed family d keys.X (map decimal ns) ≡ Ok (record d { rank = 5; x = set_of ns })
unfolding keyed
keyed_x family d ns place below small different =
    let again = numbers_decimals ns small in
    rw (place, again, below, different) refl

keyed_y : (family : Family) (d : Draft) (ns : List ℕ)
    → is_out_of_place family d keys.Y ≡ false
    → list_all (λ n. nat_lt n (points_so_far family d)) ns ≡ true
    → AreSmall ns
    → repeats d.x ns ≡ false
    → keyed family d keys.Y (map decimal ns) ≡ Ok (record d { rank = 6; y = set_of ns })
unfolding keyed
keyed_y family d ns place below small different =
    let again = numbers_decimals ns small in
    rw (place, again, below, different) refl

keyed_turn : (family : Family) (d : Draft) (turn : Side)
    → is_out_of_place family d keys.Turn ≡ false
    → keyed family d keys.Turn (side_word turn ∷ []) ≡ Ok (record d { rank = 7; turn = Some turn })
unfolding keyed
keyed_turn family d turn place = rw (place, side_again turn) refl

-- ---- one line after the other

-- after these lines the draft is the next one, whatever follows
abbrev pub Goes : Family → Draft → List Bytes → Draft → Type 0
Goes family d ls next = (n : ℕ) (others : List Bytes)
    → (m : ℕ) × (reading (after family) n d (ls ++ others) ≡ reading (after family) m next others)

goes_one : (family : Family) (d next : Draft) (l : Bytes)
    → after family d l ≡ Ok next
    → Goes family d (l ∷ []) next
unfolding reading
goes_one family d next l e = λ n others. (n + 1, rw e refl)

goes_then : (family : Family) (a b c : Draft) (ls ms : List Bytes)
    → Goes family a ls b
    → Goes family b ms c
    → Goes family a (ls ++ ms) c
goes_then family a b c ls ms p q = λ n others.
    let first = p n (ms ++ others) in
    let second = q first.0 others in
    (second.0, ap (reading (after family) n a) (append_assoc ls ms others) ∙ first.1 ∙ second.1)

-- a printed list of words
abbrev text : List (List Bytes) → List Bytes
text wss = map spaced wss

goes_both : (family : Family) (a b c : Draft) (ls ms : List (List Bytes))
    → Goes family a (text ls) b
    → Goes family b (text ms) c
    → Goes family a (text (ls ++ ms)) c
goes_both family a b c ls ms p q = subst (λ (t : List Bytes). Goes family a t c)
    (sym (map-append spaced ls ms)) (goes_then family a b c (text ls) (text ms) p q)

-- a line for each member of a list, by what a draft is after the lines of the first of them
each_goes : {X : Type 0} (family : Family) (words : X → List Bytes) (state : List X → Draft)
    (P : X → Type 0) (e : X)
    → ((before : List X) (x : X) → P x
    → length before < 1000
    → Goes family (state before) (spaced (words x) ∷ []) (state (before ++ x ∷ [])))
    → (before xs : List X) → All P xs
    → length before + length xs ≤ 1000
    → Goes family (state before) (text (map words xs)) (state (before ++ xs))
each_goes family words state P e step before [] fits room =
    λ n others. (n, ap (λ xs. reading (after family) n (state xs) others) (sym (append-nil before)))
each_goes family words state P e step before (x ∷ xs) fits room =
    let longer : length (before ++ x ∷ []) ≡ length before + 1 =
    length-append before (x ∷ []) ∙ omega arith in
    let first = step before x (fits 0 e (omega arith)) (omega arith) in
    let others = each_goes family words state P e step (before ++ x ∷ []) xs (All-tail P x xs fits)
    (omega arith) in
    let both = goes_then family (state before) (state (before ++ x ∷ []))
    (state ((before ++ x ∷ []) ++ xs)) (spaced (words x) ∷ []) (text (map words xs)) first others in
    subst (λ ys. Goes family (state before) (text (map words (x ∷ xs))) (state ys))
    (append_assoc before (x ∷ []) xs) both

-- the rank after some lines of rank 4
abbrev pub rank_after : {X : Type 0} → ℕ → List X → ℕ
rank_after rank [] = rank
rank_after rank (x ∷ xs) = 4

rank_more : {X : Type 0} (rank : ℕ) (before : List X) (x : X)
    → rank_after rank (before ++ x ∷ []) ≡ 4
rank_more rank [] x = refl
rank_more rank (y ∷ ys) x = refl

pub rank_within : {X : Type 0} (rank : ℕ) (xs : List X)
    → rank ≤ 4
    → (rank ≤ rank_after rank xs) × (rank_after rank xs ≤ 4)
rank_within rank [] few = (omega arith, few)
rank_within rank (x ∷ xs) few = (few, lit≤ tt)

-- ---- marks and the turn

-- what a draft needs for marks to follow
record TakesMarks (family : Family) (d : Draft) : Type 0 where
  begun : d.begun ≡ true
  needed : head_rank family ≤ d.rank
  few : points_so_far family d ≤ 1000

head_small : (family : Family) (r : ℕ) → 3 ≤ r → head_rank family ≤ r
head_small families.Connectivity r le = omega (arith, le)
head_small families.Vectors r le = le

marks_x : (family : Family) (d : Draft) (ns : List ℕ) (s : FinSet nat_cmp)
    → TakesMarks family d
    → d.rank < 5
    → d.x ≡ empty
    → set_of ns ≡ s
    → list_all (λ n. nat_lt n (points_so_far family d)) ns ≡ true
    → repeats empty ns ≡ false
    → (rank : ℕ) × (head_rank family ≤ rank)
    × (rank < 6)
    × Goes family d (text (marked game_keys.X ns)) (record d { rank = rank; x = s })
marks_x family d [] s h five none is below different = (
  d.rank,
  h.needed,
  omega arith,
  λ n others. (
    n,
    ap (λ (x : FinSet nat_cmp). reading (after family) n (record d { x = x }) others) (none ∙ is),
  ),
)
marks_x family d (m ∷ ms) s h five none is below different =
    let ns : List ℕ = m ∷ ms in
    let small = smaller (points_so_far family d) ns h.few below in (
      5,
      head_small family 5 (lit≤ tt),
      lit< tt,
      goes_one family d (record d { rank = 5; x = s }) (spaced (numbered keys.X ns))
          (after_keyed family d keys.X (map decimal ns) refl h.begun (decimals_are_words ns small)
          ∙ keyed_x family d ns (in_place family d keys.X five h.needed) below small different
          ∙ ap (λ (x : FinSet nat_cmp). Ok (record d { rank = 5; x = x })) is),
    )

marks_y : (family : Family) (d : Draft) (ns : List ℕ) (s : FinSet nat_cmp)
    → TakesMarks family d
    → d.rank < 6
    → d.y ≡ empty
    → set_of ns ≡ s
    → list_all (λ n. nat_lt n (points_so_far family d)) ns ≡ true
    → repeats d.x ns ≡ false
    → (rank : ℕ) × (head_rank family ≤ rank)
    × (rank < 7)
    × Goes family d (text (marked game_keys.Y ns)) (record d { rank = rank; y = s })
marks_y family d [] s h six none is below different = (
  d.rank,
  h.needed,
  omega arith,
  λ n others. (
    n,
    ap (λ (y : FinSet nat_cmp). reading (after family) n (record d { y = y }) others) (none ∙ is),
  ),
)
marks_y family d (m ∷ ms) s h six none is below different =
    let ns : List ℕ = m ∷ ms in
    let small = smaller (points_so_far family d) ns h.few below in (
      6,
      head_small family 6 (lit≤ tt),
      lit< tt,
      goes_one family d (record d { rank = 6; y = s }) (spaced (numbered keys.Y ns))
          (after_keyed family d keys.Y (map decimal ns) refl h.begun (decimals_are_words ns small)
          ∙ keyed_y family d ns (in_place family d keys.Y six h.needed) below small different
          ∙ ap (λ (y : FinSet nat_cmp). Ok (record d { rank = 6; y = y })) is),
    )

the_turn : (family : Family) (d : Draft) (turn : Side)
    → TakesMarks family d
    → d.rank < 7
    → Goes family d (text (worded keys.Turn (side_word turn) ∷ [])) (record d {
      rank = 7;
      turn = Some turn;
    })
the_turn family d turn h seven = goes_one family d (record d {
  rank = 7;
  turn = Some turn;
}) (spaced (worded keys.Turn (side_word turn)))
    (after_keyed family d keys.Turn (side_word turn ∷ []) refl h.begun (rw (side_is_word turn) refl)
    ∙ keyed_turn family d turn (in_place family d keys.Turn seven h.needed))

-- the marks of both sides and the turn
last_goes : (family : Family) (d : Draft) (x y : FinSet nat_cmp) (turn : Side)
    → TakesMarks family d
    → d.rank < 5
    → d.x ≡ empty
    → d.y ≡ empty
    → AreBelow x (points_so_far family d)
    → AreBelow y (points_so_far family d)
    → ShareNone x y
    → Goes family d (text (last_lines x y turn)) (record d {
      rank = 7;
      x = x;
      y = y;
      turn = Some turn;
    })
last_goes family d x y turn h five no_x no_y x_below y_below apart =
    let points = points_so_far family d in
    let few : points ≤ 1000 = h.few in
    let x_again = from_list-points_below x 1024 (λ q held. omega (arith, x_below q held, few)) in
    let y_again = from_list-points_below y 1024 (λ q held. omega (arith, y_below q held, few)) in
    let a = marks_x family d (members x) x h five no_x x_again (below-members points x x_below)
    (repeats_none (members x) (points_below-ascend x 1024)) in
    let d1 : Draft = record d { rank = a.0; x = x } in
    let h1 : TakesMarks family d1 = record { begun = h.begun; needed = a.1; few = h.few } in
    let b = marks_y family d1 (members y) y h1 a.2 no_y y_again (below-members points y y_below)
    (members-apart x y apart) in
    let d2 : Draft = record d1 { rank = b.0; y = y } in
    let h2 : TakesMarks family d2 = record { begun = h.begun; needed = b.1; few = h.few } in
    let d3 : Draft = record d2 { rank = 7; turn = Some turn } in
    goes_both family d d1 d3 (marked game_keys.X (members x))
    (marked game_keys.Y (members y) ++ worded keys.Turn (side_word turn) ∷ []) a.3
    (goes_both family d1 d2 d3 (marked game_keys.Y (members y))
    (worded keys.Turn (side_word turn) ∷ []) b.3 (the_turn family d2 turn h2 b.2))

-- ---- the first lines

-- the draft after the header
abbrev pub begun : Draft
begun = record nothing { begun = true }

header_is : (family : Family) → after family nothing (spaced (header family)) ≡ Ok begun
unfolding after significant words
header_is families.Connectivity = refl
header_is families.Vectors = refl

header_goes : (family : Family) → Goes family nothing (text (header family ∷ [])) begun
header_goes family = goes_one family nothing begun (spaced (header family)) (header_is family)

-- the drafts of a connectivity game
abbrev pub of_edges : ℕ → List (ℕ × ℕ) → Draft
of_edges n ends = record begun { rank = rank_after 2 ends; vertices = n; ends = ends }

pub span_goes : (n : ℕ) (ends : List (ℕ × ℕ))
    → 2 ≤ n
    → n ≤ 500
    → All (λ e. (e.0 < n) × (e.1 < n)) ends
    → length ends ≤ 1000
    → Goes families.Connectivity nothing
    (text (header families.Connectivity ∷ numbered keys.Vertices (n ∷ []) ∷ map edge_words ends))
    (of_edges n ends)
span_goes n ends some few all room =
    let family = families.Connectivity in
    let small = one_small n (omega arith) in
    let size = goes_one family begun (of_edges n []) (spaced (numbered keys.Vertices (n ∷ [])))
    (after_keyed family begun keys.Vertices (map decimal (n ∷ [])) refl refl
    (decimals_are_words (n ∷ []) small)
    ∙ keyed_vertices begun n (lit< tt) some few) in
    goes_then family nothing begun (of_edges n ends) (spaced (header family) ∷ [])
    (spaced (numbered keys.Vertices (n ∷ [])) ∷ text (map edge_words ends)) (header_goes family)
    (goes_then family begun (of_edges n []) (of_edges n ends)
    (spaced (numbered keys.Vertices (n ∷ [])) ∷ []) (text (map edge_words ends)) size
    (each_goes family edge_words (of_edges n) (λ e. (e.0 < n) × (e.1 < n)) (0, 0) step [] ends all
    (omega arith)))
  where
    step : (before : List (ℕ × ℕ)) (e : ℕ × ℕ)
        → (e.0 < n) × (e.1 < n)
        → length before < 1000
        → Goes families.Connectivity (of_edges n before) (spaced (edge_words e) ∷ [])
        (of_edges n (before ++ e ∷ []))
    step before e fits room =
        let d : Draft = of_edges n before in
        let rank = rank_within 2 before (lit≤ tt) in
        let first = fits.0 in
        let second = fits.1 in
        let small = two_small e.0 e.1 (omega arith) (omega arith) in
        goes_one families.Connectivity d (of_edges n (before ++ e ∷ [])) (spaced (edge_words e))
        (after_keyed families.Connectivity d keys.Edge (map decimal (e.0 ∷ e.1 ∷ [])) refl refl
        (decimals_are_words (e.0 ∷ e.1 ∷ []) small)
        ∙ keyed_edge d e.0 e.1 rank.0 rank.1 first second few room
        ∙ ap (λ (r : ℕ). Ok (record d {
          rank = r;
          ends = before ++ e ∷ [];
        })) (sym (rank_more 2 before e)))

-- the drafts of a game on vectors
abbrev pub of_vectors : ℕ → ℕ → List ℕ → Draft
of_vectors rows target vectors = record begun {
  rank = rank_after 3 vectors;
  rows = rows;
  target = target;
  vectors = vectors;
}

pub vectors_go : (rows target : ℕ) (vectors : List ℕ)
    → 1 ≤ rows
    → rows ≤ 128
    → target < 2 ^ rows
    → All (λ v. v < 2 ^ rows) vectors
    → length vectors ≤ 1000
    → Goes families.Vectors nothing
    (text (header families.Vectors ∷ numbered keys.Rows (rows ∷ []) ∷ worded keys.Target
    (signs_of rows target) ∷ map (vector_words rows) vectors)) (of_vectors rows target vectors)
vectors_go rows target vectors some few goal all room =
    let family = families.Vectors in
    let small = one_small rows (omega arith) in
    let sized : Draft = record begun { rank = 2; rows = rows } in
    let aimed : Draft = of_vectors rows target [] in
    let size = goes_one family begun sized (spaced (numbered keys.Rows (rows ∷ [])))
    (after_keyed family begun keys.Rows (map decimal (rows ∷ [])) refl refl
    (decimals_are_words (rows ∷ []) small)
    ∙ keyed_rows begun rows (lit< tt) some few) in
    let aim = goes_one family sized aimed (spaced (worded keys.Target (signs_of rows target)))
    (after_keyed family sized keys.Target (signs_of rows target ∷ []) refl refl
    (rw (signs_word rows target some) refl)
    ∙ keyed_target sized target (lit< tt) (lit≤ tt) goal) in
    goes_then family nothing begun (of_vectors rows target vectors) (spaced (header family) ∷ [])
    (spaced (numbered keys.Rows (rows ∷ [])) ∷ spaced (worded keys.Target (signs_of rows target))
    ∷ text (map (vector_words rows) vectors)) (header_goes family)
    (goes_then family begun sized (of_vectors rows target vectors)
    (spaced (numbered keys.Rows (rows ∷ [])) ∷ [])
    (spaced (worded keys.Target (signs_of rows target)) ∷ text (map (vector_words rows) vectors))
    size
    (goes_then family sized aimed (of_vectors rows target vectors)
    (spaced (worded keys.Target (signs_of rows target)) ∷ [])
    (text (map (vector_words rows) vectors)) aim (each_goes family (vector_words rows)
    (of_vectors rows target) (λ v. v < 2 ^ rows) 0 step [] vectors all (omega arith))))
  where
    step : (before : List ℕ) (v : ℕ)
        → v < 2 ^ rows
        → length before < 1000
        → Goes families.Vectors (of_vectors rows target before) (spaced (vector_words rows v) ∷ [])
        (of_vectors rows target (before ++ v ∷ []))
    step before v fits room =
        let d : Draft = of_vectors rows target before in
        let rank = rank_within 3 before (lit≤ tt) in
        goes_one families.Vectors d (of_vectors rows target (before ++ v ∷ []))
        (spaced (vector_words rows v))
        (after_keyed families.Vectors d keys.Vector (signs_of rows v ∷ []) refl refl
        (rw (signs_word rows v some) refl)
        ∙ keyed_vector d v rank.0 rank.1 fits room
        ∙ ap (λ (r : ℕ). Ok (record d {
          rank = r;
          vectors = before ++ v ∷ [];
        })) (sym (rank_more 3 before v)))

-- ---- the whole file

-- the draft after the last line
abbrev at_end : Draft → FinSet nat_cmp → FinSet nat_cmp → Side → Draft
at_end d x y turn = record d { rank = 7; x = x; y = y; turn = Some turn }

reads_none : (family : Family) (m : ℕ) (next : Draft) → reading (after family) m next [] ≡ Ok next
unfolding reading
reads_none family m next = refl

-- a file whose first lines lead to a draft, and whose last lines are those of marks and the turn
pub file_again : (family : Family) (head : List (List Bytes)) (d : Draft) (x y : FinSet nat_cmp)
    (turn : Side)
    → AreLinesIn (head ++ last_lines x y turn) 4194304
    → Goes family nothing (text head) d
    → d.begun ≡ true
    → head_rank family ≤ d.rank
    → d.rank < 5
    → d.x ≡ empty
    → d.y ≡ empty
    → points_so_far family d ≤ 1000
    → AreBelow x (points_so_far family d)
    → AreBelow y (points_so_far family d)
    → ShareNone x y
    → whole family (flat_map spelled (head ++ last_lines x y turn))
    ≡ Ok (record { draft = at_end d x y turn; turn = turn })
unfolding whole
file_again family head d x y turn small first has needed five no_x no_y few x_below y_below apart =
    let all : List (List Bytes) = head ++ last_lines x y turn in
    let short = small.few in
    let fitting : nat_lt 4194304 (length (flat_map spelled all)) ≡ false =
    grind (arith, nat_tests) in
    let cut : lines (flat_map spelled all) ≡ text all = lines_spelled all small.words in
    let marks = last_goes family d x y turn (record {
      begun = has;
      needed = needed;
      few = few;
    }) five no_x no_y x_below y_below apart in
    let last =
    goes_both family nothing d (at_end d x y turn) head (last_lines x y turn) first marks 1 [] in
    let read : reading (after family) 1 nothing (text all) ≡ Ok (at_end d x y turn) =
    ap (reading (after family) 1 nothing) (sym (append-nil (text all)))
    ∙ last.1
    ∙ reads_none family last.0 (at_end d x y turn) in
    rw (fitting, cut, read, has) refl
