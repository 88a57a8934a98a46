-- The rows of positions in few words.
use Rattle.pg_potential.proofs.Common.{FinSet, range_with_len, nat_cmp, cases_eq, false≢true}
use Rattle.pg_potential.proofs.Common.{append_assoc, append-nil, length-append, length-take-le}
use Rattle.pg_potential.proofs.Common.{length-drop, get_or_append_left, get_or-append-add}
use Rattle.pg_potential.proofs.Common.{get_or-drop}
use Rattle.pg_potential.proofs.Common.{get_or-take, slice_get-get_or, slice_get_within, AreBelow}
use Rattle.pg_potential.proofs.Common.{word_of, words_of, word_below-lt, word_of-members}
use Rattle.pg_potential.proofs.Common.{members-of_words, members-same}
use Rattle.pg_potential.proofs.Common.{point_count, Game, Position}
use lib.Pointwise.{pointwise}
use Rattle.std.proofs.Common.{Bool, true, false, IsTrue, nat_eq, zero, ◌≡◌, ◌∙◌, ℕ, suc, ◌+◌, ◌*◌}
use Rattle.std.proofs.Common.{◌^◌, ◌<◌, ◌≤◌, List, [], ◌∷◌, ◌++◌, length, map, take, drop, get_or}
use Rattle.std.proofs.Common.{Some, slice_get, refl, sym, ap, ap₂, subst, inl, inr, arith}
use Rattle.std.proofs.Common.{ext_get_or}
use Rattle.std.specs.Cmp.Lexicographic.{same_text, other_text}
use Rattle.std.proofs.Math.Nat.{mul-suc, mul-le-mul_left}
use Rattle.std.proofs.Math.Seq.{get_or-append_seam}
use Rattle.std.proofs.lemmas.List.FromFn.{get_or-map-range_with_len, length-map-range_with_len}
use Rattle.pg_potential.specs.Marks.{set_at, no_turn, position_at, kept, AreFlat, AreMarksOf}
use Rattle.pg_potential.specs.declared.marks.Marks.{Marks}
use Rattle.pg_potential.specs.declared.marks.Turn.{Turn}

pub length-words : (s : FinSet nat_cmp) → length (words_of s) ≡ 16
unfolding words_of
length-words s = length-map-range_with_len (word_of s) 0 16

pub word-at : (s : FinSet nat_cmp) (i : ℕ) → i < 16 → get_or (words_of s) i 0 ≡ word_of s i
unfolding words_of
word-at s i lt = get_or-map-range_with_len (word_of s) 0 16 i i 0 lt (omega arith)

-- a row is the set whose words stand there
pub set-iff : (ws : List ℕ) (width row : ℕ) (s : FinSet nat_cmp) (found : List ℕ)
    → width ≤ 16
    → ((i : ℕ) → get_or ws i 0 < 2 ^ 64)
    → width * row + width ≤ length ws
    → AreBelow s (64 * width)
    → found ≡ take width (drop (width * row) ws)
    → (found ≡ take width (words_of s) → set_at ws width row ≡ s)
    × (set_at ws width row ≡ s → found ≡ take width (words_of s))
set-iff ws width row s found few fit within below is = (
  λ same. members-of_words s rest width below (λ i lt. sym (get_or-take width rest i 0 lt)
      ∙ ap (λ l. get_or l i 0) (sym is ∙ same)
      ∙ get_or-take width (words_of s) i 0 lt
      ∙ word-at s i (omega (arith, lt, few))),
  λ same. is
      ∙ ext_get_or 0 _ _
      (length-take-le width rest enough ∙ sym (length-take-le width (words_of s) all)) (λ i lt.
      let below_width : i < width =
      let n = length-take-le width rest enough in omega (arith, lt, n) in
      get_or-take width rest i 0 below_width
      ∙ sym (word_of-members rest width i (fits i) below_width)
      ∙ ap (λ t. word_of t i) same
      ∙ sym (get_or-take width (words_of s) i 0 below_width
      ∙ word-at s i (omega (arith, below_width, few)))),
)
  where
    rest : List ℕ
    rest = drop (width * row) ws

    enough : width ≤ length rest
    enough = let n = length-drop (width * row) ws in omega (arith, n, within)

    all : width ≤ length (words_of s)
    all = let n = length-words s in omega (arith, n, few)

    fits : (i : ℕ) → get_or rest i 0 < 2 ^ 64
    fits i =
        subst (λ n. n < 2 ^ 64) (sym (get_or-drop (width * row) ws i 0)) (fit (width * row + i))

-- words behind a row don't change it
set-kept : (ws vs : List ℕ) (width row : ℕ)
    → width * row + width ≤ length ws
    → set_at (ws ++ vs) width row ≡ set_at ws width row
set-kept ws vs width row within = members-same (drop (width * row) (ws ++ vs))
    (drop (width * row) ws) width (λ i lt. get_or-drop (width * row) (ws ++ vs) i 0
    ∙ get_or_append_left ws vs 0 (width * row + i) (omega (arith, lt, within))
    ∙ sym (get_or-drop (width * row) ws i 0))

-- a row that begins where the words before it end
set-next : (ws vs : List ℕ) (width row : ℕ) (s : FinSet nat_cmp)
    → length ws ≡ width * row
    → width ≤ 16
    → AreBelow s (64 * width)
    → set_at (ws ++ (take width (words_of s) ++ vs)) width row ≡ s
set-next ws vs width row s here few below = members-of_words s
    (drop (width * row) (ws ++ (take width (words_of s) ++ vs))) width below (λ i lt.
    let taken : length (take width (words_of s)) ≡ width =
    length-take-le width (words_of s) (let n = length-words s in omega (arith, n, few)) in
    get_or-drop (width * row) (ws ++ (take width (words_of s) ++ vs)) i 0
    ∙ ap (λ n. get_or (ws ++ (take width (words_of s) ++ vs)) (n + i) 0) (sym here)
    ∙ get_or-append-add ws (take width (words_of s) ++ vs) i 0
    ∙ get_or_append_left (take width (words_of s)) vs 0 i (omega (arith, lt, taken))
    ∙ get_or-take width (words_of s) i 0 lt
    ∙ word-at s i (omega (arith, lt, few)))

-- ---- the positions

pub length-kept : (m : Marks) → length (kept m) ≡ length m.turns.items
unfolding kept
length-kept m = length-map-range_with_len (position_at m.words.items m.width m.turns.items) 0
    (length m.turns.items)

pub kept-get : (m : Marks) (k : ℕ)
    → k < length m.turns.items
    → slice_get (kept m) k ≡ Some (position_at m.words.items m.width m.turns.items k)
unfolding kept
kept-get m k lt =
    let at = position_at m.words.items m.width m.turns.items in
    let count = length-map-range_with_len at 0 (length m.turns.items) in
    slice_get-get_or (map at (range_with_len 0 (length m.turns.items))) k (at k)
    (omega (arith, lt, count))
    ∙ ap Some (get_or-map-range_with_len at 0 (length m.turns.items) k k (at k) lt (omega arith))

pub kept-past : (m : Marks) (k : ℕ) (p : Position)
    → length m.turns.items ≤ k
    → slice_get (kept m) k ≡ Some p
    → ⊥
kept-past m k p past e =
    let lt = slice_get_within (kept m) k p e in
    let n = length-kept m in
    omega (arith, lt, n, past)

-- a row lies within as many rows
pub row-within : (width row count : ℕ) → row < count → width * row + width ≤ width * count
row-within width row count lt =
    let n = mul-suc width row in
    let step : suc row ≤ count = omega (arith, lt) in
    let le = mul-le-mul_left width step in
    omega (arith, n, le)

-- the position of a number, when words and turns came behind it
position-kept : (ws vs : List ℕ) (width : ℕ) (turns more : List Turn) (k count : ℕ)
    → length ws ≡ width * (2 * count)
    → k < count
    → length turns ≡ count
    → position_at (ws ++ vs) width (turns ++ more) k ≡ position_at ws width turns k
position-kept ws vs width turns more k count words lt many =
    let x = set-kept ws vs width (2 * k)
    (let n = row-within width (2 * k) (2 * count) (omega (arith, lt)) in omega (arith, n, words)) in
    let y = set-kept ws vs width (2 * k + 1)
    (let n = row-within width (2 * k + 1) (2 * count) (omega (arith, lt)) in omega (
      arith,
      n,
      words,
    )) in
    let turn = get_or_append_left turns more no_turn k (omega (arith, lt, many)) in
    rw (x, y, turn) refl

-- the position that came last
position-next : (ws : List ℕ) (width : ℕ) (turns : List Turn) (p : Position) (t : Turn)
    → length ws ≡ width * (2 * length turns)
    → width ≤ 16
    → AreBelow p.x (64 * width)
    → AreBelow p.y (64 * width)
    → t.side ≡ p.turn
    → t.left ≡ p.left
    → position_at (ws ++ (take width (words_of p.x) ++ take width (words_of p.y))) width
    (turns ++ t ∷ []) (length turns) ≡ p
position-next ws width turns p t words few x_below y_below side left =
    let n = length turns in
    let taken : length (take width (words_of p.x)) ≡ width =
    length-take-le width (words_of p.x) (let all = length-words p.x in omega (arith, all, few)) in
    let front : length (ws ++ take width (words_of p.x)) ≡ width * (2 * n + 1) =
    length-append ws (take width (words_of p.x))
    ∙ (let m = mul-suc width (2 * n) in
    let one : suc (2 * n) ≡ 2 * n + 1 = omega arith in
    let m' = subst (λ k. width * k ≡ width * (2 * n) + width) one m in
    omega (arith, words, taken, m')) in
    let x = set-next ws (take width (words_of p.y)) width (2 * n) p.x words few x_below in
    let y : set_at (ws ++ (take width (words_of p.x) ++ take width (words_of p.y))) width
    (2 * n + 1) ≡ p.y = ap (λ l. set_at l width (2 * n + 1))
    (sym (append_assoc ws (take width (words_of p.x)) (take width (words_of p.y)))
    ∙ ap (λ l. (ws ++ take width (words_of p.x)) ++ l)
    (sym (append-nil (take width (words_of p.y)))))
    ∙ set-next (ws ++ take width (words_of p.x)) [] width (2 * n + 1) p.y front few y_below in
    let last : get_or (turns ++ t ∷ []) (length turns) no_turn ≡ t =
    get_or-append_seam turns t [] no_turn in
    rw (x, y, last, side, left) refl

-- one position more
pub kept-more : (m next : Marks) (p : Position) (t : Turn)
    → AreFlat m
    → next.width ≡ m.width
    → AreBelow p.x (64 * m.width)
    → AreBelow p.y (64 * m.width)
    → next.words.items
    ≡ m.words.items ++ (take m.width (words_of p.x) ++ take m.width (words_of p.y))
    → next.turns.items ≡ m.turns.items ++ t ∷ []
    → t.side ≡ p.turn
    → t.left ≡ p.left
    → kept next ≡ kept m ++ p ∷ []
unfolding kept
kept-more m next p t flat same x_below y_below words turns side left = ap₂ (λ (ws : List ℕ) (w : ℕ).
    map (position_at ws w next.turns.items) (range_with_len 0 (length next.turns.items))) words same
    ∙ ap (λ (ts : List Turn).
    map (position_at (m.words.items ++ added) m.width ts) (range_with_len 0 (length ts))) turns
    ∙ ext_get_or p _ _ (counts ∙ sym (length-append old (p ∷ []) ∙ ap (λ n. n + 1) old_count))
    (λ i lt. elim (cases_eq i n) [
      | inl e ↦ ap (λ j. get_or now j p) e
          ∙ here n (omega arith)
          ∙ position-next m.words.items m.width m.turns.items p t flat.count flat.few x_below
          y_below side left
          ∙ sym
          (ap (λ j. get_or (old ++ p ∷ []) j p) (e ∙ sym old_count) ∙ get_or-append_seam old p [] p)
      | inr ne ↦
          let below : i < n = let c = counts in omega (arith, lt, ne, c) in
          here i (omega (arith, below))
          ∙ position-kept m.words.items added m.width m.turns.items
          (t ∷ []) i n flat.count below refl
          ∙ sym (get_or_append_left old (p ∷ []) p i (let c = old_count in omega (arith, below, c))
          ∙ get_or-map-range_with_len (position_at m.words.items m.width m.turns.items) 0 n i i p
          below (omega arith))
    ])
  where
    n : ℕ
    n = length m.turns.items

    added : List ℕ
    added = take m.width (words_of p.x) ++ take m.width (words_of p.y)

    old : List Position
    old = map (position_at m.words.items m.width m.turns.items) (range_with_len 0 n)

    now : List Position
    now = map (position_at (m.words.items ++ added) m.width (m.turns.items ++ t ∷ []))
        (range_with_len 0 (length (m.turns.items ++ t ∷ [])))

    old_count : length old ≡ n
    old_count = length-map-range_with_len (position_at m.words.items m.width m.turns.items) 0 n

    counts : length now ≡ n + 1
    counts = length-map-range_with_len (position_at (m.words.items ++ added) m.width
        (m.turns.items ++ t ∷ [])) 0 (length (m.turns.items ++ t ∷ []))
        ∙ length-append m.turns.items (t ∷ [])

    here : (i : ℕ)
        → i < n + 1
        → get_or now i p ≡ position_at (m.words.items ++ added) m.width (m.turns.items ++ t ∷ []) i
    here i lt = get_or-map-range_with_len
        (position_at (m.words.items ++ added) m.width (m.turns.items ++ t ∷ [])) 0
        (length (m.turns.items ++ t ∷ [])) i i p
        (let c = length-append m.turns.items (t ∷ []) in omega (arith, lt, c)) (omega arith)

-- the rows of one position more
pub flat-more : (m next : Marks) (p : Position) (t : Turn)
    → AreFlat m
    → next.width ≡ m.width
    → next.words.items
    ≡ m.words.items ++ (take m.width (words_of p.x) ++ take m.width (words_of p.y))
    → next.turns.items ≡ m.turns.items ++ t ∷ []
    → ((i : ℕ) → get_or next.words.items i 0 < 2 ^ 64)
    → AreFlat next
flat-more m next p t flat same words turns fits = record {
  count = ap length words
      ∙ lengths
      ∙ ap₂ (λ (w n : ℕ). w * (2 * n)) (sym same)
      (sym (ap length turns ∙ length-append m.turns.items (t ∷ [])));
  few = omega (arith, same, flat.few);
  fit = fits;
}
  where
    n : ℕ
    n = length m.turns.items

    taken : (s : FinSet nat_cmp) → length (take m.width (words_of s)) ≡ m.width
    taken s = length-take-le m.width (words_of s)
        (let all = length-words s in omega (arith, all, flat.few))

    lengths : length (m.words.items ++ (take m.width (words_of p.x) ++ take m.width (words_of p.y)))
        ≡ m.width * (2 * (n + 1))
    lengths =
        let whole =
        length-append m.words.items (take m.width (words_of p.x) ++ take m.width (words_of p.y)) in
        let both = length-append (take m.width (words_of p.x)) (take m.width (words_of p.y)) in
        let one = mul-suc m.width (2 * n) in
        let two = mul-suc m.width (suc (2 * n)) in
        let rows : suc (suc (2 * n)) ≡ 2 * (n + 1) = omega arith in
        let two' = subst (λ k. m.width * k ≡ m.width * suc (2 * n) + m.width) rows two in
        omega (arith, whole, both, taken p.x, taken p.y, flat.count, one, two')

-- the sets of a position of the game fit into their rows
pub fits-row : (g : Game) (m : Marks) (s : FinSet nat_cmp)
    → AreMarksOf g m
    → AreBelow s (point_count g)
    → AreBelow s (64 * m.width)
fits-row g m s made below v on = let lt = below v on in omega (arith, lt, made.room)

pub kept-none : (m : Marks) → m.turns.items ≡ [] → kept m ≡ []
unfolding kept
kept-none m none = ap (λ (ts : List Turn).
    map (position_at m.words.items m.width ts) (range_with_len 0 (length ts))) none

-- what a position of a number is
pub record IsAt (m : Marks) (k : ℕ) (p : Position) : Type 0 where
  pub x : set_at m.words.items m.width (2 * k) ≡ p.x
  pub y : set_at m.words.items m.width (2 * k + 1) ≡ p.y
  pub side : (get_or m.turns.items k no_turn).side ≡ p.turn
  pub left : (get_or m.turns.items k no_turn).left ≡ p.left

pub kept-is : (m : Marks) (k : ℕ) (p : Position)
    → k < length m.turns.items
    → slice_get (kept m) k ≡ Some p
    → position_at m.words.items m.width m.turns.items k ≡ p
kept-is m k p lt e =
    let some : Some (position_at m.words.items m.width m.turns.items k) ≡ Some p =
    sym (kept-get m k lt) ∙ e in
    cc

pub at-parts : (m : Marks) (k : ℕ) (p : Position)
    → k < length m.turns.items
    → slice_get (kept m) k ≡ Some p
    → IsAt m k p
at-parts m k p lt e =
    let same = kept-is m k p lt e in
    record {
      x = ap (λ (q : Position). q.x) same;
      y = ap (λ (q : Position). q.y) same;
      side = ap (λ (q : Position). q.turn) same;
      left = ap (λ (q : Position). q.left) same;
    }

pub at-from : (m : Marks) (k : ℕ) (p : Position)
    → k < length m.turns.items
    → IsAt m k p
    → slice_get (kept m) k ≡ Some p
at-from m k p lt is = kept-get m k lt
    ∙ (let x = is.x in
    let y = is.y in let side = is.side in let left = is.left in rw (x, y, side, left) refl)

-- what a test of two lists has told
pub eq-iff : (r : Bool) (xs ys : List ℕ)
    → r ≡ pointwise nat_eq xs ys
    → (IsTrue r → xs ≡ ys) × (xs ≡ ys → IsTrue r)
eq-iff true xs ys e = (λ _. same_text xs ys e, λ _. refl)
eq-iff false xs ys e = (λ f. absurd (false≢true f), λ s. absurd (other_text xs ys e s))

-- ---- words fit

-- every number is that of a word
abbrev pub Fit : List ℕ → Type 0
Fit ws = (i : ℕ) → get_or ws i 0 < 2 ^ 64

pub fit-append : (xs ys : List ℕ) → Fit xs → Fit ys → Fit (xs ++ ys)
fit-append [] ys fx fy i = fy i
fit-append (x ∷ xs) ys fx fy zero = fx 0
fit-append (x ∷ xs) ys fx fy (suc i) = fit-append xs ys (λ j. fx (suc j)) fy i

fit-take : (n : ℕ) (xs : List ℕ) → Fit xs → Fit (take n xs)
fit-take zero [] fx i = fx i
fit-take zero (x ∷ xs) fx i = omega arith
fit-take (suc n) [] fx i = fx i
fit-take (suc n) (x ∷ xs) fx zero = fx 0
fit-take (suc n) (x ∷ xs) fx (suc i) = fit-take n xs (λ j. fx (suc j)) i

fit-map : (f : ℕ → ℕ) (xs : List ℕ) → ((x : ℕ) → f x < 2 ^ 64) → Fit (map f xs)
fit-map f [] each i = omega arith
fit-map f (x ∷ xs) each zero = each x
fit-map f (x ∷ xs) each (suc i) = fit-map f xs each i

word-fits : (s : FinSet nat_cmp) (i : ℕ) → word_of s i < 2 ^ 64
unfolding word_of
word-fits s i = word_below-lt _ 64

-- the words of a set
pub fit-set : (s : FinSet nat_cmp) → Fit (words_of s)
unfolding words_of
fit-set s = fit-map (word_of s) (range_with_len 0 16) (word-fits s)

pub fit-words : (width : ℕ) (s : FinSet nat_cmp) → Fit (take width (words_of s))
fit-words width s = fit-take width (words_of s) (fit-set s)

-- two rows that came one after the other
pub rows-of : (ws one two : List ℕ) (width : ℕ) (x y : FinSet nat_cmp) (wx wy : List ℕ)
    → wx ≡ words_of x
    → wy ≡ words_of y
    → one ≡ ws ++ take width wx
    → two ≡ one ++ take width wy
    → two ≡ ws ++ (take width (words_of x) ++ take width (words_of y))
rows-of ws one two width x y wx wy is_x is_y first second = second
    ∙ ap₂ (λ (a b : List ℕ). a ++ take width b)
    (first ∙ ap (λ (a : List ℕ). ws ++ take width a) is_x) is_y
    ∙ append_assoc ws (take width (words_of x)) (take width (words_of y))

-- marks with one position more are still those of the game
pub made-more : (g : Game) (m next : Marks)
    → AreMarksOf g m
    → AreFlat next
    → next.width ≡ m.width
    → AreMarksOf g next
made-more g m next made flat same = record { flat = flat; room = omega (arith, same, made.room) }
