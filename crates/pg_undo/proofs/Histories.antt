-- The lists that a ring was.
use Rattle.std.proofs.Common.{◌≡◌, ℕ, zero, suc, ◌+◌, ◌<◌, Bool, true, not, ◌&&◌, List}
use Rattle.std.proofs.Common.{[], ◌∷◌, ◌++◌, length, eqb, refl, sym, ap, ◌∙◌, inl, inr}
use Rattle.std.proofs.Common.{arith, subst, length-append}
use Rattle.std.proofs.lemmas.Bool.{cases_Bool}
use Rattle.std.proofs.Common.{get_or}
use Rattle.std.proofs.lemmas.List.FromFn.{length-range_with_len, get_or-range_with_len}
use Rattle.std.proofs.lemmas.List.Elements.{All-contains, All-filter, filter_passes, filter-append}
use Rattle.std.specs.List.{filter, range_with_len, Contains, All}
use Rattle.pg_base.specs.Sets.{minus, count, one_if}
use Rattle.pg_base.proofs.SetLemmas.{count_minus}
use Rattle.pg_undo.specs.Ring.{present, without}
use Rattle.pg_undo.specs.Links.{remaining, is_left, history, AreLinks}

filter-both : (a b : ℕ → Bool) (xs : List ℕ) → filter b (filter a xs) ≡ filter (λ v. a v && b v) xs
filter-both a b [] = refl
filter-both a b (x ∷ xs) =
    let tail = filter-both a b xs in
    elim (cases_Bool (a x)) [
      | inl on ↦ rw on (elim (cases_Bool (b x)) [
        | inl here ↦ rw here (ap (λ (ys : List ℕ). x ∷ ys) tail)
        | inr out ↦ rw out tail
      ])
      | inr off ↦ rw off tail
    ]

filter-all : (xs : List ℕ) → filter (λ (_ : ℕ). true) xs ≡ xs
filter-all [] = refl
filter-all (x ∷ xs) = ap (λ (ys : List ℕ). x ∷ ys) (filter-all xs)

pub remaining-is : (n : ℕ) (out : List ℕ)
    → remaining n out ≡ filter (is_left out) (range_with_len 0 n)
unfolding remaining is_left minus
remaining-is n [] = sym (filter-all (range_with_len 0 n))
remaining-is n (i ∷ out) = ap (without i) (remaining-is n out)
    ∙ filter-both (is_left out) (λ v. not (eqb i v)) (range_with_len 0 n)

range-below : (a n : ℕ) → All (λ v. v < a + n) (range_with_len a n)
range-below a n = λ k d low.
    let at : get_or (range_with_len a n) k d ≡ a + k =
    get_or-range_with_len a n k d (omega (arith, length-range_with_len a n)) in
    omega (arith, length-range_with_len a n)

-- a member of what remains is below n and left
pub member-below : (n : ℕ) (out : List ℕ) (u : ℕ) → Contains (remaining n out) u → u < n
member-below n out u h =
    let inside : Contains (filter (is_left out) (range_with_len 0 n)) u =
    subst (λ xs. Contains xs u) (remaining-is n out) h in
    let below : u < 0 + n = All-contains (λ v. v < 0 + n) _ u
    (All-filter (is_left out) (λ v. v < 0 + n) (range_with_len 0 n) (range-below 0 n)) inside in
    omega arith

pub member-left : (n : ℕ) (out : List ℕ) (u : ℕ)
    → Contains (remaining n out) u
    → is_left out u ≡ true
member-left n out u h =
    let inside : Contains (filter (is_left out) (range_with_len 0 n)) u =
    subst (λ xs. Contains xs u) (remaining-is n out) h in
    All-contains (λ v. is_left out v ≡ true) _ u
    (filter_passes (is_left out) (range_with_len 0 n)) inside

present-push : (lists : List (List ℕ)) (xs : List ℕ) → present (lists ++ xs ∷ []) ≡ xs
present-push [] xs = refl
present-push (ys ∷ []) xs = refl
present-push (ys ∷ (zs ∷ lists)) xs = present-push (zs ∷ lists) xs

pub present-is : (n : ℕ) (out : List ℕ) → present (history n out) ≡ remaining n out
unfolding history
present-is n [] = refl
present-is n (i ∷ out) = present-push (history n out) _

pub history-with : (n : ℕ) (out : List ℕ) (u : ℕ)
    → history n (u ∷ out) ≡ history n out ++ without u (present (history n out)) ∷ []
unfolding history remaining
history-with n out u = ap (λ xs. history n out ++ without u xs ∷ []) (sym (present-is n out))

pub history-push : (n : ℕ) (out : List ℕ) (u : ℕ)
    → history n (u ∷ out) ≡ history n out ++ present (history n (u ∷ out)) ∷ []
unfolding history
history-push n out u = ap (λ xs. history n out ++ xs ∷ []) (sym (present-push (history n out) _))

pub history-none : (n : ℕ) → history n [] ≡ range_with_len 0 n ∷ []
unfolding history remaining
history-none n = refl

pub length-history : (n : ℕ) (out : List ℕ) → length (history n out) ≡ length out + 1
unfolding history
length-history n [] = refl
length-history n (i ∷ out) =
    let rest = length-history n out in
    omega (arith, length-append (history n out) (remaining n (i ∷ out) ∷ []))

-- ---- there is room: what is out and what is left are n numbers

all-left : (n : ℕ) → count (λ (_ : ℕ). true) n ≡ n
unfolding count
all-left zero = refl
all-left (suc n) = let rest = all-left n in omega arith

left-count : (n : ℕ) (next previous out : List ℕ)
    → AreLinks n next previous out
    → count (is_left out) n + length out ≡ n
unfolding AreLinks is_left
left-count n next previous [] h = let all = all-left n in omega arith
left-count n next previous (i ∷ out) h =
    let rest = left-count n _ _ out h.2 in
    let fewer = count_minus (is_left out) i n h.1.was_left h.1.low in
    omega arith

pub some-room : (n : ℕ) (next previous out : List ℕ) (u : ℕ)
    → AreLinks n next previous out
    → u < n
    → is_left out u ≡ true
    → length out < n
some-room n next previous out u h low on =
    let all = left-count n next previous out h in
    let fewer = count_minus (is_left out) u n on low in
    omega arith

pub range-last : (a n : ℕ) → range_with_len a (suc n) ≡ range_with_len a n ++ (a + n) ∷ []
range-last a zero = let here : a + 0 ≡ a = omega arith in rw here refl
range-last a (suc n) =
    let end : (a + 1) + n ≡ a + suc n = omega arith in
    ap (λ (xs : List ℕ). a ∷ xs)
    (range-last (a + 1) n ∙ ap (λ k. range_with_len (a + 1) n ++ k ∷ []) end)

one-passes : (t : ℕ → Bool) (v : ℕ) → length (filter t (v ∷ [])) ≡ one_if (t v)
one-passes t v = elim (cases_Bool (t v)) [ inl on ↦ rw on refl | inr off ↦ rw off refl ]

passing-count : (t : ℕ → Bool) (n : ℕ) → length (filter t (range_with_len 0 n)) ≡ count t n
unfolding count
passing-count t zero = refl
passing-count t (suc n) =
    let rest = passing-count t n in
    let split = ap (λ xs. length (filter t xs)) (range-last 0 n)
    ∙ ap length (filter-append t (range_with_len 0 n) ((0 + n) ∷ [])) in
    let lengths = length-append (filter t (range_with_len 0 n)) (filter t ((0 + n) ∷ [])) in
    let here : length (filter t ((0 + n) ∷ [])) ≡ one_if (t n) = one-passes t (0 + n)
    ∙ ap (λ k. one_if (t k)) (let zero_is : 0 + n ≡ n = omega arith in zero_is) in
    omega (arith, split, lengths, here, rest)

-- what is left and what is out are n numbers
pub present-count : (n : ℕ) (next previous out : List ℕ) (lists : List (List ℕ))
    → AreLinks n next previous out
    → history n out ≡ lists
    → length (present lists) + length out ≡ n
present-count n next previous out lists links is =
    let left = ap length (ap present (sym is) ∙ (present-is n out ∙ remaining-is n out))
    ∙ passing-count (is_left out) n in
    omega (arith, left, left-count n next previous out links)

-- ---- for the calls

-- a member of the present list
pub member-at : (n : ℕ) (out : List ℕ) (lists : List (List ℕ)) (u : ℕ)
    → history n out ≡ lists
    → Contains (present lists) u
    → (u < n) × (is_left out u ≡ true)
member-at n out lists u is h =
    let inside : Contains (remaining n out) u =
    subst (λ xs. Contains xs u) (ap present (sym is) ∙ present-is n out) h in
    (member-below n out u inside, member-left n out u inside)

-- the present list as a filter
pub present-of : (n : ℕ) (out : List ℕ) (lists : List (List ℕ))
    → history n out ≡ lists
    → present lists ≡ filter (is_left out) (range_with_len 0 n)
present-of n out lists is = ap present (sym is) ∙ (present-is n out ∙ remaining-is n out)
