-- Lists of items that grow at their ends.
use Rattle.std.proofs.Common.{◌≡◌, ℕ, zero, suc, ◌+◌, ◌<◌, Bool, true, false, List, [], ◌∷◌, ◌++◌}
use Rattle.std.proofs.Common.{length, map, filter, get_or, take, add-one, refl, sym, ap, ◌∙◌, inl}
use Rattle.std.proofs.Common.{inr, arith, append_assoc}
use Rattle.pg_scene.proofs.Common.{range_with_len, cases_Bool, append-nil, length-take-le}
use Rattle.pg_scene.proofs.Common.{map-append, take_more}
use Rattle.pg_scene.specs.Items.{numbered}
use Rattle.pg_scene.specs.declared.item.Item.{Item}

-- ---- what is put for each point that passes a test

filter-more : (t : ℕ → Bool) (a n v : ℕ)
    → a + n ≡ v
    → (b : Bool) → t v ≡ b
    → filter t (range_with_len a (suc n))
    ≡ filter t (range_with_len a n) ++ filter (λ _. b) (v ∷ [])
filter-more t a zero v e true on = let here : a ≡ v = omega arith in rw (here, on) refl
filter-more t a zero v e false off = let here : a ≡ v = omega arith in rw (here, off) refl
filter-more t a (suc n) v e b is =
    let others = filter-more t (a + 1) n v (omega arith) b is in
    elim (cases_Bool (t a)) [
      | inl on ↦ rw on (ap (λ (xs : List ℕ). a ∷ xs) others)
      | inr off ↦ rw off others
    ]

-- one that passes
pub passed : {A : Type 0} (f : ℕ → A) (t : ℕ → Bool) (n : ℕ) (front made before : List A) (x : A)
    → t n ≡ true
    → made ≡ before ++ x ∷ []
    → before ≡ front ++ map f (filter t (range_with_len 0 n))
    → x ≡ f n
    → made ≡ front ++ map f (filter t (range_with_len 0 (n + 1)))
passed f t n front made before x on step was is =
    let more : filter t (range_with_len 0 (n + 1)) ≡ filter t (range_with_len 0 n) ++ n ∷ [] =
    rw add-one (filter-more t 0 n n (omega arith) true on) in
    step
    ∙ ap (λ xs. xs ++ x ∷ []) was
    ∙ ap (λ y. (front ++ map f (filter t (range_with_len 0 n))) ++ y ∷ []) is
    ∙ append_assoc front (map f (filter t (range_with_len 0 n))) (f n ∷ [])
    ∙ ap (λ xs. front ++ xs) (sym (map-append f (filter t (range_with_len 0 n)) (n ∷ [])))
    ∙ ap (λ xs. front ++ map f xs) (sym more)

-- one that doesn't
pub failed : {A : Type 0} (f : ℕ → A) (t : ℕ → Bool) (n : ℕ) (front made before : List A)
    → t n ≡ false
    → made ≡ before
    → before ≡ front ++ map f (filter t (range_with_len 0 n))
    → made ≡ front ++ map f (filter t (range_with_len 0 (n + 1)))
failed f t n front made before off step was =
    let same : filter t (range_with_len 0 (n + 1)) ≡ filter t (range_with_len 0 n) = rw add-one
    (filter-more t 0 n n (omega arith) false off ∙ append-nil (filter t (range_with_len 0 n))) in
    step ∙ was ∙ ap (λ xs. front ++ map f xs) (sym same)

-- ---- members of lists that are numbered

numbered-more : {A : Type 0} (item : ℕ → A → List Item) (k : ℕ) (xs : List A) (x : A)
    → numbered item k (xs ++ x ∷ []) ≡ numbered item k xs ++ item (k + length xs) x
numbered-more item k [] x =
    append-nil (item k x) ∙ ap (λ n. item n x) (let same : k ≡ k + 0 = omega arith in same)
numbered-more item k (y ∷ xs) x = ap (λ zs. item k y ++ zs) (numbered-more item (suc k) xs x)
    ∙ sym (append_assoc (item k y) (numbered item (suc k) xs) (item (suc k + length xs) x))
    ∙ ap (λ n. (item k y ++ numbered item (suc k) xs) ++ item n x)
    (let same : suc k + length xs ≡ k + suc (length xs) = omega arith in same)

-- one member more
pub numbered_next : {A : Type 0} (item : ℕ → A → List Item) (k : ℕ) (xs : List A) (i n : ℕ)
    (d x : A) (front made before : List Item)
    → i < length xs
    → x ≡ get_or xs i d
    → n ≡ k + i
    → made ≡ before ++ item n x
    → before ≡ front ++ numbered item k (take i xs)
    → made ≡ front ++ numbered item k (take (i + 1) xs)
numbered_next item k xs i n d x front made before lt is number step was =
    let count : length (take i xs) ≡ i = length-take-le i xs (omega arith) in
    step
    ∙ ap (λ zs. zs ++ item n x) was
    ∙ append_assoc front (numbered item k (take i xs)) (item n x)
    ∙ ap (λ zs. front ++ (numbered item k (take i xs) ++ zs))
    (ap (λ m. item m x) (number ∙ ap (λ m. k + m) (sym count))
    ∙ ap (item (k + length (take i xs))) is)
    ∙ ap (λ zs. front ++ zs) (sym (numbered-more item k (take i xs) (get_or xs i d)))
    ∙ ap (λ ys. front ++ numbered item k ys) (sym (take_more xs i d lt))
