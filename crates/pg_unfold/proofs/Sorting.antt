-- The images of replies, sorted by their points, ascend.
use Rattle.std.proofs.Common.{◌≡◌, ℕ, zero, suc, ◌+◌, ◌<◌, ◌≤◌, true, nat_le, List, [], ◌∷◌, map}
use Rattle.std.proofs.Common.{length, get_or, leb-true, le-leb, refl, sym, ap, ◌∙◌, subst, arith}
use Rattle.pg_unfold.proofs.Common.{All, AllPairs, AllZip, IsPermutation, IsSorted, IsSortedByKey}
use Rattle.pg_unfold.proofs.Common.{nat_cmp, is_lt, and_parts, and_from, All-cons, All-head}
use Rattle.pg_unfold.proofs.Common.{All-weaker, All-map, All-nil, IsPermutation-map, Reply, IsReply}
use Rattle.pg_unfold.proofs.Common.{AreInverse, image_line}
use Rattle.std.proofs.lemmas.List.Kept.{AllPairs-cons}
use Rattle.pg_text.specs.Text.{ascend_from}
use Rattle.pg_maps.specs.Rows.{IsRow}
use Rattle.pg_maps.proofs.ImageLines.{image_line-rising}
use Rattle.pg_maps.proofs.SortedImages.{sorted_image}
use Rattle.pg_unfold.specs.Unfolded.{IsReplyImage, AreReplyImages}

-- ---- numbers that ascend

pub ascend-low : (n : ℕ) (xs : List ℕ) → ascend_from n xs ≡ true → All (λ v. n ≤ v) xs
ascend-low n [] on = All-nil (λ v. n ≤ v)
ascend-low n (x ∷ xs) on =
    let both = and_parts (nat_le n x) (ascend_from (x + 1) xs) on in
    let low : n ≤ x = leb-true n x both.0 in
    All-cons (λ v. n ≤ v) x xs low
    (All-weaker (λ v. x + 1 ≤ v) (λ v. n ≤ v) (λ v h. omega arith) xs
    (ascend-low (x + 1) xs both.1))

pub ascend-rising : (n : ℕ) (xs : List ℕ) → ascend_from n xs ≡ true → AllPairs (λ a b. a < b) xs
ascend-rising n [] on = λ i j d before inside. absurd (omega (arith, inside))
ascend-rising n (x ∷ xs) on =
    let both = and_parts (nat_le n x) (ascend_from (x + 1) xs) on in
    AllPairs-cons (λ a b. a < b) x xs
    (All-weaker (λ v. x + 1 ≤ v) (λ v. x < v) (λ v h. omega arith) xs
    (ascend-low (x + 1) xs both.1)) (ascend-rising (x + 1) xs both.1)

pub rising-ascend : (n : ℕ) (xs : List ℕ)
    → All (λ v. n ≤ v) xs
    → AllPairs (λ a b. a < b) xs
    → ascend_from n xs ≡ true
rising-ascend n [] low up = refl
rising-ascend n (x ∷ xs) low up = and_from _ _ (le-leb n x (All-head (λ v. n ≤ v) x xs low))
    (rising-ascend (x + 1) xs
    (λ k d lt. let above = up 0 (suc k) d (omega arith) (omega (arith, lt)) in omega (arith, above))
    (λ i j d before inside. up (suc i) (suc j) d (omega (arith, before)) (omega (arith, inside))))

-- ---- lists and their keys

get_or-key : {X : Type 0} (key : X → ℕ) (xs : List X) (k : ℕ) (d : X) (e : ℕ)
    → k < length xs
    → get_or (map key xs) k e ≡ key (get_or xs k d)
get_or-key key [] k d e lt = absurd (omega (arith, lt))
get_or-key key (x ∷ xs) zero d e lt = refl
get_or-key key (x ∷ xs) (suc k) d e lt = get_or-key key xs k d e (omega (arith, lt))

length-key : {X : Type 0} (key : X → ℕ) (xs : List X) → length (map key xs) ≡ length xs
length-key key [] = refl
length-key key (x ∷ xs) = ap suc (length-key key xs)

none : Reply
none = record { point = 0; child = 0 }

sorted-keys : (xs : List Reply)
    → IsSortedByKey (λ r. r.point) nat_cmp xs
    → IsSorted nat_cmp (map (λ r. r.point) xs)
sorted-keys xs sorted = λ k d low high.
    let count = length-key (λ (r : Reply). r.point) xs in
    let a : k < length xs = omega (arith, count, high) in
    let b : k + 1 < length xs = omega (arith, count, high) in
    ap (λ n. is_lt (nat_cmp n (get_or (map (λ (r : Reply). r.point) xs) k d)))
    (get_or-key (λ (r : Reply). r.point) xs (k + 1) none d b)
    ∙ ap (λ n. is_lt (nat_cmp (get_or xs (k + 1) none).point n))
    (get_or-key (λ (r : Reply). r.point) xs k none d a)
    ∙ sorted k none low b

pub pairs-keys : (xs : List Reply)
    → AllPairs (λ a b. a < b) (map (λ r. r.point) xs)
    → AllPairs (λ a b. a.point < b.point) xs
pairs-keys xs up = λ i j d before inside.
    let count = length-key (λ (r : Reply). r.point) xs in
    let a : i < length xs = omega (arith, before, inside) in
    let less = up i j 0 before (omega (arith, count, inside)) in
    let x = get_or-key (λ (r : Reply). r.point) xs i d 0 a in
    let y = get_or-key (λ (r : Reply). r.point) xs j d 0 inside in
    omega (arith, less, x, y)

pub keys-pairs : (xs : List Reply)
    → AllPairs (λ a b. a.point < b.point) xs
    → AllPairs (λ a b. a < b) (map (λ r. r.point) xs)
keys-pairs xs up = λ i j d before inside.
    let count = length-key (λ (r : Reply). r.point) xs in
    let b : j < length xs = omega (arith, count, inside) in
    let a : i < length xs = omega (arith, before, b) in
    let less = up i j none before b in
    let x = get_or-key (λ (r : Reply). r.point) xs i none d a in
    let y = get_or-key (λ (r : Reply). r.point) xs j none d b in
    omega (arith, less, x, y)

-- ---- images of replies

module _ (f back : ℕ → ℕ) (inverse : AreInverse 1024 f back) (Becomes : ℕ → ℕ → Type 0) where
  points-mapped : (rs images : List Reply)
      → AllZip (IsReplyImage f Becomes) rs images
      → map (λ r. r.point) images ≡ map f (map (λ r. r.point) rs)
  points-mapped [] [] h = refl
  points-mapped [] (y ∷ ys) h = absurd h
  points-mapped (x ∷ xs) [] h = absurd h
  points-mapped (x ∷ xs) (y ∷ ys) h = λ i. h.0.point i ∷ points-mapped xs ys h.1 i

  pub AreReplyImages-sorted : (rs mapped images : List Reply)
      → All IsReply rs
      → ascend_from 0 (map (λ r. r.point) rs) ≡ true
      → AllZip (IsReplyImage f Becomes) rs mapped
      → IsPermutation mapped images
      → IsSortedByKey (λ r. r.point) nat_cmp images
      → AreReplyImages f Becomes rs images
  AreReplyImages-sorted rs mapped images are up each moved sorted = record {
    mapped = mapped;
    each = each;
    same = moved;
    ascending = pairs-keys images
        (subst (AllPairs (λ a b. a < b)) (sym whole) (image_line-rising f 1024 line));
  }
    where
      line : List ℕ
      line = map (λ r. r.point) rs

      rising : AllPairs (λ a b. a < b) line
      rising = ascend-rising 0 line up

      row : IsRow 1024 line
      row = record {
        up = λ k h. rising k (k + 1) 0 (omega arith) h;
        below = All-map (λ v. v < 1024) (λ (r : Reply). r.point) rs
            (All-weaker IsReply (λ r. r.point < 1024) (λ r is. is.0) rs are);
      }

      whole : map (λ r. r.point) images ≡ image_line f 1024 line
      whole = sorted_image f back 1024 line inverse row (map (λ r. r.point) images)
          (subst (λ ps. IsPermutation ps (map (λ r. r.point) images)) (points-mapped rs mapped each)
          (IsPermutation-map (λ (r : Reply). r.point) mapped images moved))
          (sorted-keys images sorted)
