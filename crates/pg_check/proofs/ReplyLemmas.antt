-- Replies against the free points, one after the other.
use Rattle.std.proofs.Common.{◌≡◌, ◌≢◌, ℕ, suc, ◌+◌, ◌-◌, ◌<◌, ◌≤◌, true, false, List, [], ◌∷◌, map}
use Rattle.std.proofs.Common.{length, get_or, drop, refl, sym, ap, ◌∙◌, arith}
use Rattle.std.proofs.Common.{drop-cons}
use Rattle.pg_check.proofs.Common.{filter, range_with_len, drop_all, Game}
use Rattle.pg_check.proofs.Common.{Position, is_free, point_count, free_points, Reply}

-- the points of the replies from a place on
unfoldable pub points_from : List Reply → ℕ → List ℕ
points_from replies k = map (λ r. r.point) (drop k replies)

-- the free points from a point on
unfoldable pub free_from : Game → Position → ℕ → List ℕ
free_from g p v = filter (is_free p) (range_with_len v (point_count g - v))

pub free_from-start : (g : Game) (p : Position) → free_from g p 0 ≡ free_points g p
unfolding free_from free_points
free_from-start g p = let e : point_count g - 0 ≡ point_count g = omega arith in rw e refl

pub points_from-start : (replies : List Reply) → points_from replies 0 ≡ map (λ r. r.point) replies
unfolding points_from
points_from-start replies = refl

more : (p : Position) (v n : ℕ) (k : ℕ)
    → n ≡ suc k
    → range_with_len v n ≡ v ∷ range_with_len (v + 1) k
more p v n k e = rw e refl

pub free_from-free : (g : Game) (p : Position) (v : ℕ)
    → v < point_count g
    → is_free p v ≡ true
    → free_from g p v ≡ v ∷ free_from g p (v + 1)
unfolding free_from
free_from-free g p v lt on =
    let count : point_count g - v ≡ suc (point_count g - (v + 1)) = omega arith in
    ap (filter (is_free p)) (more p v (point_count g - v) (point_count g - (v + 1)) count)
    ∙ rw on refl

pub free_from-taken : (g : Game) (p : Position) (v : ℕ)
    → v < point_count g
    → is_free p v ≡ false
    → free_from g p v ≡ free_from g p (v + 1)
unfolding free_from
free_from-taken g p v lt off =
    let count : point_count g - v ≡ suc (point_count g - (v + 1)) = omega arith in
    ap (filter (is_free p)) (more p v (point_count g - v) (point_count g - (v + 1)) count)
    ∙ rw off refl

pub free_from-end : (g : Game) (p : Position) (v : ℕ) → point_count g ≤ v → free_from g p v ≡ []
unfolding free_from
free_from-end g p v h = let e : point_count g - v ≡ 0 = omega arith in rw e refl

pub points_from-next : (replies : List Reply) (k : ℕ) (d : Reply)
    → k < length replies
    → points_from replies k ≡ (get_or replies k d).point ∷ points_from replies (k + 1)
unfolding points_from
points_from-next replies k d lt = ap (map (λ q. q.point)) (drop-cons replies k d lt)
    ∙ ap (λ j. (get_or replies k d).point ∷ map (λ s. s.point) (drop j replies))
    (let e : suc k ≡ k + 1 = omega arith in e)

pub points_from-end : (replies : List Reply) (k : ℕ)
    → length replies ≤ k
    → points_from replies k ≡ []
unfolding points_from
points_from-end replies k h = ap (map (λ r. r.point)) (drop_all k replies h)

-- lists that agree in their heads agree where their rests do
pub same_rest : (x y : ℕ) (xs ys us vs : List ℕ)
    → us ≡ x ∷ xs
    → vs ≡ y ∷ ys
    → x ≡ y
    → us ≡ vs
    → xs ≡ ys
same_rest x y xs ys us vs ea eb h e = let f : x ∷ xs ≡ y ∷ ys = sym ea ∙ e ∙ eb in cc

pub same_whole : (x y : ℕ) (xs ys us vs : List ℕ)
    → us ≡ x ∷ xs
    → vs ≡ y ∷ ys
    → x ≡ y
    → xs ≡ ys
    → us ≡ vs
same_whole x y xs ys us vs ea eb h e = cc

pub other_head : (x y : ℕ) (xs ys us vs : List ℕ) → us ≡ x ∷ xs → vs ≡ y ∷ ys → x ≢ y → us ≡ vs → ⊥
other_head x y xs ys us vs ea eb ne e =
    let f : x ∷ xs ≡ y ∷ ys = sym ea ∙ e ∙ eb in
    let h : x ≡ y = cc in
    ne h

pub no_head : (y : ℕ) (ys us vs : List ℕ) → us ≡ [] → vs ≡ y ∷ ys → us ≡ vs → ⊥
no_head y ys us vs ea eb e = let f : [] ≡ y ∷ ys = sym ea ∙ e ∙ eb in cc
