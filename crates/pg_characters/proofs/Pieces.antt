-- Texts made piece by piece.
use Rattle.std.proofs.Common.{◌≡◌, ◌∙◌, ℕ, zero, suc, ◌+◌, List, ◌++◌, sym, ap, ap₂, arith}
use Rattle.std.proofs.Common.{append_assoc}
use Rattle.std.specs.List.{flat_map, range_with_len}
use Rattle.std.proofs.lemmas.List.{append-nil}

grows : {A : Type 0} (f : ℕ → List A) (a n j : ℕ)
    → a + n ≡ j
    → flat_map f (range_with_len a (suc n)) ≡ flat_map f (range_with_len a n) ++ f j
grows f a zero j e =
    let same : a ≡ j = omega arith in
    append-nil (f a) ∙ ap f same
grows f a (suc n) j e =
    let on : a + 1 + n ≡ j = omega arith in
    ap (λ ys. f a ++ ys) (grows f (a + 1) n j on)
    ∙ sym (append_assoc (f a) (flat_map f (range_with_len (a + 1) n)) (f j))

-- the pieces below n after other text, and then that piece
pub next_piece : {A : Type 0} (f : ℕ → List A) (n : ℕ) (front made before piece : List A)
    → made ≡ before ++ piece
    → before ≡ front ++ flat_map f (range_with_len 0 n)
    → piece ≡ f n
    → made ≡ front ++ flat_map f (range_with_len 0 (n + 1))
next_piece f n front made before piece step was is =
    let on : n + 1 ≡ suc n = omega arith in
    step
    ∙ ap₂ (λ xs y. xs ++ y) was is
    ∙ append_assoc front (flat_map f (range_with_len 0 n)) (f n)
    ∙ ap (λ xs. front ++ xs)
    (sym (ap (λ k. flat_map f (range_with_len 0 k)) on ∙ grows f 0 n n (omega arith)))
