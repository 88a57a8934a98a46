-- One line for each row, with one row more.
use Rattle.std.proofs.Common.{ℕ, ◌+◌, ◌<◌, List, [], ◌∷◌, ◌++◌, length, get_or, take, sym, subst}
use Rattle.pg_game.proofs.Common.{take_more, AllZip}

module _ {A B : Type 0} (R : A → B → Type 0) where
  zip-push : (xs : List A) (ys : List B) (x : A) (y : B)
      → AllZip R xs ys
      → R x y
      → AllZip R (xs ++ x ∷ []) (ys ++ y ∷ [])
  zip-push [] [] x y h r = (r, h)
  zip-push [] (b ∷ ys) x y h r = absurd h
  zip-push (a ∷ xs) [] x y h r = absurd h
  zip-push (a ∷ xs) (b ∷ ys) x y h r = (h.0, zip-push xs ys x y h.1 r)

  pub zip-more : (xs : List A) (ys : List B) (i : ℕ) (d : A) (y : B)
      → i < length xs
      → AllZip R (take i xs) ys
      → R (get_or xs i d) y
      → AllZip R (take (i + 1) xs) (ys ++ y ∷ [])
  zip-more xs ys i d y lt h r = subst (λ (l : List A). AllZip R l (ys ++ y ∷ []))
      (sym (take_more xs i d lt)) (zip-push (take i xs) ys (get_or xs i d) y h r)
