-- The text of a game, in the pieces in which it is written.
use Rattle.std.proofs.Common.{◌≡◌, ℕ, List, [], ◌∷◌, ◌++◌, map, refl, ap, append_assoc}
use Rattle.pg_files.proofs.Common.{flat_map, flat_map-append, decimal, Bytes, spelled}
use Rattle.pg_files.specs.Print.{number_words}

-- lines made one by one are those of the list
pub each_text : {X : Type 0} (words : X → List Bytes) (xs : List X)
    → flat_map spelled (map words xs) ≡ flat_map (λ x. spelled (words x)) xs
each_text words [] = refl
each_text words (x ∷ xs) = ap (λ (t : Bytes). spelled (words x) ++ t) (each_text words xs)

pub joined : (h k : List Bytes) (ws last : List (List Bytes))
    → ((spelled h ++ spelled k) ++ flat_map spelled ws) ++ flat_map spelled last
    ≡ flat_map spelled (h ∷ k ∷ (ws ++ last))
joined h k ws last = simp (append_assoc, flat_map-append)

pub spaced_numbers : (ns : List ℕ)
    → flat_map (λ (w : Bytes). 32 ∷ w) (map decimal ns) ≡ flat_map (λ n. 32 ∷ decimal n) ns
spaced_numbers [] = refl
spaced_numbers (n ∷ ns) = ap (λ (t : Bytes). (32 ∷ decimal n) ++ t) (spaced_numbers ns)

pub numbers_text : (word : Bytes) (ns : List ℕ) (old : Bytes)
    → (old ++ (word ++ flat_map (λ n. 32 ∷ decimal n) ns)) ++ 10 ∷ []
    ≡ old ++ spelled (number_words word ns)
numbers_text word ns old =
    rw (spaced_numbers ns) (append_assoc old (word ++ flat_map (λ n. 32 ∷ decimal n) ns) (10 ∷ []))

pub joined_three : (old : Bytes) (v t : List Bytes) (es : List (List Bytes))
    → ((old ++ spelled v) ++ spelled t) ++ flat_map spelled es
    ≡ old ++ flat_map spelled (v ∷ t ∷ es)
joined_three old v t es = simp append_assoc

pub joined_bias : (old : Bytes) (v : List Bytes) (bs es : List (List Bytes))
    → ((old ++ spelled v) ++ flat_map spelled bs) ++ flat_map spelled es
    ≡ old ++ flat_map spelled (v ∷ (bs ++ es))
joined_bias old v bs es = simp (append_assoc, flat_map-append)
