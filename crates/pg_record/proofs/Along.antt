-- The positions along a play.
use Rattle.std.proofs.Common.{◌≡◌, ℕ, ◌+◌, List, [], ◌∷◌, ◌++◌, length, refl, ap, arith}
use Rattle.pg_record.proofs.Common.{Game, Position, after, played}
use Rattle.pg_record.specs.Replay.{positions_along}

pub along-more : (g : Game) (p : Position) (moves : List ℕ) (v : ℕ)
    → positions_along g p (moves ++ v ∷ [])
    ≡ positions_along g p moves ++ after g (played g p moves) v ∷ []
along-more g p [] v = refl
along-more g p (u ∷ moves) v =
    ap (λ (ps : List Position). p ∷ ps) (along-more g (after g p u) moves v)

pub length-along : (g : Game) (p : Position) (moves : List ℕ)
    → length (positions_along g p moves) ≡ length moves + 1
length-along g p [] = refl
length-along g p (u ∷ moves) = omega (arith, length-along g (after g p u) moves)

-- the last of them is the position after all moves
pub along-last : (g : Game) (p : Position) (moves : List ℕ)
    → (front : List Position) × (positions_along g p moves ≡ front ++ played g p moves ∷ [])
along-last g p [] = ([], refl)
along-last g p (u ∷ moves) =
    let rest = along-last g (after g p u) moves in
    (p ∷ rest.0, ap (λ (ps : List Position). p ∷ ps) rest.1)
