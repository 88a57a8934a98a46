-- Words that ask for no book.
use Rattle.std.proofs.Common.{◌<◌, ◌≤◌, ℕ, List, [], ◌∷◌, length, map, arith}
use Rattle.pg_io.specs.Files.{Bytes}
use Rattle.pg_answering.specs.Drawing.{Draws, DrawsPicture, sheet_of}
use Rattle.pg_answering.specs.Machine.{Told}

-- fewer than three words ask for a picture
pub few_draw : {X : Type 0} (f : X → Bytes) (words : List X) (before after : Told) (status : ℕ)
    → length words < 3 → DrawsPicture (map f words) before after status
    → Draws (sheet_of (map f words)) before after status
few_draw f [] before after status few drawn = drawn
few_draw f (a ∷ []) before after status few drawn = drawn
few_draw f (a ∷ b ∷ []) before after status few drawn = drawn
few_draw f (a ∷ b ∷ c ∷ words) before after status few drawn = absurd (omega (arith, few))

-- so do more than three
pub many_draw : {X : Type 0} (f : X → Bytes) (words : List X) (before after : Told) (status : ℕ)
    → 4 ≤ length words → DrawsPicture (map f words) before after status
    → Draws (sheet_of (map f words)) before after status
many_draw f [] before after status many drawn = absurd (omega (arith, many))
many_draw f (a ∷ []) before after status many drawn = absurd (omega (arith, many))
many_draw f (a ∷ b ∷ []) before after status many drawn = absurd (omega (arith, many))
many_draw f (a ∷ b ∷ c ∷ []) before after status many drawn = absurd (omega (arith, many))
many_draw f (a ∷ b ∷ c ∷ d ∷ words) before after status many drawn = drawn
