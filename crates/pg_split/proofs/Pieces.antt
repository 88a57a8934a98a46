-- Positions of game files, one by one.
use Rattle.std.proofs.Common.{◌≡◌, ◌∙◌, ◌+◌, ◌<◌, ◌≤◌, ℕ, zero, suc, List, [], ◌∷◌, ◌++◌, ap, arith}
use Rattle.std.proofs.Common.{get_or, length, map, refl, subst, sym, take}
use Rattle.std.proofs.lemmas.List.{length_push, map_push, take_more}
use Rattle.std.proofs.lemmas.List.Elements.{All-push, All-weaker}
use Rattle.std.specs.List.{All, range_with_len}
use Rattle.pg_game.specs.declared.game.Game.{Game}
use Rattle.pg_plan.specs.declared.place.Place.{Place}
use Rattle.pg_plan.specs.declared.place.Place.TheVariants.{Decided, Game as AGame, Image, Moves}
use Rattle.pg_split.specs.Pieces.{IsFileBelow, IsPiece}
use Rattle.pg_split.specs.declared.numbering.Piece.{Piece}

-- these positions have the numbers from the first on, and this is the next one
pub record AreBelow (g : Game) (first next : ℕ) (pieces : List Piece) : Type 0 where
  pub each : All (IsPiece g) pieces
  pub files : map (λ (p : Piece). p.file) pieces ≡ range_with_len first (length pieces)
  pub next_is : next ≡ first + length pieces

range_last : (a n j : ℕ) → a + n ≡ j → range_with_len a (suc n) ≡ range_with_len a n ++ j ∷ []
range_last a zero j e = let same : a ≡ j = omega arith in ap (λ (k : ℕ). k ∷ []) same
range_last a (suc n) j e = ap (λ (ns : List ℕ). a ∷ ns) (range_last (a + 1) n j (omega arith))

range_push : (a n j : ℕ) → a + n ≡ j → range_with_len a (n + 1) ≡ range_with_len a n ++ j ∷ []
range_push a n j e =
    let on : n + 1 ≡ suc n = omega arith in ap (range_with_len a) on ∙ range_last a n j e

pub piece_more : (g : Game) (first next : ℕ) (before after : List Piece) (piece : Piece)
    → IsPiece g piece
    → piece.file ≡ next
    → after ≡ before ++ piece ∷ []
    → AreBelow g first next before
    → AreBelow g first (next + 1) after
piece_more g first next before after piece is at pushed below =
    let longer : length (before ++ piece ∷ []) ≡ length before + 1 = length_push before piece in
    let here : first + length before ≡ piece.file = sym below.next_is ∙ sym at in
    subst (AreBelow g first (next + 1)) (sym pushed) (record {
      each = All-push (IsPiece g) before piece below.each is;
      files = map_push (λ (p : Piece). p.file) before piece
          ∙ ap (λ (ns : List ℕ). ns ++ piece.file ∷ []) below.files
          ∙ sym (range_push first (length before) piece.file here)
          ∙ sym (ap (range_with_len first) longer);
      next_is = omega (arith, below.next_is, longer);
    })

-- ---- numbers above those of a plan

still_below : (a b : ℕ) → a ≤ b → (p : Place) → IsFileBelow a p → IsFileBelow b p
still_below a b more Decided below = tt
still_below a b more (Image map place) below = tt
still_below a b more (AGame file steps) below = omega (arith, more, below)
still_below a b more (Moves steps) below = tt

pub below_more : (places : List Place) (i a b : ℕ) (p : Place)
    → i < length places
    → p ≡ get_or places i p
    → a ≤ b
    → IsFileBelow b p
    → All (IsFileBelow a) (take i places)
    → All (IsFileBelow b) (take (i + 1) places)
below_more places i a b p within at more is below =
    let pushed : take (i + 1) places ≡ take i places ++ p ∷ [] = take_more places i p within
    ∙ ap (λ (q : Place). take i places ++ q ∷ []) (sym at) in
    subst (λ (ps : List Place). All (IsFileBelow b) ps) (sym pushed)
    (All-push (IsFileBelow b) (take i places) p
    (All-weaker (IsFileBelow a) (IsFileBelow b) (still_below a b more) (take i places) below) is)
