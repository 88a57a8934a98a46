-- The files of positions.
use Rattle.std.proofs.Common.{◌≡◌, ◌∙◌, ◌+◌, ◌<◌, ℕ, List, [], ◌∷◌, ◌++◌, ap}
use Rattle.std.proofs.Common.{get_or}
use Rattle.std.proofs.Common.{Err, Ok, Option, drop, length, map, subst, sym, take}
use Rattle.std.proofs.lemmas.List.{map-append, map_push, take-append-drop, take_more}
use Rattle.pg_files.specs.Views.{entry}
use Rattle.pg_game.specs.declared.game.Game.{Game}
use Rattle.pg_game.specs.declared.position.Position.{Position}
use Rattle.pg_io.specs.Files.{Bytes, Holding, Making}
use Rattle.pg_io.specs.declared.stop.Stop.{Stop}
use Rattle.pg_sessions.specs.Review.{IsGameAt}
use Rattle.pg_split.specs.declared.numbering.Piece.{Piece}
use Rattle.pg_splitting.proofs.Kept.{stores_some, stores_then}
use Rattle.pg_splitting.specs.SplitFiles.{HasSameRules, StoresAll, entry_at, piece_file}

-- ---- rules

pub rules_then : (g h here : Game)
    → HasSameRules g h
    → HasSameRules h here
    → HasSameRules g here
rules_then g h here first second = record {
  kind = second.kind ∙ first.kind;
  field = second.field ∙ first.field;
  bias = second.bias ∙ first.bias;
}

-- ---- files

-- the game at a position is said as the file of the position
pub entry_here : (g here : Game) (p : Position) → IsGameAt g p here → entry here ≡ entry_at g p
entry_here g here p is =
    let kind = is.same_kind in
    let field = is.same_field in
    let x = is.same_x in
    let y = is.same_y in
    let turn = is.same_turn in
    let bias = is.same_bias in
    cc

entry_on : (g h : Game) (p : Position) → HasSameRules g h → entry_at h p ≡ entry_at g p
entry_on g h p rules =
    let kind = rules.kind in let field = rules.field in let bias = rules.bias in cc

pub file_on : (folder : Bytes) (g h : Game) (piece : Piece)
    → HasSameRules g h
    → piece_file folder h piece ≡ piece_file folder g piece
file_on folder g h piece rules = let same = entry_on g h piece.position rules in cc

-- the first of the files, and one more
files_more : (file : Piece → Making) (pieces : List Piece) (i : ℕ) (piece : Piece)
    → i < length pieces
    → piece ≡ get_or pieces i piece
    → map file (take (i + 1) pieces) ≡ map file (take i pieces) ++ file piece ∷ []
files_more file pieces i piece within at =
    ap (map file) (take_more pieces i piece within
    ∙ ap (λ (p : Piece). take i pieces ++ p ∷ []) (sym at))
    ∙ map_push file (take i pieces) piece

module _ (file_of : Piece → Making) (pieces : List Piece) (i : ℕ) (piece : Piece) (file : Making)
    (within : i < length pieces) (at : piece ≡ get_or pieces i piece) (is : file ≡ file_of piece)
    (a b c : Option Holding) (first : StoresAll (map file_of (take i pieces)) a b (Ok tt)) where
  -- the first files were stored, and one more
  pub stored_more : StoresAll (file ∷ []) b c (Ok tt)
      → StoresAll (map file_of (take (i + 1) pieces)) a c (Ok tt)
  stored_more next = subst (λ (files : List Making). StoresAll files a c (Ok tt))
      (ap (λ (f : Making). map file_of (take i pieces) ++ f ∷ []) is
      ∙ sym (files_more file_of pieces i piece within at))
      (stores_then (map file_of (take i pieces)) (file ∷ []) a b c (Ok tt) first next)

  all_files : (map file_of (take i pieces) ++ file ∷ []) ++ map file_of (drop (i + 1) pieces)
      ≡ map file_of pieces
  all_files = ap (λ (f : Making).
      (map file_of (take i pieces) ++ f ∷ []) ++ map file_of (drop (i + 1) pieces)) is
      ∙ ap (λ (files : List Making). files ++ map file_of (drop (i + 1) pieces))
      (sym (files_more file_of pieces i piece within at))
      ∙ sym (map-append file_of (take (i + 1) pieces) (drop (i + 1) pieces))
      ∙ ap (map file_of) (take-append-drop (i + 1) pieces)

  -- the first files were stored, and then the work was stopped
  pub stored_until : (stop : Stop)
      → StoresAll (file ∷ []) b c (Err stop)
      → StoresAll (map file_of pieces) a c (Err stop)
  stored_until stop next = subst (λ (files : List Making). StoresAll files a c (Err stop)) all_files
      (stores_some (map file_of (take i pieces) ++ file ∷ []) (map file_of (drop (i + 1) pieces)) a
      c stop (stores_then (map file_of (take i pieces)) (file ∷ []) a b c (Err stop) first next))
