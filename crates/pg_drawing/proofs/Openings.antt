-- What a name holds, from what was read of it: a game of any kind.
use Rattle.std.proofs.Common.{◌≡◌, ◌+◌, true, length, take, Option, Some, None, Result, Err, refl}
use Rattle.std.proofs.Common.{subst}
use Rattle.std.specs.Prelude.{nat_lt}
use Rattle.pg_drawing.proofs.Common.{Bytes, Holding, Size, IsReadAs, Opens, game_fault, held_as}
use Rattle.pg_drawing.proofs.Common.{Halt}
use Rattle.pg_io.specs.Reading.{IsFile}
use Rattle.pg_files.specs.GameFile.{game}
use Rattle.pg_files.specs.declared.limits.TheConstants.{MAX_GAME_BYTES}
use Rattle.pg_talk.proofs.Openings.{cut_same, opens_whole}
use Rattle.pg_drawing.specs.Boards.{AnyEntry, any_entry, any_held}
use Rattle.pg_drawing.specs.declared.board.Board.{Board}

-- the first reader refuses each text that is too long
game_long : (text : Bytes) → nat_lt MAX_GAME_BYTES (length text) ≡ true → game text ≡ Err (Size, 0)
unfolding game
game_long text long = rw long refl

-- one byte more than the limit tells as much as the whole file
board_cut : (all : Bytes)
    → any_held (Some (take (MAX_GAME_BYTES + 1) all)) ≡ any_held (Some all)
board_cut all = cut_same MAX_GAME_BYTES (λ (text : Bytes). any_held (Some text))
    (Err (game_fault 1 0)) (λ text long. rw (game_long text long) refl) all

by_name : (o : Option Bytes) → held_as (λ text. any_held (Some text)) o ≡ any_held o
by_name None = refl
by_name (Some text) = refl

pub opens_board : (h : Option Holding) (name text : Bytes) (r : Result Board Halt)
    → IsFile h name MAX_GAME_BYTES text
    → IsReadAs any_entry (any_held (Some text)) r
    → Opens any_entry any_held h name r
opens_board h name text r whole is = go h
    (opens_whole MAX_GAME_BYTES
    (λ (text : Bytes). any_held (Some text)) board_cut any_entry h name text r whole is) where
      go : (h : Option Holding)
          → Opens any_entry (held_as (λ text. any_held (Some text))) h name r
          → Opens any_entry any_held h name r
      go None opens = tt
      go (Some held) opens = subst (λ (read : Result AnyEntry Halt). IsReadAs any_entry read r)
          (by_name (held name)) opens
