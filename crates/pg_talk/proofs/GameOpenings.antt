-- What a name holds, from what was read of it: a game.
use Rattle.std.proofs.Common.{◌≡◌, ◌+◌, take, Option, Some, Result, Err, refl}
use Rattle.pg_talk.proofs.Common.{Bytes, Holding, IsFile, Game, game, entry}
use Rattle.pg_files.specs.declared.fault.Fault.TheVariants.{Size}
use Rattle.pg_files.specs.declared.limits.TheConstants.{MAX_GAME_BYTES}
use Rattle.pg_talk.specs.Opening.{OpensGame, game_held}
use Rattle.pg_talk.specs.Reading.{IsReadAs}
use Rattle.pg_talk.specs.declared.halt.Halt.{Halt}
use Rattle.pg_talk.proofs.Openings.{cut_same, opens_whole}

-- one byte more than the limit tells as much as the whole file
game_cut : (all : Bytes) → game (take (MAX_GAME_BYTES + 1) all) ≡ game all
unfolding game
game_cut all = cut_same MAX_GAME_BYTES game (Err (Size, 0)) (λ text long. rw long refl) all

pub opens_game : (h : Option Holding) (name text : Bytes) (r : Result Game Halt)
    → IsFile h name MAX_GAME_BYTES text
    → IsReadAs entry (game_held (Some text)) r
    → OpensGame h name r
opens_game h name text r whole is =
    opens_whole MAX_GAME_BYTES (λ (text : Bytes). game_held (Some text))
    (λ all. rw (game_cut all) refl) entry h name text r whole is
