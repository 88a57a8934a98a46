-- What the code keeps of a game at a table.
use Rattle.std.specs.Prelude.{◌≡◌}
use Rattle.pg_playing.specs.Prelude.{IsMadeForGame}
use Rattle.pg_playing.specs.declared.table.Table.{Table}

-- the session and the judge are the game's
abbrev pub IsSeated : Table → Type 0
IsSeated table =
    (table.game.now ≡ table.session.game) × IsMadeForGame table.judge table.session.game
