-- What the positions met are seen as.
use Rattle.std.specs.Prelude.{List}
use Rattle.pg_game.specs.declared.position.Position.{Position}

-- the list of them
pub record MetList : Type 0 where
  pub items : List Position
