-- The position that a player imagines, beside the true one.
use Rattle.std.specs.Prelude.{◌≡◌, ◌⊎◌}
use Rattle.pg_player.specs.Prelude.{MakerBreaker, Side, Game, Position, IsNoWorse}

-- the imagined position is the true one, or in Maker-Breaker the true one is no worse for the side
abbrev pub IsBeside : Game → Side → Position → Position → Type 0
IsBeside g side q p = (q ≡ p) ⊎ ((g.kind ≡ MakerBreaker) × IsNoWorse side q p)
