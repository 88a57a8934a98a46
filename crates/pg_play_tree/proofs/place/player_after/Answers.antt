use Rattle.std.proofs.Common.{refl}
use Rattle.pg_play_tree.proofs.place.player_after.Goals as goal

pub returns-clause-opens : goal.returns-clause-opens
returns-clause-opens c = (
  c.in-Ok.player,
  record {
    game = c.in-Ok.ensures.game;
    claim = c.in-Ok.ensures.chosen;
    position = c.in-Ok.ensures.position;
    standing = c.in-Ok.ensures.standing;
  },
  c.if-not-play_points.ensures.leads refl,
)
