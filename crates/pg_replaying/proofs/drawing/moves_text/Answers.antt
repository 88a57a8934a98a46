use Rattle.std.proofs.Common.{subst, sym}
use Rattle.pg_game.specs.Game.{IsPosition}
use Rattle.pg_game.specs.declared.position.Position.{Position}
use Rattle.pg_game.proofs.Moves.{IsPosition-played, IsPosition-start}
use Rattle.pg_replaying.proofs.Common.{start}
use Rattle.pg_replaying.proofs.drawing.moves_text.Goals as goal

pub is_over-requires : goal.is_over-requires
is_over-requires c =
    let is = IsPosition-played c.args.game.now (start c.args.game.now) c.args.moves.now
    (IsPosition-start c.args.game.now) c.requires in
    (subst (λ (p : Position). IsPosition c.args.game.now p) (sym c.position_after-p.ensures)
    is).x_range
