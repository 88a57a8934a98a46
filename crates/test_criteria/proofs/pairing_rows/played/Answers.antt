use Rattle.std.proofs.Common.{◌≡◌, ◌<◌, ◌≤◌, ◌+◌, ℕ, sym, subst, arith, ◌∙◌}
use Rattle.pg_game.specs.declared.position.Position.{Position}
use Rattle.pg_game.specs.Game.{IsPosition, point_count}
use Rattle.pg_game.proofs.Moves.{IsPosition-after}
use Rattle.test_criteria.proofs.pairing_rows.played.Goals as goal

pub returns-then-is_free : goal.returns-then-is_free
returns-then-is_free c =
    let within : c.args.v < point_count c.args.g.now =
    omega (arith, c.if-v-points.true, c.points.ensures.count) in
    subst (λ (q : Position). IsPosition c.args.g.now q) (sym c.after.ensures)
    (IsPosition-after c.args.g.now c.args.p.now c.args.v c.requires within
    (sym c.is_free.ensures ∙ c.if-is_free.true))
