use Rattle.std.proofs.Common.{refl, sym}
use Rattle.pg_vec_player.specs.Player.{vec_start}
use Rattle.pg_vec_player.proofs.Opening.{on-start}
use Rattle.pg_vec_player.proofs.Keeping.{playing-next}
use Rattle.pg_vec_player.proofs.player.VecPlayer.open.Goals as goal

pub invariant_of-result : goal.invariant_of-result
invariant_of-result c =
    let g = c.args.c.game.now in
    let claim = c.in-Some.claim.now in
    playing-next g c.args.side (vec_start g)
    (vec_start g) c.plan_of.result c.ending-ending.result c.ending-ending.new.self
    (on-start g c.args.c.cert.now c.args.side claim c.plan_of.result c.args.c.valid
    (sym c.in-Some.ensures) c.plan_of.ensures) refl c.ending-ending.ensures.ending
    c.ending-ending.ensures.kept
