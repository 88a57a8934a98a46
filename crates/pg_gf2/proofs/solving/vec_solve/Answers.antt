use Rattle.std.proofs.Common.{length, ap}
use Rattle.pg_gf2.proofs.VecClaims.{told_sound}
use Rattle.pg_gf2.proofs.solving.vec_solve.Goals as goal

pub returns-clause-valid : goal.returns-clause-valid
returns-clause-valid c =
    (told_sound c.args.game.now c.in_ok-sets.sets c.in_ok-certificate.certificate
    c.at_turn-with_x.result c.at_turn-with_y.result (length c.as_slice.result.now)
    c.in_ok-certificate.ensures.version c.in_ok-sets.ensures.sets c.at_turn-with_x.ensures
    c.at_turn-with_y.ensures (ap length c.as_slice.ensures) c.in_ok-certificate.ensures.claims).0

pub returns-clause-limits : goal.returns-clause-limits
returns-clause-limits c =
    (told_sound c.args.game.now c.in_ok-sets.sets c.in_ok-certificate.certificate
    c.at_turn-with_x.result c.at_turn-with_y.result (length c.as_slice.result.now)
    c.in_ok-certificate.ensures.version c.in_ok-sets.ensures.sets c.at_turn-with_x.ensures
    c.at_turn-with_y.ensures (ap length c.as_slice.ensures) c.in_ok-certificate.ensures.claims).1
