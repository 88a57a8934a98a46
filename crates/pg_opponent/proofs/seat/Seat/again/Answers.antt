use Rattle.std.proofs.Common.{subst, sym}
use Rattle.pg_opponent.proofs.Common.{Claim}
use Rattle.pg_opponent.specs.Sitting.{Begins, sitting_of}
use Rattle.pg_opponent.proofs.seat.Seat.again.Goals as goal

pub returns-in-Ok-clause-after : goal.returns-in-Ok-clause-after
returns-in-Ok-clause-after c =
    let s = sitting_of c.in_ok-seat.seat in (
      s,
      subst (λ (k : Claim). Begins c.args.checked.game.now k s)
          (sym c.in-Ok.ensures.fits.on.same_claim) c.in_ok-seat.ensures.begins,
      c.in-Ok.ensures.comes,
    )
