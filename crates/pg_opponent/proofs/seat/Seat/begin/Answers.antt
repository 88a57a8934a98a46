use Rattle.std.proofs.Common.{◌≡◌, ◌-◌, Some, ap, length, subst, sym}
use Rattle.pg_opponent.proofs.Common.{Claim, arrives}
use Rattle.pg_opponent.specs.Sitting.{Sitting, sitting_of}
use Rattle.pg_record.specs.Session.{Recorded}
use Rattle.pg_opponent.proofs.Steps.{begins_with, begun_on}
use Rattle.pg_opponent.proofs.seat.Seat.begin.Goals as goal

pub settle-requires : goal.settle-requires
settle-requires c = begun_on c.args.checked.game.now c.in_ok-player.player c.in-Ok.session
    c.new.result.items c.new-2.result.items c.in_ok-player.ensures.game
    c.in_ok-player.ensures.position c.in-Ok.ensures c.new.ensures.items c.new-2.ensures.items

pub returns-in-Ok-settle-clause-begins : goal.returns-in-Ok-settle-clause-begins
returns-in-Ok-settle-clause-begins c =
    let player = c.in_ok-player.player in
    let first : Sitting = record {
      player = player;
      events = c.in-Ok.session.events;
      own = c.new.result.items;
      replies = c.new-2.result.items;
    } in
    let claim = c.in-Ok-settle.ensures.fits.on.same_claim in
    begins_with c.args.checked.game.now c.settle.new.self.player.claim first
    (sitting_of c.settle.new.self) (record {
      same_game = c.in_ok-player.ensures.game;
      same_claim = sym claim;
      position = c.in_ok-player.ensures.position;
      standing = subst (λ (k : Claim). arrives k.nodes (length k.nodes - 1)
          ≡ Some player.standing) (sym claim) c.in_ok-player.ensures.standing;
    }) (ap (λ (r : Recorded). r.events) c.in-Ok.ensures) c.new.ensures.items
    c.new-2.ensures.items c.in-Ok-settle.ensures.went
