use Rattle.std.proofs.Common.{List, sym, subst}
use Rattle.pg_opponent.proofs.Common.{Claim, Event, Game}
use Rattle.pg_opponent.specs.Fits.{IsOn, Went}
use Rattle.pg_opponent.specs.Sitting.{sitting_of}
use Rattle.pg_opponent.specs.declared.seat.OwnPoint.{OwnPoint}
use Rattle.pg_opponent.proofs.Steps.{answered_with, reply_on}
use Rattle.pg_opponent.proofs.seat.Seat.reply.Goals as goal

pub settle-requires : goal.settle-requires
settle-requires c =
    let old = c.args.self.now in
    let now = c.take_reply.new.self in
    let replies = c.push.new.self.items in
    let on = reply_on old.session.game old.player.claim (sitting_of old) now c.args.point
    c.requires.on c.in-Ok.ensures.taken replies c.in_ok-push-in-Ok.ensures.items in
    subst (λ (k : Game × Claim × List Event × List OwnPoint). IsOn k.0 k.1 (record {
      player = now;
      events = k.2;
      own = k.3;
      replies = replies;
    })) (λ i. (
      sym c.record.ensures.game i,
      sym on.same_claim i,
      sym c.record.ensures.events i,
      sym c.clear.ensures.items i,
    )) on

pub returns-in_ok-settle-in-Ok-clause-answered : goal.returns-in_ok-settle-in-Ok-clause-answered
returns-in_ok-settle-in-Ok-clause-answered c =
    let old = c.args.self.now in
    let now = c.take_reply.new.self in
    let replies = c.push.new.self.items in
    let went = subst (λ (k : List Event × List OwnPoint). Went (record {
      player = now;
      events = k.0;
      own = k.1;
      replies = replies;
    }) (sitting_of c.settle.new.self)) (λ i. (c.record.ensures.events i, c.clear.ensures.items i))
    c.in_ok-settle-in-Ok.ensures.went in
    answered_with old.session.game old.player.claim (sitting_of old) now c.args.point
    c.requires.on c.in-Ok.ensures.taken replies c.in_ok-push-in-Ok.ensures.items
    (sitting_of c.settle.new.self) went
