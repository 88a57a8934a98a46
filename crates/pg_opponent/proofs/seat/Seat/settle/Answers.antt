use Rattle.std.proofs.Common.{◌∙◌, refl}
use Rattle.pg_opponent.specs.Sitting.{Sitting, sitting_of}
use Rattle.pg_opponent.proofs.Steps.{led_more, led_nothing, move_shortens, on_more}
use Rattle.pg_opponent.proofs.seat.Seat.settle.Goals as goal

pub loop-made-init : goal.loop-made-init
loop-made-init c = (c.requires, led_nothing (sitting_of c.args.self.now), refl)

pub loop-made-smaller : goal.loop-made-smaller
loop-made-smaller c = move_shortens c.loop-made.self.player c.make_move.new.player
    c.in-Some.made.point c.in-Some.ensures.makes

pub loop-made-preserved : goal.loop-made-preserved
loop-made-preserved c =
    let game = c.args.self.now.session.game in
    let claim = c.args.self.now.player.claim in
    let so_far = c.loop-made.invariant in
    let first = sitting_of c.args.self.now in
    let old = sitting_of c.loop-made.self in
    let new : Sitting = record {
      player = c.make_move.new.player;
      events = c.record.new.session.events;
      own = c.push.new.self.items;
      replies = c.loop-made.self.replies.items;
    } in (
      on_more game claim first old new c.in-Some.made so_far.0 c.in-Some.ensures
          c.record.ensures.events c.in_ok-push.ensures.items refl,
      led_more game claim first old new c.in-Some.made so_far.0 c.in-Some.ensures
          c.record.ensures.events c.in_ok-push.ensures.items refl so_far.1,
      c.record.ensures.game ∙ so_far.2,
    )
