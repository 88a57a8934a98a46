use Rattle.std.proofs.Common.{◌<◌, arith, length}
use Rattle.pg_computer.proofs.Common.{judged_move, place}
use Rattle.pg_computer.proofs.Parts.{may_played}
use Rattle.pg_computer.proofs.Standing.{again_may, again_more, count-all}
use Rattle.pg_computer.proofs.points.first_points.Goals as goal

pub move_at-requires : goal.move_at-requires
move_at-requires c =
    let session = c.args.session.now in
    omega (
      arith,
      c.loop-i-test.true,
      c.requires.count,
      count-all session.game session.events c.requires.points,
    )

pub unreachable-requires : goal.unreachable-requires
unreachable-requires c =
    let session = c.args.session.now in
    let first = c.loop-i.first in
    let low : c.loop-i.i < length session.events =
    omega (arith, c.loop-i-test.true, c.requires.count) in
    may_played (judged_move first.game (place first.game first.events) c.move_at.result)
    c.play.result c.in_default.field-0
    (again_may first session c.args.game.now c.loop-i.i c.move_at.result c.requires.game
    c.loop-i.invariant c.move_at.ensures c.requires.points low) c.play.ensures.result
    c.in_default.is

pub loop-i-preserved : goal.loop-i-preserved
loop-i-preserved c =
    let session = c.args.session.now in
    let low : c.loop-i.i < length session.events =
    omega (arith, c.loop-i-test.true, c.requires.count) in
    again_more c.loop-i.first session c.args.game.now c.loop-i.i c.move_at.result c.requires.game
    c.loop-i.invariant c.move_at.ensures c.requires.points low c.play.new.self
    c.in-Ok.ensures.game c.in-Ok.ensures.events
