use Rattle.std.proofs.Common.{◌<◌, sym, subst}
use Rattle.pg_pns.proofs.Common.{Game, point_count}
use Rattle.pg_pns.proofs.Descending.{goes-down, way-down, way-end}
use Rattle.pg_pns.proofs.descent.play_down.Goals as goal

pub play-requires-clause-range : goal.play-requires-clause-range
play-requires-clause-range c =
    let way = c.loop-v.invariant in
    let step = way-down c.args.board.now.game c.requires.search.0 c.requires.search.1
    c.args.table.now c.requires.search.2 c.loop-v.place c.loop-v.board.stand.position
    (c.in-Some.v, c.in-Some.next) way.stands way.on c.in-Some.ensures.some in
    subst (λ (g : Game). c.in-Some.v < point_count g) (sym way.game) step.range

pub play-requires-clause-free : goal.play-requires-clause-free
play-requires-clause-free c =
    let way = c.loop-v.invariant in
    (way-down c.args.board.now.game c.requires.search.0 c.requires.search.1 c.args.table.now
    c.requires.search.2 c.loop-v.place c.loop-v.board.stand.position
    (c.in-Some.v, c.in-Some.next) way.stands way.on c.in-Some.ensures.some).free

pub loop-v-smaller : goal.loop-v-smaller
loop-v-smaller c =
    let way = c.loop-v.invariant in
    (way-down c.args.board.now.game c.requires.search.0 c.requires.search.1 c.args.table.now
    c.requires.search.2 c.loop-v.place c.loop-v.board.stand.position
    (c.in-Some.v, c.in-Some.next) way.stands way.on c.in-Some.ensures.some).fewer

pub loop-v-preserved : goal.loop-v-preserved
loop-v-preserved c =
    let way = c.loop-v.invariant in
    let step = way-down c.args.board.now.game c.requires.search.0 c.requires.search.1
    c.args.table.now c.requires.search.2 c.loop-v.place c.loop-v.board.stand.position
    (c.in-Some.v, c.in-Some.next) way.stands way.on c.in-Some.ensures.some in
    goes-down c.args.table.now c.args.board.now c.loop-v.board c.play.new.self c.loop-v.place (
      c.in-Some.v,
      c.in-Some.next,
    ) way step c.play.ensures.game c.play.ensures.position c.play.ensures.earlier

pub returns-clause-next : goal.returns-clause-next
returns-clause-next c =
    way-end c.args.board.now.game c.requires.search.0 c.requires.search.1 c.args.table.now
    c.requires.search.2 c.loop-v.place c.loop-v.invariant.on c.in_default.ensures.none
