use Rattle.std.proofs.Common.{inl, refl}
use Rattle.pg_pns.proofs.Descending.{keeps-kept, way-end, way-on, way-range}
use Rattle.pg_pns.proofs.descent.bring_down.Goals as goal

pub loop-v-init : goal.loop-v-init
loop-v-init c = (
  record { unanswered = c.requires.opened; link = inl refl },
  record { game = refl; first_is = refl },
)

pub next_on_way-requires-clause-range : goal.next_on_way-requires-clause-range
next_on_way-requires-clause-range c =
    way-range c.args.board.now.game c.requires.search.0 c.requires.search.1 c.args.table.now
    c.requires.search.2 c.loop-v.place c.loop-v.invariant.0

pub loop-v-smaller : goal.loop-v-smaller
loop-v-smaller c =
    (way-on c.args.board.now.game c.requires.search.0 c.requires.search.1 c.args.table.now
    c.requires.search.2 c.loop-v.place (c.in-Some.v, c.in-Some.next) c.loop-v.invariant.0
    c.in-Some.ensures.some).fewer

pub loop-v-preserved : goal.loop-v-preserved
loop-v-preserved c = (
  (way-on c.args.board.now.game c.requires.search.0 c.requires.search.1 c.args.table.now
      c.requires.search.2 c.loop-v.place (c.in-Some.v, c.in-Some.next) c.loop-v.invariant.0
      c.in-Some.ensures.some).on,
  keeps-kept c.args.board.now c.loop-v.board c.bring.new.board c.loop-v.invariant.1
      c.bring.ensures,
)

pub returns-clause-next : goal.returns-clause-next
returns-clause-next c =
    way-end c.args.board.now.game c.requires.search.0 c.requires.search.1 c.args.table.now
    c.requires.search.2 c.loop-v.place c.loop-v.invariant.0 c.in_default.ensures.none

pub returns-clause-range : goal.returns-clause-range
returns-clause-range c =
    way-range c.args.board.now.game c.requires.search.0 c.requires.search.1 c.args.table.now
    c.requires.search.2 c.loop-v.place c.loop-v.invariant.0

pub returns-clause-keeps : goal.returns-clause-keeps
returns-clause-keeps c =
    keeps-kept c.args.board.now c.loop-v.board c.take_back.new.board c.loop-v.invariant.1
    c.take_back.ensures
