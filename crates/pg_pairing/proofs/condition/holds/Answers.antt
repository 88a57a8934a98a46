use Rattle.std.proofs.Common.{sym, subst, refl}
use Rattle.pg_pairing.proofs.Common.{Win, Side, PairsHold, Forces}
use Rattle.pg_pairing.proofs.PairLoops.{PairsHold-from}
use Rattle.pg_pairing.proofs.PairLaws.{Forces-pairs_breaker, Forces-pairs_draw}
use Rattle.pg_pairing.proofs.PairLaws.{Forces-pairs_avoider}
use Rattle.pg_pairing.proofs.condition.holds.Goals as goal

pub hold_lines-requires : goal.hold_lines-requires
hold_lines-requires c = c.in-Some.ensures.open.0 refl

pub returns-then-leave_none-clause-exact : goal.returns-then-leave_none-clause-exact
returns-then-leave_none-clause-exact c = (
  λ on. PairsHold-from c.args.g.now c.args.p.now c.args.side c.args.pairs.now
      (c.in-Some.ensures.open.0 refl) (c.hold_lines.ensures.0 on)
      (c.leave_none.ensures.0 c.if-leave_none.true),
  λ held. c.hold_lines.ensures.1 held.held,
)

pub returns-then-leave_none-clause-breaker : goal.returns-then-leave_none-clause-breaker
returns-then-leave_none-clause-breaker c = λ on kind is_y.
    let held = PairsHold-from c.args.g.now c.args.p.now c.args.side c.args.pairs.now
    (c.in-Some.ensures.open.0 refl) (c.hold_lines.ensures.0 on)
    (c.leave_none.ensures.0 c.if-leave_none.true) in
    subst (λ (s : Side). Forces c.args.g.now c.args.p.now s Win) (sym is_y)
    (Forces-pairs_breaker c.args.g.now c.args.p.now c.args.pairs.now kind c.requires
    (subst (λ (s : Side). PairsHold c.args.g.now c.args.p.now s c.args.pairs.now) is_y held))

pub returns-then-leave_none-clause-draw : goal.returns-then-leave_none-clause-draw
returns-then-leave_none-clause-draw c = λ on kind.
    let held = PairsHold-from c.args.g.now c.args.p.now c.args.side c.args.pairs.now
    (c.in-Some.ensures.open.0 refl) (c.hold_lines.ensures.0 on)
    (c.leave_none.ensures.0 c.if-leave_none.true) in
    Forces-pairs_draw c.args.g.now c.args.p.now c.args.side c.args.pairs.now kind c.requires held

pub returns-then-leave_none-clause-avoider : goal.returns-then-leave_none-clause-avoider
returns-then-leave_none-clause-avoider c = λ on kind is_x.
    let held = PairsHold-from c.args.g.now c.args.p.now c.args.side c.args.pairs.now
    (c.in-Some.ensures.open.0 refl) (c.hold_lines.ensures.0 on)
    (c.leave_none.ensures.0 c.if-leave_none.true) in
    subst (λ (s : Side). Forces c.args.g.now c.args.p.now s Win) (sym is_x)
    (Forces-pairs_avoider c.args.g.now c.args.p.now c.args.pairs.now kind c.requires
    (subst (λ (s : Side). PairsHold c.args.g.now c.args.p.now s c.args.pairs.now) is_x held))
