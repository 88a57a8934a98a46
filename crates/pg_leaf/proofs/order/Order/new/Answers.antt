use Rattle.std.proofs.Common.{ℕ, List, arith, sym, subst}
use Rattle.std.proofs.lemmas.Option.{slice_get-get_or}
use Rattle.pg_leaf.specs.Order.{IsTaking}
use Rattle.pg_leaf.proofs.Taking.{none-noted, noted-more, noted-over, none-taken}
use Rattle.pg_leaf.proofs.order.Order.new.Goals as goal
use Rattle.pg_leaf.proofs.order.Order.new.Goals.{then-v-lt-MAX_POINTS, else-v-lt-MAX_POINTS}

pub loop-m-init : goal.loop-m-init
loop-m-init c = none-noted c.args.moves.now

pub loop-m-preserved : goal.loop-m-preserved
loop-m-preserved c =
    let at = slice_get-get_or c.args.moves.now c.loop-m.m-index (0, 0) c.loop-m-test.true in
    let next = c.saturating_add-k.ensures in
    elim c.if-v-lt-MAX_POINTS.branch [
      | then-v-lt-MAX_POINTS w ↦ rw w.left-is
          (noted-more c.args.moves.now c.loop-m.m-index c.loop-m.k c.loop-m.left c.loop-m.invariant
          _ _ c.saturating_add-k.result at w.if-v-lt-MAX_POINTS.true
          (λ few. omega (arith, few, next)) (λ many. omega (arith, many, next)))
      | else-v-lt-MAX_POINTS w ↦ rw w.left-is
          (noted-over c.args.moves.now c.loop-m.m-index c.loop-m.k c.loop-m.left c.loop-m.invariant
          _ _ c.saturating_add-k.result at w.if-v-lt-MAX_POINTS.false
          (λ few. omega (arith, few, next)) (λ many. omega (arith, many, next)))
    ]

pub returns : goal.returns
returns c = subst (λ (members : List ℕ). IsTaking c.args.moves.now members c.loop-m.left)
    (sym c.in_ok-members.ensures.items)
    (none-taken c.args.moves.now c.loop-m.m-index c.loop-m.k c.loop-m.left c.loop-m-test.false
    c.loop-m.auto.m-index-end c.loop-m.invariant)
