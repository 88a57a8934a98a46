use Rattle.std.proofs.Common.{Global, Vec, ap, arith, refl, ◌∙◌}
use Rattle.pg_zone_proofs.specs.Prelude.{Reply}
use Rattle.pg_zone_proofs.proofs.Within.{replied-with, replied-without}
use Rattle.pg_zone_proofs.proofs.replies.replies_to.Goals as goal
use Rattle.pg_zone_proofs.proofs.replies.replies_to.Goals.{then-has+in-Some+in_ok-push, else-has}

pub loop-point-preserved : goal.loop-point-preserved
loop-point-preserved c = elim c.if-has.branch [
  | then-has+in-Some+in_ok-push w ↦
      replied-with c.loop-point.point c.loop-point.replies.items c.if-has.replies.items
      (record { point = c.loop-point.point; child = w.in-Some.child }) refl
      (omega (arith, c.loop-point-test.true), w.in-Some.ensures)
      (ap (λ (xs : Vec Reply Global). xs.items) w.replies-is ∙ w.in_ok-push.ensures.items)
      c.loop-point.invariant
  | else-has w ↦
      replied-without c.loop-point.point c.loop-point.replies.items c.if-has.replies.items
      (ap (λ (xs : Vec Reply Global). xs.items) w.replies-is) c.loop-point.invariant
]
