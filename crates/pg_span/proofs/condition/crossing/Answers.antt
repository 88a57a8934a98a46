use Rattle.std.proofs.Common.{◌∙◌, ap, sym, ◌+◌, arith}
use Rattle.pg_span.proofs.Counting.{count-more, count-as_before, count-none}
use Rattle.pg_span.proofs.condition.crossing.Goals as goal
use Rattle.pg_span.proofs.condition.crossing.Goals.{then-crosses, else-crosses}

pub loop-k-init : goal.loop-k-init
loop-k-init c = (sym (count-none _), omega arith)

pub loop-k-preserved : goal.loop-k-preserved
loop-k-preserved c =
    let few = c.loop-k.invariant.1 in
    elim c.if-crosses.branch [
      | then-crosses w ↦ (
        w.crossing-is
            ∙ (ap (λ n. n + 1) c.loop-k.invariant.0
            ∙ sym (count-more _ c.loop-k.k (sym c.crosses.ensures ∙ w.if-crosses.true))),
        let is = w.crossing-is in omega (arith, few, is),
      )
      | else-crosses w ↦ (
        w.crossing-is
            ∙ (c.loop-k.invariant.0
            ∙ sym (count-as_before _ c.loop-k.k (sym c.crosses.ensures ∙ w.if-crosses.false))),
        let is = w.crossing-is in omega (arith, few, is),
      )
    ]
