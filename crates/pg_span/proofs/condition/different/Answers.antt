use Rattle.std.proofs.Common.{◌<◌, ◌∙◌, ◌+◌, ap, sym, slice_index, arith}
use Rattle.pg_span.specs.declared.cert.TheConstants.{PART_NUMBERS}
use Rattle.pg_span.proofs.Counting.{count-image_none, image-more_at, image-same_at}
use Rattle.pg_span.proofs.condition.different.Goals as goal
use Rattle.pg_span.proofs.condition.different.Goals.{then-not-stands_before, else-not-stands_before}

pub loop-k-init : goal.loop-k-init
loop-k-init c = (sym (count-image_none (slice_index c.args.numbers.now) PART_NUMBERS), omega arith)

pub loop-k-preserved : goal.loop-k-preserved
loop-k-preserved c =
    let few = c.loop-k.invariant.1 in
    let label = slice_index c.args.numbers.now in
    let low : label c.loop-k.k < PART_NUMBERS =
    let fits = c.type_inv.numbers c.loop-k.k in omega (arith, fits) in
    elim c.if-not-stands_before.branch [
      | then-not-stands_before w ↦
          let is = w.different-is in (
            is
                ∙ (ap (λ n. n + 1) c.loop-k.invariant.0
                ∙ sym (image-more_at label c.loop-k.k PART_NUMBERS low
                (sym c.stands_before.ensures ∙ w.if-not-stands_before.true))),
            omega (arith, few, is),
          )
      | else-not-stands_before w ↦
          let is = w.different-is in (
            is
                ∙ (c.loop-k.invariant.0
                ∙ sym (image-same_at label c.loop-k.k PART_NUMBERS
                (sym c.stands_before.ensures ∙ w.if-not-stands_before.false))),
            omega (arith, few, is),
          )
    ]
