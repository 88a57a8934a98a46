use Rattle.std.proofs.Common.{arith}
use Rattle.pg_captions.proofs.Lightest.{free-le, most-more}
use Rattle.pg_captions.proofs.weights.most_free_of.Goals as goal
use Rattle.pg_captions.proofs.weights.most_free_of.Goals.{then-free-most, else-free-most}

pub loop-line-preserved : goal.loop-line-preserved
loop-line-preserved c =
    let more = most-more c.args.own.now c.args.p.now c.args.lines.now c.loop-line.line-index
    c.loop-line.most c.line-item.result (omega arith) c.line-item.is c.loop-line.invariant.most in
    let short = free-le c.args.lines.now c.loop-line.line-index c.line-item.result
    (omega arith) c.line-item.is in
    elim c.if-free-most.branch [
      | then-free-most w ↦ record {
        most = omega (arith, more, c.free_on-free.ensures.free, w.most-is);
        few = omega (arith, short, c.free_on-free.ensures.few, w.most-is);
      }
      | else-free-most w ↦ record {
        most = omega (arith, more, c.free_on-free.ensures.free, w.most-is);
        few = omega (arith, c.loop-line.invariant.few, w.most-is);
      }
    ]
