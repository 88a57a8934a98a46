use Rattle.pg_check.proofs.GamePoints.{inside-more, outside-more}
use Rattle.pg_check.proofs.allowed.bits_outside.Goals as goal

pub loop-i-preserved : goal.loop-i-preserved
loop-i-preserved c = record {
  each = inside-more c.args.first.now c.args.second.now c.args.inside.now c.loop-i.i
      c.loop-i.outside c.loop-i.invariant.each;
  none = outside-more c.args.first.now c.args.second.now c.args.inside.now c.loop-i.i
      c.loop-i.outside c.loop-i.invariant.none;
}
