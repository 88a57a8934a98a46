use Rattle.pg_pairing.proofs.PairLoops.{CanTake-iff, taken-both}
use Rattle.pg_pairing.proofs.condition.take_pair.Goals as goal

pub returns-then-take-clause-fits : goal.returns-then-take-clause-fits
returns-then-take-clause-fits c = CanTake-iff c.args.points c.args.taken.now
    c.take.new.taken c.args.s c.take.result c.take-then-take.result c.take.ensures.free
    c.take.ensures.taken c.if-take.true c.take-then-take.ensures.free

pub returns-then-take-clause-taken : goal.returns-then-take-clause-taken
returns-then-take-clause-taken c =
    taken-both c.args.taken.now c.take.new.taken c.take-then-take.new.taken c.args.s c.take.result
    c.take-then-take.result c.take.ensures.taken c.if-take.true c.take-then-take.ensures.taken
