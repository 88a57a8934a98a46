use Rattle.std.proofs.Common.{arith, sym}
use Rattle.pg_captions.proofs.Below.{below_least, below_none}
use Rattle.pg_captions.proofs.marks.has_below.Goals as goal

pub returns-in-Some : goal.returns-in-Some
returns-in-Some c =
    below_least c.args.set.now c.args.n c.in-Some.v c.in-Some.ensures.found

pub returns-in-None : goal.returns-in-None
returns-in-None c =
    sym (below_none c.args.set.now c.args.n (λ q low. c.in-None.ensures.none q (omega arith)))
