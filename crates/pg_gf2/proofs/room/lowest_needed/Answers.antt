use Rattle.std.proofs.Common.{◌∙◌, sym}
use Rattle.std.specs.FinSet.{contains}
use Rattle.pg_gf2.proofs.Lowest.{needed-on, needed-off}
use Rattle.pg_gf2.proofs.room.lowest_needed.Goals as goal

pub returns-then-spans-clause-lowest : goal.returns-then-spans-clause-lowest
returns-then-spans-clause-lowest c = needed-on c.args.vectors.now c.args.n
    (contains c.args.set.now) c.args.x c.args.candidates.now c.lowest_parting.result
    (sym c.spans.ensures.spans ∙ c.if-spans.true) c.lowest_parting.ensures.lowest

pub returns-else-spans-clause-lowest : goal.returns-else-spans-clause-lowest
returns-else-spans-clause-lowest c =
    needed-off c.args.vectors.now c.args.n (contains c.args.set.now) c.args.x c.args.candidates.now
    (sym c.spans.ensures.spans ∙ c.if-spans.false)
