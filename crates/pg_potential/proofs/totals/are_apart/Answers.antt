use Rattle.std.proofs.Common.{arith, refl}
use Rattle.std.proofs.lemmas.Bool.{false≢true}
use Rattle.pg_potential.proofs.RowsApart.{apart-from_rows, row-from_apart}
use Rattle.pg_potential.proofs.totals.are_apart.Goals as goal

pub returns-then-mine-i-ne0 : goal.returns-then-mine-i-ne0
returns-then-mine-i-ne0 c = (
  λ no. absurd (false≢true no),
  λ apart. absurd
      (c.if-mine-i-ne0.true
      (row-from_apart c.args.mine.now c.args.theirs.now c.args.count (λ j. (c.requires.fit j).0)
      apart c.loop-i.i c.loop-i-test.true)),
)

pub returns : goal.returns
returns c = (
  λ _. apart-from_rows c.args.mine.now c.args.theirs.now c.args.count
      (λ j. (c.requires.fit j).0) (λ j row. c.loop-i.invariant j (omega arith)),
  λ _. refl,
)
