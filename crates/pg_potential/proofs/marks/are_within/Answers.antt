use Rattle.std.proofs.Common.{arith, refl}
use Rattle.std.proofs.lemmas.Bool.{false≢true}
use Rattle.pg_potential.proofs.RowsWithin.{within-from_rows, row-from_within}
use Rattle.pg_potential.proofs.marks.are_within.Goals as goal

pub returns-then-mine-i-ne0 : goal.returns-then-mine-i-ne0
returns-then-mine-i-ne0 c = (
  λ no. absurd (false≢true no),
  λ within. absurd
      (c.if-mine-i-ne0.true
      (row-from_within c.args.mine.now c.args.theirs.now c.args.count (λ j. (c.requires.fit j).0)
      (λ j. (c.requires.fit j).1) within c.loop-i.i c.loop-i-test.true)),
)

pub returns : goal.returns
returns c = (
  λ _. within-from_rows c.args.mine.now c.args.theirs.now c.args.count (λ j. (c.requires.fit j).0)
      (λ j. (c.requires.fit j).1) (λ j row. c.loop-i.invariant j (omega arith)),
  λ _. refl,
)
