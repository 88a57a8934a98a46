use Rattle.std.proofs.Common.{ℕ, arith}
use Rattle.pg_pns.proofs.Descending.{passed-all}
use Rattle.pg_pns.proofs.descent.first_open.Goals as goal

none : ℕ × ℕ
none = (0, 0)

pub loop-m-init : goal.loop-m-init
loop-m-init c = λ opened. absurd (omega (arith, opened.1.1))

pub returns-clause-none : goal.returns-clause-none
returns-clause-none c =
    passed-all c.args.moves.now c.args.answers.now c.loop-m.m-index (omega arith) c.loop-m.invariant
