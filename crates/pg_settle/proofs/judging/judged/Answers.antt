use Rattle.pg_settle.proofs.Common.{false≢true}
use Rattle.std.proofs.Common.{sym, ◌∙◌}
use Rattle.pg_settle.proofs.Headings.{stays_judged}
use Rattle.pg_settle.proofs.judging.judged.Goals as goal

pub returns-then-shown : goal.returns-then-shown
returns-then-shown c = stays_judged c.args.game.now c.args.finding
    (c.in_ok-shown.ensures.0 c.if-shown.true)

pub returns-else-shown : goal.returns-else-shown
returns-else-shown c = λ shows.
    false≢true (sym c.if-shown.false ∙ c.in_ok-shown.ensures.1 shows)
