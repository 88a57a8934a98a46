use Rattle.std.proofs.Common.{◌∙◌, ◌&&◌, not, sym, ap}
use Rattle.pg_threat.proofs.Common.{and_left, is_on, line_at}
use Rattle.pg_threat.proofs.lacking.is_gained.Goals as goal

pub returns-then-not-lacks : goal.returns-then-not-lacks
returns-then-not-lacks c = sym (and_left _ _ (sym c.lacks.ensures ∙ c.if-not-lacks.true))

pub returns : goal.returns
returns c =
    let off = not (is_on c.args.u (line_at c.args.b.now.game c.args.line)) in
    ap not c.holds.ensures ∙ sym (ap (λ b. b && off) (sym c.lacks.ensures ∙ c.if-not-lacks.false))
