use Rattle.std.proofs.Common.{sym, subst}
use Rattle.pg_evidence.specs.Standing.{IsTraced}
use Rattle.pg_evidence.proofs.Tracing.{traced}
use Rattle.pg_evidence.proofs.standing.standing_of.Goals as goal

pub returns-in-Ok-clause-traced : goal.returns-in-Ok-clause-traced
returns-in-Ok-clause-traced c = subst IsTraced (sym c.from.ensures)
    (traced c.args.game.now c.in-Folded.certificate c.in-Ok.unfolded c.in-Ok.ensures.unfolded
    c.in-Ok.ensures.limits)
