use Rattle.std.proofs.Common.{not, ap, ◌∙◌}
use Rattle.pg_pairing.proofs.Common.{contains, free_points, is_loose}
use Rattle.pg_pairing.proofs.Filters.{find_agree}
use Rattle.pg_pairing.proofs.answers.lowest_loose.Goals as goal

pub returns : goal.returns
returns c = c.lowest_outside.ensures
    ∙ find_agree (λ v. not (contains c.open_points.result v))
    (is_loose c.args.p.now c.args.pairs.now) (λ q. ap not (c.open_points.ensures q))
    (free_points c.args.g.now c.args.p.now)
