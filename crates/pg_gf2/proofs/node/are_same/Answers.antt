use Rattle.std.proofs.Common.{sym, ◌∙◌}
use Rattle.pg_base.specs.PointLemmas.{equal-decides}
use Rattle.pg_gf2.proofs.node.are_same.Goals as goal

pub returns : goal.returns
returns c = (
  λ t. (equal-decides c.args.a.now c.args.b.now).0 (sym c.eq.ensures ∙ t),
  λ e. c.eq.ensures ∙ (equal-decides c.args.a.now c.args.b.now).1 e,
)
