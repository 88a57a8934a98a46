use Rattle.std.proofs.Common.{◌∙◌, ap}
use Rattle.std.specs.FinSet.{contains}
use Rattle.pg_base.specs.WordLemmas.{has-members}
use Rattle.pg_base.proofs.point_set.PointSet.has.Goals as goal

pub returns : goal.returns
returns c = has-members c.self.inside.words c.args.p c.requires
    ∙ ap (λ s. contains s c.args.p) c.self.view_is
