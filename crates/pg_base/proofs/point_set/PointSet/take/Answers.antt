use Rattle.std.proofs.Common.{◌∙◌, ap}
use Rattle.std.specs.FinSet.{remove}
use Rattle.pg_base.specs.WordLemmas.{members-without}
use Rattle.pg_base.proofs.point_set.PointSet.take.Goals as goal

pub returns : goal.returns
returns c = members-without c.self.inside.words c.args.p c.self.invariant c.requires
    ∙ ap (λ s. remove s c.args.p) c.self.view_is
