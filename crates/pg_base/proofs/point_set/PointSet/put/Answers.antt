use Rattle.std.proofs.Common.{◌∙◌, ap}
use Rattle.std.specs.FinSet.{insert}
use Rattle.pg_base.specs.WordLemmas.{members-with, AreWords-with}
use Rattle.pg_base.proofs.point_set.PointSet.put.Goals as goal

pub invariant_of-self : goal.invariant_of-self
invariant_of-self c = AreWords-with c.self.inside.words c.args.p c.self.invariant c.requires

pub returns : goal.returns
returns c = members-with c.self.inside.words c.args.p c.self.invariant c.requires
    ∙ ap (λ s. insert s c.args.p) c.self.view_is
