use Rattle.std.proofs.Common.{◌∙◌, ap}
use Rattle.std.specs.FinSet.{contains}
use Rattle.pg_leaf.proofs.SmallSetLaws.{has-small}
use Rattle.pg_leaf.proofs.small_set.SmallSet.has.Goals as goal

pub returns : goal.returns
returns c = has-small c.self.inside.words c.args.v c.requires
    ∙ ap (λ s. contains s c.args.v) c.self.view_is
