use Rattle.std.proofs.Common.{ap, ◌∙◌}
use Rattle.std.specs.FinSet.{contains}
use Rattle.pg_base.proofs.MoreMembers.{all_below-none, all_below-more}
use Rattle.pg_base.proofs.point_set.PointSet.all_below.Goals as goal

pub loop-v-init : goal.loop-v-init
loop-v-init c = λ q. ap (λ s. contains s q) c.empty-set.ensures ∙ all_below-none q

pub loop-v-preserved : goal.loop-v-preserved
loop-v-preserved c = λ q. ap (λ s. contains s q) c.put.ensures
    ∙ all_below-more c.loop-v.set c.loop-v.v q (c.loop-v.invariant q)
