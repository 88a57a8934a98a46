use Rattle.std.proofs.Common.{ap, ◌∙◌}
use Rattle.std.specs.FinSet.{contains}
use Rattle.pg_base.proofs.MoreMembers.{from_list-more, from_list-all, in_from_list}
use Rattle.pg_base.proofs.point_set.PointSet.from_points.Goals as goal

pub loop-v-preserved : goal.loop-v-preserved
loop-v-preserved c = from_list-more c.args.points.now c.loop-v.v-index c.loop-v.set c.put.new.self
    c.loop-v-test.true c.loop-v.invariant c.put.ensures

pub returns : goal.returns
returns c =
    let all = from_list-all c.args.points.now c.loop-v.v-index c.loop-v.set c.loop-v-test.false
    c.loop-v.invariant in
    record {
      set = all;
      members = λ v. ap (λ s. contains s v) all ∙ in_from_list c.args.points.now v;
    }
