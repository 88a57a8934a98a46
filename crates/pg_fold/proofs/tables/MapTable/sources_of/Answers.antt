use Rattle.std.proofs.Common.{ℕ, map, sym, ap, ◌∙◌, arith}
use Rattle.pg_fold.proofs.Common.{get_or-map, length-map, insert, nat_cmp}
use Rattle.pg_base.proofs.MoreMembers.{from_list-more, from_list-all}
use Rattle.pg_fold.specs.Tables.{come_from}
use Rattle.pg_fold.proofs.tables.MapTable.sources_of.Goals as goal

pub loop-v-preserved : goal.loop-v-preserved
loop-v-preserved c =
    let f = come_from c.args.self.now in
    let points = c.args.points.now in
    let i = c.loop-v.v-index in
    let size = length-map points f in
    from_list-more (map f points) i c.loop-v.set c.put.new.self
    (omega (arith, size, c.loop-v-test.true)) c.loop-v.invariant (c.put.ensures
    ∙ ap (λ (v : ℕ). insert {R = nat_cmp} c.loop-v.set v)
    (c.source.ensures.point ∙ sym (get_or-map f points i 0 0 c.loop-v-test.true)))

pub returns : goal.returns
returns c =
    let f = come_from c.args.self.now in
    let points = c.args.points.now in
    let size = length-map points f in
    from_list-all (map f points) c.loop-v.v-index c.loop-v.set
    (omega (arith, size, c.loop-v-test.false)) c.loop-v.invariant
