use Rattle.std.proofs.Common.{◌∙◌, ◌≡◌, ◌/◌, ◌++◌, ap, ap₂, arith, get_or, map, sym, refl}
use Rattle.pg_scene.proofs.Common.{decimal, Vec, filter, range_with_len, free_points, point_count}
use Rattle.pg_scene.proofs.Common.{is_free}
use Rattle.pg_scene.proofs.Growing.{failed, passed}
use Rattle.pg_captions.proofs.Lightest.{base_some}
use Rattle.pg_scene.proofs.Scaled.{units_by-weight}
use Rattle.pg_captions.specs.Lightest.{base_of, own_of}
use Rattle.pg_scene.specs.Items.{units}
use Rattle.pg_scene.specs.declared.item.Item.{Item}
use Rattle.pg_scene.specs.declared.item.Item.TheVariants.{Weight}
use Rattle.pg_scene.proofs.weights.put_each.Goals as goal
use Rattle.pg_scene.proofs.weights.put_each.Goals.{then-is_free+in_ok-weight+in_ok-push}
use Rattle.pg_scene.proofs.weights.put_each.Goals.{else-is_free}

pub loop-v-preserved : goal.loop-v-preserved
loop-v-preserved c =
    elim c.if-is_free.branch [
      | then-is_free+in_ok-weight+in_ok-push w ↦
          passed (λ v. Weight v (decimal (units c.args.g.now c.args.p.now c.args.side v)))
          (is_free c.args.p.now) c.loop-v.v c.args.items.now.items _ _ _
          (sym c.is_free.ensures ∙ w.if-is_free.true)
          (ap (λ (v : Vec Item). v.items) w.items-is ∙ w.in_ok-push.ensures.items)
          c.loop-v.invariant (ap (Weight c.loop-v.v) (w.in_ok-weight.ensures
          ∙ ap decimal (ap₂ (λ all one. all / one)
          (ap (λ i. get_or c.weights_for-weights.result.points i 0) w.from.ensures
          ∙ c.weights_for-weights.ensures.points c.loop-v.v (omega (
            arith,
            c.requires,
            c.points-v-end.ensures.count,
          ))) c.unit_weight-unit.ensures.unit
          ∙ units_by-weight (base_of c.args.g.now.kind c.args.g.now.bias) c.args.g.now
          (own_of c.args.g.now.kind c.args.p.now c.args.side) c.args.p.now c.loop-v.v
          (base_some c.args.g.now (base_of c.args.g.now.kind c.args.g.now.bias) refl))))
      | else-is_free w ↦
          failed (λ v. Weight v (decimal (units c.args.g.now c.args.p.now c.args.side v)))
          (is_free c.args.p.now) c.loop-v.v c.args.items.now.items _ _
          (sym c.is_free.ensures ∙ w.if-is_free.false)
          (ap (λ (v : Vec Item). v.items) w.items-is) c.loop-v.invariant
    ]

pub returns : goal.returns
unfolding free_points
returns c =
    let end : c.loop-v.v ≡ point_count c.args.g.now = omega (arith, c.points-v-end.ensures.count) in
    c.loop-v.invariant
    ∙ ap (λ n. c.args.items.now.items
    ++ map (λ v. Weight v (decimal (units c.args.g.now c.args.p.now c.args.side v)))
    (filter (is_free c.args.p.now) (range_with_len 0 n))) end
