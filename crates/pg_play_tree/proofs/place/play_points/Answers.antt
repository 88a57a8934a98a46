use Rattle.std.proofs.Common.{List, ℕ, refl, subst}
use Rattle.std.proofs.lemmas.List.{take_all}
use Rattle.pg_play_tree.specs.Places.{Leads}
use Rattle.pg_play_tree.proofs.Again.{able_at, leads_more}
use Rattle.pg_play_tree.proofs.place.play_points.Goals as goal

pub loop-v-init : goal.loop-v-init
loop-v-init c = refl

pub returns-then-not-play_point-clause-able : goal.returns-then-not-play_point-clause-able
returns-then-not-play_point-clause-able c = λ all. c.if-not-play_point.ensures.able
    (able_at c.args.points.now c.loop-v.v-index c.args.player.now c.loop-v.player
    c.loop-v-test.true all c.loop-v.invariant)

pub loop-v-preserved : goal.loop-v-preserved
loop-v-preserved c = leads_more c.args.points.now c.loop-v.v-index c.args.player.now
    c.loop-v.player c.play_point.new.player c.loop-v-test.true c.loop-v.invariant
    (c.if-not-play_point.ensures.plays refl)

pub returns-clause-leads : goal.returns-clause-leads
returns-clause-leads c = λ all. subst (λ (vs : List ℕ). Leads c.args.player.now vs c.loop-v.player)
    (take_all c.loop-v.v-index c.args.points.now c.loop-v-test.false) c.loop-v.invariant
