use Rattle.std.proofs.Common.{◌≡◌, Global, ℕ, Vec, ap, sym, refl, ◌∙◌, arith, filter}
use Rattle.std.specs.List.{range_with_len}
use Rattle.pg_dfpn.specs.Prelude.{Reply, free_points, is_free, point_count}
use Rattle.pg_dfpn.proofs.Replying.{replied-with, replied-without}
use Rattle.pg_dfpn.proofs.drafting.Draft.replies.Goals as goal
use Rattle.pg_dfpn.proofs.drafting.Draft.replies.Goals.{then-is_free+in-Some+in_ok-push}
use Rattle.pg_dfpn.proofs.drafting.Draft.replies.Goals.{else-is_free}

pub loop-v-preserved : goal.loop-v-preserved
loop-v-preserved c = elim c.if-is_free.branch [
  | then-is_free+in-Some+in_ok-push w ↦
      replied-with c.args.p.now c.loop-v.v c.loop-v.replies.items c.if-is_free.replies.items
      (record { point = c.loop-v.v; child = w.in-Some.child })
      (sym c.is_free.ensures ∙ w.if-is_free.true) refl
      (omega (arith, c.points-v-end.ensures.few, c.loop-v-test.true), w.in-Some.ensures)
      (ap (λ (xs : Vec Reply Global). xs.items) w.replies-is ∙ w.in_ok-push.ensures.items)
      c.loop-v.invariant
  | else-is_free w ↦
      replied-without c.args.p.now c.loop-v.v c.loop-v.replies.items c.if-is_free.replies.items
      (sym c.is_free.ensures ∙ w.if-is_free.false)
      (ap (λ (xs : Vec Reply Global). xs.items) w.replies-is) c.loop-v.invariant
]

pub returns-clause-points : goal.returns-clause-points
unfolding free_points
returns-clause-points c =
    let end : c.loop-v.v ≡ point_count c.args.g.now =
    omega (arith, c.points-v-end.ensures.count, c.loop-v.auto.v-end, c.loop-v-test.false) in
    c.loop-v.invariant.points
    ∙ ap (λ (n : ℕ). filter (is_free c.args.p.now) (range_with_len 0 n)) end
