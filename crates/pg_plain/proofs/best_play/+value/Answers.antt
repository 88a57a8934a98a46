use Rattle.std.proofs.Common.{rules, ◌≡◌, ◌-◌, ◌+◌, ◌<◌, length, true, false, sym, ap, ◌∙◌, subst}
use Rattle.std.proofs.Common.{arith}
use Rattle.pg_plain.proofs.Common.{Position, AreBelow, is_free, point_count, free_points, after}
use Rattle.pg_plain.proofs.Common.{better, value, length-free_points-after}
use Rattle.pg_plain.proofs.BestPlay.{best_from, best-free, best-all, x_range-after, over-none}
use Rattle.pg_plain.proofs.BestPlay.{over-some}
use Rattle.pg_plain.proofs.MovesFrom.{from-none, from-taken}
use Rattle.pg_plain.proofs.best_play.+value.Goals as goal

pub returns-in-Some-clause-value : goal.returns-in-Some-clause-value
returns-in-Some-clause-value t c =
    over-some c.args.g.now c.args.p.now c.in-Some.score c.in-Some.ensures.result

pub loop-v-init : goal.loop-v-init
loop-v-init t c = record {
  range = omega (arith, c.points-v.ensures.count);
  best = c.worst-best.ensures
      ∙ sym (from-none _ _ _ _)
      ∙ ap (best_from c.args.g.now c.args.p.now) (sym c.points-v.ensures.count);
  kept = search rules;
}

pub value-after-requires : goal.value-after-requires
value-after-requires t c =
    let v = c.loop-v.v - 1 in
    let within : v < point_count c.args.g.now =
    omega (arith, c.loop-v.invariant.range, c.loop-v-test.true) in
    let free : is_free c.args.p.now v ≡ true = sym c.is_free.ensures ∙ c.if-is_free.true in
    let fewer = length-free_points-after c.args.g.now c.args.p.now v within free in
    let left = ap (λ (q : Position). length (free_points c.args.g.now q)) c.after.ensures in
    let range = x_range-after c.args.g.now c.args.p.now v c.requires.range within in (
      omega (arith, c.decreases, fewer, left),
      (
        search rules,
        subst (λ (q : Position). AreBelow q.x (point_count c.args.g.now))
            (sym c.after.ensures) range,
      ),
    )

pub loop-v-preserved-then-is_free : goal.loop-v-preserved-then-is_free
loop-v-preserved-then-is_free t c =
    let g = c.args.g.now in
    let p = c.args.p.now in
    let v = c.loop-v.v - 1 in
    let within : v < point_count g = omega (arith, c.loop-v.invariant.range, c.loop-v-test.true) in
    let free : is_free p v ≡ true = sym c.is_free.ensures ∙ c.if-is_free.true in
    let next : v + 1 ≡ c.loop-v.v = omega (arith, c.loop-v-test.true) in
    let rest = c.loop-v.invariant.best ∙ ap (best_from g p) (sym next) in
    let moved = c.value-after.ensures.value ∙ ap (value g) c.after.ensures in
    record {
      range = omega (arith, within);
      best = c.better-best.ensures
          ∙ ap (λ s. better p.turn s c.loop-v.best) moved
          ∙ ap (better p.turn (value g (after g p v))) rest
          ∙ sym (best-free g p v within free);
      kept = search rules;
    }

pub loop-v-preserved : goal.loop-v-preserved
loop-v-preserved t c =
    let g = c.args.g.now in
    let p = c.args.p.now in
    let v = c.loop-v.v - 1 in
    let within : v < point_count g = omega (arith, c.loop-v.invariant.range, c.loop-v-test.true) in
    let taken : is_free p v ≡ false = sym c.is_free.ensures ∙ c.if-is_free.false in
    let next : v + 1 ≡ c.loop-v.v = omega (arith, c.loop-v-test.true) in
    record {
      range = omega (arith, within);
      best = c.loop-v.invariant.best
          ∙ ap (best_from g p) (sym next)
          ∙ sym (from-taken _ _ _ _ v within taken);
      kept = search rules;
    }

pub returns-clause-value : goal.returns-clause-value
returns-clause-value t c =
    let end : c.loop-v.v ≡ 0 = omega (arith, c.loop-v-test.false) in
    c.loop-v.invariant.best
    ∙ ap (best_from c.args.g.now c.args.p.now) end
    ∙ best-all c.args.g.now c.args.p.now
    (over-none c.args.g.now c.args.p.now c.in_default.ensures.result)
