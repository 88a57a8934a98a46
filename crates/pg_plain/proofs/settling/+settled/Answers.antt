use Rattle.std.proofs.Common.{rules, ◌≡◌, ◌-◌, ◌+◌, ◌<◌, Option, Bool, length, true, false, sym, ap}
use Rattle.std.proofs.Common.{◌∙◌, subst, arith}
use Rattle.pg_plain.proofs.Common.{Position, AreBelow, is_free, point_count, free_points, after}
use Rattle.pg_plain.proofs.Common.{settled, length-free_points-after, settle-unlisted}
use Rattle.pg_plain.specs.Known.{with_move}
use Rattle.pg_plain.proofs.BestPlay.{x_range-after}
use Rattle.pg_plain.proofs.SettleSteps.{known_from, known-free, known-all, known-decided}
use Rattle.pg_plain.proofs.SettleSteps.{known-undecided}
use Rattle.pg_plain.proofs.MovesFrom.{from-none, from-taken}
use Rattle.pg_plain.proofs.settling.+settled.Goals as goal

pub returns-then-is_some-clause-settled : goal.returns-then-is_some-clause-settled
returns-then-is_some-clause-settled t c =
    known-decided c.args.g.now c.args.wanted c.args.table.now c.args.p.now c.decided-answer.result
    c.decided-answer.ensures.decided (sym c.is_some.ensures ∙ c.if-is_some.true)

pub returns-then-not-is_listed-clause-settled : goal.returns-then-not-is_listed-clause-settled
returns-then-not-is_listed-clause-settled t c =
    let un =
    known-undecided c.args.g.now c.args.wanted c.args.table.now c.args.p.now c.decided-answer.result
    c.decided-answer.ensures.decided (sym c.is_some.ensures ∙ c.if-is_some.false) in
    sym
    (settle-unlisted c.args.g.now c.args.wanted c.args.table.now c.args.p.now un
    (sym c.is_listed.ensures ∙ c.if-not-is_listed.true))

pub loop-v-init : goal.loop-v-init
loop-v-init t c =
    let from = known_from c.args.g.now c.args.wanted c.args.table.now c.args.p.now in
    record {
      range = omega (arith, c.points-v.ensures.count);
      known = c.without_moves-known.ensures
          ∙ sym (from-none _ _ _ _)
          ∙ ap from (sym c.points-v.ensures.count);
      kept = search rules;
    }

pub settled-after-requires : goal.settled-after-requires
settled-after-requires t c =
    let v = c.loop-v.v - 1 in
    let within : v < point_count c.args.g.now =
    omega (arith, c.loop-v.invariant.range, c.loop-v-test.true) in
    let free : is_free c.args.p.now v ≡ true = sym c.is_free.ensures ∙ c.if-is_free.true in
    let fewer = length-free_points-after c.args.g.now c.args.p.now v within free in
    let left = ap (λ (q : Position). length (free_points c.args.g.now q)) c.after.ensures in
    let range = x_range-after c.args.g.now c.args.p.now v c.requires.range within in (
      omega (arith, c.decreases, fewer, left),
      (
        search rules,
        subst (λ (q : Position). AreBelow q.x (point_count c.args.g.now))
            (sym c.after.ensures) range,
      ),
    )

pub loop-v-preserved-then-is_free : goal.loop-v-preserved-then-is_free
loop-v-preserved-then-is_free t c =
    let g = c.args.g.now in
    let s = c.args.wanted in
    let table = c.args.table.now in
    let p = c.args.p.now in
    let v = c.loop-v.v - 1 in
    let within : v < point_count g = omega (arith, c.loop-v.invariant.range, c.loop-v-test.true) in
    let free : is_free p v ≡ true = sym c.is_free.ensures ∙ c.if-is_free.true in
    let next : v + 1 ≡ c.loop-v.v = omega (arith, c.loop-v-test.true) in
    let rest = c.loop-v.invariant.known ∙ ap (known_from g s table p) (sym next) in
    let moved = c.settled-after.ensures.settled ∙ ap (settled g s table) c.after.ensures in
    record {
      range = omega (arith, within);
      known = c.with_move-known.ensures
          ∙ ap (λ (o : Option Bool). with_move p.turn o c.loop-v.known) moved
          ∙ ap (with_move p.turn (settled g s table (after g p v))) rest
          ∙ sym (known-free g s table p v within free);
      kept = search rules;
    }

pub loop-v-preserved : goal.loop-v-preserved
loop-v-preserved t c =
    let g = c.args.g.now in
    let s = c.args.wanted in
    let table = c.args.table.now in
    let p = c.args.p.now in
    let v = c.loop-v.v - 1 in
    let within : v < point_count g = omega (arith, c.loop-v.invariant.range, c.loop-v-test.true) in
    let taken : is_free p v ≡ false = sym c.is_free.ensures ∙ c.if-is_free.false in
    let next : v + 1 ≡ c.loop-v.v = omega (arith, c.loop-v-test.true) in
    record {
      range = omega (arith, within);
      known = c.loop-v.invariant.known
          ∙ ap (known_from g s table p) (sym next)
          ∙ sym (from-taken _ _ _ _ v within taken);
      kept = search rules;
    }

pub returns-clause-settled : goal.returns-clause-settled
returns-clause-settled t c =
    let end : c.loop-v.v ≡ 0 = omega (arith, c.loop-v-test.false) in
    let un =
    known-undecided c.args.g.now c.args.wanted c.args.table.now c.args.p.now c.decided-answer.result
    c.decided-answer.ensures.decided (sym c.is_some.ensures ∙ c.if-is_some.false) in
    let listed = sym c.is_listed.ensures ∙ c.if-not-is_listed.false in
    c.loop-v.invariant.known
    ∙ ap (known_from c.args.g.now c.args.wanted c.args.table.now c.args.p.now) end
    ∙ known-all c.args.g.now c.args.wanted c.args.table.now c.args.p.now un listed
