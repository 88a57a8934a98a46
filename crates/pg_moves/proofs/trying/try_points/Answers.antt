use Rattle.std.proofs.Common.{◌≡◌, ◌∙◌, ◌+◌, ◌<◌, Global, ℕ, Vec, true, ap, arith, refl, subst, sym}
use Rattle.pg_moves.proofs.Common.{Game, IsPosition, IsPosition-after, IsPosition-start, Position}
use Rattle.pg_moves.proofs.Common.{after, after_with, is_free, point_count, start}
use Rattle.pg_moves.proofs.Standing.{own_rules, position_by, rules_then, tried_before}
use Rattle.pg_moves.proofs.Tried.{AreTriedBelow, all_tried, none_tried, one_tried, point_taken}
use Rattle.pg_moves.specs.Trials.{HasRulesOf, IsTriedAt}
use Rattle.pg_moves.specs.declared.trial.Trial.{Trial}
use Rattle.pg_moves.proofs.trying.try_points.Goals as goal
use Rattle.pg_moves.proofs.trying.try_points.Goals.{then-is_free+in_ok-worth+in_ok-push}
use Rattle.pg_moves.proofs.trying.try_points.Goals.{else-is_free}

pub loop-v-init : goal.loop-v-init
loop-v-init g c = record {
  tried = none_tried (g.S.Finder.brings c.args.finder.now) c.args.budget c.args.game.now
      c.new-trials.result.items c.new-trials.ensures.items (own_rules c.args.game.now);
  same = λ other allowed later is. is;
}

pub try_position-requires-clause-position : goal.try_position-requires-clause-position
try_position-requires-clause-position g c =
    let own = c.args.game.now in
    let below : c.loop-v.v < point_count own =
    subst (λ (n : ℕ). c.loop-v.v < n) c.points-v-end.ensures.count c.loop-v-test.true in
    let from = c.start-from.ensures in
    let free : is_free (start own) c.loop-v.v ≡ true =
    ap (λ (p : Position). is_free p c.loop-v.v) (sym from)
    ∙ sym c.is_free.ensures ∙ c.if-is_free.true in
    let rules = c.loop-v.invariant.tried.rules in
    let next : c.after-next.result ≡ after own (start own) c.loop-v.v =
    c.after-next.ensures
    ∙ ap (λ (b : ℕ). after_with b c.start-from.result c.loop-v.v) rules.bias
    ∙ ap (λ (p : Position). after own p c.loop-v.v) from in
    subst (IsPosition c.loop-v.game) (sym next)
    (position_by own c.loop-v.game (after own (start own) c.loop-v.v) rules
    (IsPosition-after own (start own) c.loop-v.v (IsPosition-start own) below free))

pub loop-v-preserved : goal.loop-v-preserved
loop-v-preserved g c =
    let own = c.args.game.now in
    let brings = g.S.Finder.brings c.args.finder.now in
    let budget = c.args.budget in
    let v = c.loop-v.v in
    let was = c.loop-v.invariant in
    let rules = was.tried.rules in
    let from = c.start-from.ensures in
    elim c.if-is_free.branch [
      | then-is_free+in_ok-worth+in_ok-push w ↦
          let next : w.after-next.result ≡ after own (start own) v =
          w.after-next.ensures
          ∙ ap (λ (b : ℕ). after_with b c.start-from.result v) rules.bias
          ∙ ap (λ (p : Position). after own p v) from in
          let worth = w.in_ok-worth.worth in
          let tried = subst (λ (p : Position). IsTriedAt brings budget own p worth) next
          (tried_before (g.S.Finder.brings c.loop-v.finder) brings budget was.same own c.loop-v.game
          rules w.after-next.result worth w.in_ok-worth.ensures.tried) in
          record {
            tried = one_tried brings budget own c.loop-v.game c.if-is_free.game v
                c.loop-v.trials.items c.if-is_free.trials.items
                (record { point = v; worth = worth })
                (ap (λ (p : Position). is_free p v) (sym from)
                ∙ sym c.is_free.ensures ∙ w.if-is_free.true) refl tried
                (subst (HasRulesOf own) (sym w.game-is)
                (rules_then own c.loop-v.game w.try_position.new.game rules
                w.try_position.ensures.rules))
                (ap (λ (xs : Vec Trial Global). xs.items) w.trials-is ∙ w.in_ok-push.ensures.items)
                was.tried;
            same = λ other allowed later is. was.same other allowed later
                (w.try_position.ensures.same other allowed later
                (subst (λ s. g.S.Finder.brings s other allowed later) w.finder-is is));
          }
      | else-is_free w ↦ record {
        tried = subst (λ (now : Game).
            AreTriedBelow brings budget own now (v + 1) c.if-is_free.trials.items) (sym w.game-is)
            (subst (λ (xs : Vec Trial Global).
            AreTriedBelow brings budget own c.loop-v.game (v + 1) xs.items) (sym w.trials-is)
            (point_taken brings budget own c.loop-v.game v c.loop-v.trials.items
            (ap (λ (p : Position). is_free p v) (sym from)
            ∙ sym c.is_free.ensures ∙ w.if-is_free.false) was.tried));
        same = λ other allowed later is. was.same other allowed later
            (subst (λ s. g.S.Finder.brings s other allowed later) w.finder-is is);
      }
    ]

pub returns-clause-trials : goal.returns-clause-trials
returns-clause-trials g c =
    let own = c.args.game.now in
    let brings = g.S.Finder.brings c.args.finder.now in
    let end : c.loop-v.v ≡ point_count own =
    omega (arith, c.points-v-end.ensures.count, c.loop-v.auto.v-end, c.loop-v-test.false) in
    all_tried brings c.args.budget own c.loop-v.game c.loop-v.trials.items c.requires.going
    (subst (λ (n : ℕ).
    AreTriedBelow brings c.args.budget own c.loop-v.game n c.loop-v.trials.items) end
    c.loop-v.invariant.tried)
