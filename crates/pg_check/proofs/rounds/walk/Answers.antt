use Rattle.std.proofs.Common.{◌≡◌, ◌<◌, ◌+◌, ◌∙◌, length, set, refl, sym, ap, subst, arith}
use Rattle.pg_check.proofs.Common.{false≢true, length-set, Position, after, IsAttack}
use Rattle.pg_check.specs.Rounds.{attack_at, reply_at, before_round, attacked, IsRound}
use Rattle.pg_check.proofs.RoundSteps.{round-more, rounds-more, times-none, times-more}
use Rattle.pg_check.proofs.rounds.walk.Goals as goal

pub loop-i-init : goal.loop-i-init
unfolding before_round
loop-i-init c = record {
  last = refl;
  rounds = λ i lt. absurd (omega arith);
  timed = times-none c.args.g.now c.args.p.now c.args.points.now c.args.times.now c.requires.zero;
  long = c.told-times;
}

pub loop-i-preserved : goal.loop-i-preserved
loop-i-preserved c =
    let g = c.args.g.now in
    let p = c.args.p.now in
    let points = c.args.points.now in
    let i = c.loop-i.i in
    let h = c.loop-i.invariant in
    let here : c.after-attacked.result ≡ attacked g p points i =
    c.after-attacked.ensures ∙ ap (λ (q : Position). after g q (attack_at points i)) h.last in
    let round : IsRound g p points i = record {
      attack = subst (λ (q : Position). IsAttack g q (attack_at points i)) h.last
          (c.is_attack.ensures.attack.0 c.if-not-is_attack.false);
      reply = subst (λ (q : Position). IsAttack g q (reply_at points i)) here
          (c.is_attack-in-loop-i.ensures.attack.0 c.if-not-is_attack-2.false);
    } in
    let one = c.is_attack.ensures.few c.if-not-is_attack.false in
    let two = c.is_attack-in-loop-i.ensures.few c.if-not-is_attack-2.false in
    let one_in : c.from.result < length c.loop-i.times = omega (arith, one, c.from.ensures, h.long)
    in
    let two_in : c.from-in-loop-i.result < length c.loop-i.times =
    omega (arith, two, c.from-in-loop-i.ensures, h.long) in
    record {
      last =
          c.after-last.ensures ∙ ap (λ (q : Position). after g q (reply_at points i)) here
          ∙ sym (round-more g p points i);
      rounds = rounds-more g p points i round h.rounds;
      timed = times-more g p points i c.loop-i.times c.from.result c.from-in-loop-i.result
          c.from.ensures c.from-in-loop-i.ensures one_in two_in round h.timed;
      long =
          length-set (set c.loop-i.times c.from.result (i + 1)) c.from-in-loop-i.result (i + 1)
          ∙ length-set c.loop-i.times c.from.result (i + 1) ∙ h.long;
    }

pub returns-then-not-is_attack-clause-none : goal.returns-then-not-is_attack-clause-none
returns-then-not-is_attack-clause-none c = λ all.
    let g = c.args.g.now in
    let points = c.args.points.now in
    let i = c.loop-i.i in
    let attack = subst (λ (q : Position). IsAttack g q (attack_at points i))
    (sym c.loop-i.invariant.last)
    (all i c.loop-i-test.true).attack in
    false≢true (sym c.if-not-is_attack.true ∙ c.is_attack.ensures.attack.1 attack)
