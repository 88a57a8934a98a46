use Rattle.std.proofs.Common.{◌≡◌, ◌∙◌, ℕ, true, refl, sym, ap, subst, inl, inr, arith}
use Rattle.pg_check.proofs.Common.{cases_eq, Position, after, has_filled, threatens}
use Rattle.pg_check.specs.Rounds.{attack_at, reply_at, before_round, attacked}
use Rattle.pg_check.proofs.RoundSteps.{round-more}
use Rattle.pg_check.proofs.rounds.are_forced.Goals as goal

pub loop-i-init : goal.loop-i-init
unfolding before_round
loop-i-init c = record { before = refl; forced = λ i lt. absurd (omega arith) }

pub threatens-requires : goal.threatens-requires
threatens-requires c =
    let g = c.args.g.now in
    let here =
    c.after-attacked.ensures
    ∙ ap (λ (q : Position). after g q (attack_at c.args.points.now c.loop-i.i))
    c.loop-i.invariant.before in
    ap (λ (q : Position). has_filled g q c.args.side) here
    ∙ c.requires.unfilled c.loop-i.i c.loop-i-test.true

pub loop-i-preserved : goal.loop-i-preserved
loop-i-preserved c =
    let g = c.args.g.now in
    let p = c.args.p.now in
    let points = c.args.points.now in
    let i = c.loop-i.i in
    let here : c.after-attacked.result ≡ attacked g p points i =
    c.after-attacked.ensures ∙ ap (λ (q : Position). after g q (attack_at points i))
    c.loop-i.invariant.before in
    let now : threatens g (attacked g p points i) c.args.side (reply_at points i) ≡ true =
    sym (ap (λ (q : Position). threatens g q c.args.side (reply_at points i)) here)
    ∙ sym c.threatens.ensures.threat ∙ c.if-not-threatens.false in
    record {
      before =
          c.after-before.ensures ∙ ap (λ (q : Position). after g q (reply_at points i)) here
          ∙ sym (round-more g p points i);
      forced = λ j lt. elim (cases_eq j i) [
        | inl e ↦ subst (λ (k : ℕ). threatens g (attacked g p points k) c.args.side
            (reply_at points k) ≡ true) (sym e) now
        | inr ne ↦ c.loop-i.invariant.forced j (omega arith)
      ];
    }
