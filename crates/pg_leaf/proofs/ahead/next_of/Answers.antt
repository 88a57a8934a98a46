use Rattle.std.proofs.Common.{◌≡◌, ◌≢◌, ◌∙◌, true, false, sym, ap, subst}
use Rattle.pg_leaf.proofs.Common.{Game, Side, false≢true, may_attack}
use Rattle.pg_base.specs.Side.{other}
use Rattle.pg_leaf.proofs.ahead.next_of.Goals as goal

pub returns-then-game-ne1-clause-next : goal.returns-then-game-ne1-clause-next
returns-then-game-ne1-clause-next c = λ attacks. absurd
    ((subst (λ (g : Game). g.bias ≢ 1) c.game.ensures c.if-game-ne1.true) attacks.single)

pub returns-then-not-may_attack-clause-next : goal.returns-then-not-may_attack-clause-next
returns-then-not-may_attack-clause-next c = λ attacks.
    let barred = subst (λ (s : Side). may_attack c.args.b.now.game.kind s ≡ false)
    (c.other.ensures ∙ ap other c.turn.ensures)
    (rw c.kind.ensures.exact at (sym c.may_attack.ensures ∙ c.if-not-may_attack.true)) in
    absurd (false≢true (sym barred ∙ attacks.may))

pub forced_passed-requires-clause-single : goal.forced_passed-requires-clause-single
forced_passed-requires-clause-single c =
    subst (λ (g : Game). g.bias ≡ 1) c.game.ensures c.if-game-ne1.false

pub forced_passed-requires-clause-may : goal.forced_passed-requires-clause-may
forced_passed-requires-clause-may c =
    subst (λ (s : Side). may_attack c.args.b.now.game.kind s ≡ true)
    (c.other.ensures ∙ ap other c.turn.ensures)
    (rw c.kind.ensures.exact at (sym c.may_attack.ensures ∙ c.if-not-may_attack.false))

pub returns-in-None-clause-next : goal.returns-in-None-clause-next
returns-in-None-clause-next c = λ _. c.in-None.ensures.answer

pub returns-in-Some-clause-next : goal.returns-in-Some-clause-next
returns-in-Some-clause-next c = (
  record {
    single = subst (λ (g : Game). g.bias ≡ 1) c.game.ensures c.if-game-ne1.false;
    may = subst (λ (s : Side). may_attack c.args.b.now.game.kind s ≡ true)
        (c.other.ensures ∙ ap other c.turn.ensures)
        (rw c.kind.ensures.exact at (sym c.may_attack.ensures ∙ c.if-not-may_attack.false));
  },
  c.in-Some.ensures.answer,
)
