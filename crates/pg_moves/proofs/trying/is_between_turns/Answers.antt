use Rattle.std.proofs.Common.{◌≡◌, ◌∙◌, ◌||◌, Bool, ap, sym}
use Rattle.pg_moves.proofs.Common.{IfOk-weaker, eq-eqb, is_over, ne_eqb}
use Rattle.pg_moves.proofs.trying.is_between_turns.Goals as goal

pub returns-then-position-bias_of : goal.returns-then-position-bias_of
returns-then-position-bias_of c = sym (ap (λ (b : Bool). b || is_over c.args.game.now
    c.args.position.now) (eq-eqb _ _ (c.if-position-bias_of.true ∙ c.bias_of.ensures)))

pub returns : goal.returns
returns c = IfOk-weaker _ _ _
    (λ (over : Bool) (is : over ≡ is_over c.args.game.now c.args.position.now).
    is ∙ sym (ap (λ (b : Bool). b || is_over c.args.game.now c.args.position.now)
    (ne_eqb _ _ (λ e. c.if-position-bias_of.false (e ∙ sym c.bias_of.ensures)))))
    c.is_over.ensures
