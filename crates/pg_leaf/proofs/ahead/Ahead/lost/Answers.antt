use Rattle.std.proofs.Common.{◌∙◌, length, sym, ap}
use Rattle.pg_leaf.proofs.Common.{false≢true}
use Rattle.pg_base.specs.Side.{is_same_side}
use Rattle.pg_board.proofs.Judging.{degree-of, through-of}
use Rattle.pg_leaf.proofs.ahead.Ahead.lost.Goals as goal

pub returns-then-is_same : goal.returns-then-is_same
returns-then-is_same c = λ h. ap length c.through.ensures
    ∙ ap length (sym (through-of c.args.b.now.game c.args.v))
    ∙ degree-of c.args.b.now.game c.args.v

pub returns : goal.returns
returns c = λ h. absurd
    (false≢true (sym c.if-is_same.false ∙ c.is_same.ensures
    ∙ ap (is_same_side c.args.self.now.breaker) c.turn.ensures ∙ h))
