use Rattle.std.proofs.Common.{sym, ap, ◌∙◌}
use Rattle.pg_base.specs.declared.side.Side.{Side}
use Rattle.pg_game.specs.Avoider.{x_takes_last}
use Rattle.pg_game.proofs.LastPoint.{takes-x, takes-x_none, takes-y, takes-y_none}
use Rattle.pg_game.proofs.ending.x_takes_last.Goals as goal

pub returns-then-free-gt0 : goal.returns-then-free-gt0
returns-then-free-gt0 c = takes-x c.args.bias c.args.left c.args.free c.if-free-gt0.true
    ∙ ap (λ (s : Side). x_takes_last c.args.bias s c.args.left c.args.free) (sym c.in-X.is)

pub returns-else-free-gt0 : goal.returns-else-free-gt0
returns-else-free-gt0 c = takes-x_none c.args.bias c.args.left c.args.free c.if-free-gt0.false
    ∙ ap (λ (s : Side). x_takes_last c.args.bias s c.args.left c.args.free) (sym c.in-X.is)

pub returns-then-left-free : goal.returns-then-left-free
returns-then-left-free c = takes-y c.args.bias c.args.left c.args.free c.if-left-free.true
    ∙ ap (λ (s : Side). x_takes_last c.args.bias s c.args.left c.args.free) (sym c.in-Y.is)

pub returns-else-left-free : goal.returns-else-left-free
returns-else-left-free c = takes-y_none c.args.bias c.args.left c.args.free c.if-left-free.false
    ∙ ap (λ (s : Side). x_takes_last c.args.bias s c.args.left c.args.free) (sym c.in-Y.is)
