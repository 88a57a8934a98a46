use Rattle.std.proofs.Common.{◌^◌, ◌∙◌, sym, ap}
use Rattle.pg_board.specs.Fits.{position_of}
use Rattle.pg_board.proofs.Deciding.{avoider-great, avoider-whole, risk-twice, risk-once}
use Rattle.pg_board.proofs.decided.avoider_holds.Goals.{then-avoider_ends, else-avoider_ends}
use Rattle.pg_board.proofs.decided.avoider_holds.Goals as goal

pub returns-then-total-limit : goal.returns-then-total-limit
returns-then-total-limit c =
    let s = c.args.layout.now in
    let longest = c.from.ensures ∙ c.longest.ensures in
    avoider-great (record { bias = c.args.bias; shape = s }) (position_of s c.args.trail.now.cells)
    c.pow-limit.result c.total-total.result (c.pow-limit.ensures ∙ ap (λ n. 2 ^ n) longest)
    c.total-total.ensures.exact c.if-total-limit.true

pub returns : goal.returns
returns c =
    let s = c.args.layout.now in
    let p = position_of s c.args.trail.now.cells in
    let longest = c.from.ensures ∙ c.longest.ensures in
    avoider-whole (record { bias = c.args.bias; shape = s }) p c.pow-limit.result
    c.if-avoider_ends.risk (c.pow-limit.ensures ∙ ap (λ n. 2 ^ n) longest)
    (elim c.if-avoider_ends.branch [
      | then-avoider_ends w ↦ w.risk-is
          ∙ risk-twice (record { bias = c.args.bias; shape = s }) p c.total-total.result
          c.total-total.ensures.exact (sym c.avoider_ends.ensures ∙ w.if-avoider_ends.true)
      | else-avoider_ends w ↦ w.risk-is
          ∙ risk-once (record { bias = c.args.bias; shape = s }) p c.total-total.result
          c.total-total.ensures.exact (sym c.avoider_ends.ensures ∙ w.if-avoider_ends.false)
    ])
