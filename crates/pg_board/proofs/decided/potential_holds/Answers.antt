use Rattle.std.proofs.Common.{◌+◌, ◌^◌, ◌∙◌, sym, ap}
use Rattle.pg_board.specs.Fits.{position_of}
use Rattle.pg_board.proofs.Deciding.{too-great, none-counted, whole}
use Rattle.pg_board.proofs.decided.potential_holds.Goals as goal

pub returns-then-total-limit : goal.returns-then-total-limit
returns-then-total-limit c =
    let s = c.args.layout.now in
    let longest = c.from.ensures ∙ c.longest.ensures in
    too-great (record { bias = c.args.bias; shape = s }) (position_of s c.args.trail.now.cells)
    c.args.side (1 + c.from-base.result) c.pow-limit.result c.total-total.result
    (ap (λ n. 1 + n) c.from-base.ensures)
    (c.pow-limit.ensures ∙ ap (λ n. (1 + c.from-base.result) ^ n) longest)
    c.total-total.ensures.exact c.if-total-limit.true

pub returns-then-times-eq0 : goal.returns-then-times-eq0
returns-then-times-eq0 c =
    let s = c.args.layout.now in
    let longest = c.from.ensures ∙ c.longest.ensures in
    none-counted (record { bias = c.args.bias; shape = s }) (position_of s c.args.trail.now.cells)
    c.args.side (1 + c.from-base.result) c.pow-limit.result c.total-total.result
    (ap (λ n. 1 + n) c.from-base.ensures)
    (c.pow-limit.ensures ∙ ap (λ n. (1 + c.from-base.result) ^ n) longest)
    c.total-total.ensures.exact c.if-total-limit.false
    (sym (c.from-times.ensures ∙ c.times_counted.ensures) ∙ c.if-times-eq0.true)

pub returns : goal.returns
returns c =
    let s = c.args.layout.now in
    let longest = c.from.ensures ∙ c.longest.ensures in
    whole (record { bias = c.args.bias; shape = s }) (position_of s c.args.trail.now.cells)
    c.args.side (1 + c.from-base.result) c.pow-limit.result c.total-total.result
    (ap (λ n. 1 + n) c.from-base.ensures)
    (c.pow-limit.ensures ∙ ap (λ n. (1 + c.from-base.result) ^ n) longest)
    c.total-total.ensures.exact c.from-times.result c.greatest_weight.result
    (c.from-times.ensures ∙ c.times_counted.ensures) c.greatest_weight.ensures.exact
