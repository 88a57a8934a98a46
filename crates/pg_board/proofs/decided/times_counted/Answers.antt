use Rattle.std.proofs.Common.{◌≡◌, ◌-◌, ◌∙◌, true, false, sym, ap, arith}
use Rattle.pg_base.specs.Side.{is_same_side}
use Rattle.pg_board.specs.Fits.{position_of}
use Rattle.pg_board.proofs.Deciding.{some-cell, turn-is, left-is, left-few, times-own, times-theirs}
use Rattle.pg_board.proofs.decided.times_counted.Goals as goal

pub turn-requires : goal.turn-requires
turn-requires c = some-cell c.args.layout.now c.args.trail.now.cells c.requires.agrees

pub left-requires-clause-width : goal.left-requires-clause-width
left-requires-clause-width c = some-cell c.args.layout.now c.args.trail.now.cells c.requires.agrees

pub overflow_sub-result : goal.overflow_sub-result
overflow_sub-result c =
    omega (arith, c.left.ensures, left-few _ c.args.bias c.requires.some c.requires.turn)

pub returns-then-is_same : goal.returns-then-is_same
returns-then-is_same c =
    let s = c.args.layout.now in
    let p = position_of s c.args.trail.now.cells in
    let turn = c.turn.ensures ∙ turn-is s c.args.trail.now.cells in
    let own : is_same_side c.args.side p.turn ≡ true =
    ap (is_same_side c.args.side) (sym turn) ∙ (sym c.is_same.ensures ∙ c.if-is_same.true) in
    times-own (record { bias = c.args.bias; shape = s }) p c.args.side _ own
    (ap (λ n. c.args.bias - n) (c.left.ensures ∙ left-is s c.args.trail.now.cells))

pub returns-else-is_same : goal.returns-else-is_same
returns-else-is_same c =
    let s = c.args.layout.now in
    let p = position_of s c.args.trail.now.cells in
    let turn = c.turn.ensures ∙ turn-is s c.args.trail.now.cells in
    let theirs : is_same_side c.args.side p.turn ≡ false =
    ap (is_same_side c.args.side) (sym turn) ∙ (sym c.is_same.ensures ∙ c.if-is_same.false) in
    times-theirs (record { bias = c.args.bias; shape = s }) p c.args.side c.args.bias theirs
    (λ i. c.args.bias)
