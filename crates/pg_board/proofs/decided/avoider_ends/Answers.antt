use Rattle.std.proofs.Common.{◌∙◌}
use Rattle.pg_game.specs.Avoider.{x_takes_last}
use Rattle.pg_board.proofs.Deciding.{some-cell, turn-is, left-is}
use Rattle.pg_board.proofs.decided.avoider_ends.Goals as goal

pub turn-requires : goal.turn-requires
turn-requires c = some-cell c.args.layout.now c.args.trail.now.cells c.requires.agrees

pub left-requires-clause-width : goal.left-requires-clause-width
left-requires-clause-width c = some-cell c.args.layout.now c.args.trail.now.cells c.requires.agrees

pub returns : goal.returns
returns c =
    let s = c.args.layout.now in
    let bias = c.from.ensures in
    let turn = c.turn.ensures ∙ turn-is s c.args.trail.now.cells in
    let left = c.from-2.ensures ∙ (c.left.ensures ∙ left-is s c.args.trail.now.cells) in
    c.x_takes_last.ensures ∙ (λ i. x_takes_last (bias i) (turn i) (left i) (c.requires.free i))
