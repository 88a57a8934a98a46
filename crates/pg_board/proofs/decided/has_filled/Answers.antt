use Rattle.std.proofs.Common.{◌∙◌, ap}
use Rattle.pg_board.specs.Fits.{position_of}
use Rattle.pg_board.specs.Totals.{live_with_in}
use Rattle.pg_board.proofs.Deciding.{filled-is}
use Rattle.pg_board.proofs.decided.has_filled.Goals as goal

pub returns : goal.returns
returns c =
    let s = c.args.layout.now in
    let p = position_of s c.args.trail.now.cells in
    filled-is s c.args.trail.now.cells c.args.side c.live_with.result
    (c.live_with.ensures ∙ ap (λ k. live_with_in s p k 0) c.other.ensures)
