use Rattle.std.proofs.Common.{◌≡◌, ◌≤◌, ◌^◌}
use Rattle.pg_game.specs.Position.{is_free}
use Rattle.pg_board.specs.Fits.{position_of}
use Rattle.pg_board.specs.Totals.{weight_in}
use Rattle.pg_board.proofs.Weighing.{greatest_below}
use Rattle.pg_board.proofs.totals.greatest_weight.Given as goal

abbrev pub invariant-loop-v : goal.invariant-loop-v
invariant-loop-v l = record {
  greatest : l.greatest
      ≡ greatest_below (weight_in l.fn.base l.layout (position_of l.layout l.trail.cells) l.fn.side)
      (is_free (position_of l.layout l.trail.cells)) l.v;
  few : l.greatest ≤ 2 ^ 115;
}
