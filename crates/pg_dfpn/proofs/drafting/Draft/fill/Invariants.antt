use Rattle.std.proofs.Common.{◌≡◌}
use Rattle.pg_dfpn.specs.Prelude.{Fits, lines_of}
use Rattle.pg_dfpn.specs.Drafted.{AreFit}
use Rattle.pg_dfpn.proofs.drafting.Draft.fill.Given as goal

abbrev pub invariant-loop-step : goal.invariant-loop-step
invariant-loop-step g l = record {
  game : l.board.game ≡ l.fn.board.game;
  fits : Fits l.cache (lines_of l.asked.game.now);
  fit : AreFit l.self.nodes.items;
}
