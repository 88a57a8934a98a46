use Rattle.std.proofs.Common.{◌≡◌}
use Rattle.pg_dfpn.specs.Prelude.{Fits, lines_of, most_of}
use Rattle.pg_dfpn.proofs.descent.expand.Given as goal

abbrev pub invariant-loop-to : goal.invariant-loop-to
invariant-loop-to l = record {
  game : l.board.game ≡ l.fn.board.game;
  fits : Fits l.cache (lines_of l.asked.game.now);
  most : most_of l.table ≡ most_of l.fn.table;
}
