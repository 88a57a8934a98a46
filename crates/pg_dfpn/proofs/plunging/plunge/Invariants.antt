use Rattle.std.proofs.Common.{◌≡◌, ◌≤◌}
use Rattle.pg_dfpn.specs.Prelude.{Fits, lines_of, most_of}
use Rattle.pg_dfpn.proofs.plunging.plunge.Given as goal

abbrev pub invariant-loop-taken : goal.invariant-loop-taken
invariant-loop-taken g l = record {
  game : l.board.game ≡ l.fn.board.game;
  fits : Fits l.cache (lines_of l.asked.game.now);
  most : most_of l.search.table ≡ most_of l.fn.search.table;
  few : l.search.expanded ≤ l.asked.limits.positions;
}
