use Rattle.pg_moves.proofs.Common.{Budget, Game, Outcome}
use Rattle.pg_moves.proofs.Tried.{AreTriedBelow}
use Rattle.pg_moves.proofs.trying.try_points.Given as goal

abbrev pub invariant-loop-v : goal.invariant-loop-v
invariant-loop-v g l = record {
  tried : AreTriedBelow (g.S.Finder.brings l.fn.finder) l.fn.budget l.fn.game l.game l.v
      l.trials.items;
  same : (other : Game) (allowed : Budget) (later : Outcome)
      → g.S.Finder.brings l.finder other allowed later
      → g.S.Finder.brings l.fn.finder other allowed later;
}
