use Rattle.std.proofs.Common.{◌≡◌, ◌-◌, length}
use Rattle.pg_exchange.proofs.Common.{contains, IsBelow, count, outside}
use Rattle.pg_exchange.specs.Path.{first_label, second_label, above_of, via_of, IsSpread}
use Rattle.pg_exchange.specs.Stars.{IsRound}
use Rattle.pg_exchange.proofs.path.find.Given as goal

abbrev pub invariant-loop-label : goal.invariant-loop-label
invariant-loop-label l = record {
  size : length l.steps ≡ l.g.vertices;
  spread : IsSpread (first_label l.g l.names) (second_label l.g l.names) (contains l.base) l.from
      (contains l.reached) (above_of l.steps) (via_of l.steps);
  small : IsBelow (contains l.reached) l.g.vertices;
  round : IsRound (first_label l.g l.names) (second_label l.g l.names) (contains l.base)
      (contains l.left) (contains l.reached) (contains l.fresh);
}

abbrev pub decreases-loop-label : goal.decreases-loop-label
decreases-loop-label l =
    l.g.vertices - count (outside (contains l.reached) (contains l.fresh)) l.g.vertices
