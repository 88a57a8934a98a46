use Rattle.std.proofs.Common.{◌≡◌, None, drop}
use Rattle.pg_backing.specs.Backed.{best_from}
use Rattle.pg_backing.proofs.backing.View.best_of.Given as goal

abbrev pub invariant-loop-step : goal.invariant-loop-step
invariant-loop-step l = record {
  turn : l.best.turn ≡ l.position.turn;
  span : best_from l.self.game.now l.position l.self.spans.now l.best.span
      (drop l.step-index l.steps)
      ≡ best_from l.self.game.now l.position l.self.spans.now None l.steps;
}
