use Rattle.std.proofs.Common.{List, ℕ, subst}
use Rattle.pg_play_tree.specs.Places.{OpensTo}
use Rattle.pg_play_tree.proofs.Again.{opens_game, reached_fits}
use Rattle.pg_play_tree.proofs.place.place_after.Goals as goal

pub returns-clause-place : goal.returns-clause-place
returns-clause-place c = record {
  play = c.in-Some.player;
  opens = subst (λ (vs : List ℕ). OpensTo c.args.checked.game.now c.args.checked.cert.now
      c.args.side vs c.in-Some.player) c.as_slice.ensures.value
      (rw c.in-Some.is at c.in_ok-player.ensures.opens);
  position = c.position-position.ensures.exact;
  fits =
      let opens = rw c.in-Some.is at c.in_ok-player.ensures.opens in
      let reached = c.position-position.ensures.reached in
      reached_fits c.in-Some.player.game c.args.checked.game.now c.position-position.result
      reached.0 (opens_game c.args.checked.game.now c.args.checked.cert.now c.args.side
      c.as_slice.result.now c.in-Some.player opens) reached.1 reached.2;
  step = c.next_step-step.ensures;
}
