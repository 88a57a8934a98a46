use Rattle.std.proofs.Common.{◌∙◌, ℕ, List, refl, ap}
use Rattle.pg_game.specs.Game.{start}
use Rattle.pg_record.specs.declared.event.Event.TheVariants.{Play}
use Rattle.pg_record.specs.Replay.{position_after, standing}
use Rattle.pg_record.proofs.Standing.{standing-more, played-more, back-undoes}
use Rattle.pg_record.proofs.laws.events_are_undone.Goals as goal

pub returns-clause-none : goal.returns-clause-none
unfolding standing
returns-clause-none c g = refl

pub returns-clause-play : goal.returns-clause-play
returns-clause-play c g events v =
    let moves = standing-more events (Play v) in
    let position = ap (position_after g) moves ∙ played-more g (start g) (standing events) v in
    λ i. record { moves = moves i; position = position i }

pub returns-clause-back : goal.returns-clause-back
returns-clause-back c g before v since same = ap (λ (ms : List ℕ). record {
  moves = ms;
  position = position_after g ms;
}) (back-undoes before since v same)
