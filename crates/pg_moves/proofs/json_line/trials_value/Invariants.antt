use Rattle.std.proofs.Common.{◌≡◌, map, take}
use Rattle.pg_moves.specs.JsonLines.{trial_data}
use Rattle.pg_moves.specs.Prelude.{view}
use Rattle.pg_moves.proofs.json_line.trials_value.Given as goal

abbrev pub invariant-loop-trial : goal.invariant-loop-trial
invariant-loop-trial l =
    map view l.values.items ≡ map (trial_data l.kind) (take l.trial-index l.trials)
