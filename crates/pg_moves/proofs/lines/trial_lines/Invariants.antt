use Rattle.std.proofs.Common.{◌≡◌, string_bytes, take}
use Rattle.pg_moves.specs.Lines.{trial_line}
use Rattle.pg_moves.specs.Prelude.{flat_map}
use Rattle.pg_moves.proofs.lines.trial_lines.Given as goal

abbrev pub invariant-loop-trial : goal.invariant-loop-trial
invariant-loop-trial l =
    string_bytes l.text ≡ flat_map (trial_line l.kind) (take l.trial-index l.trials)
