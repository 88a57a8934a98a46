use Rattle.std.proofs.Common.{◌≡◌, ◌∙◌, false, ap, string_bytes, Global, String}
use Rattle.serde_json.specs.Written.{has_float}
use Rattle.pg_moves.proofs.Common.{IfOk-weaker}
use Rattle.pg_moves.proofs.Unfloating.{no_float}
use Rattle.pg_moves.specs.Best.{list_of}
use Rattle.pg_moves.specs.Prelude.{json_line, view}
use Rattle.pg_moves.proofs.json_line.moves_line.Goals as goal

pub returns : goal.returns
returns c =
    let value = c.in_ok-value.ensures in
    let none = no_float c.args.name.now c.args.kind c.args.turn c.args.trials.now
    (list_of c.args.best.now) in
    IfOk-weaker _ _ _ (λ (line : String Global)
    (is : has_float (view c.in_ok-value.value) ≡ false
    → string_bytes line ≡ json_line (view c.in_ok-value.value)).
    is (ap has_float value ∙ none) ∙ ap json_line value) c.line_of.ensures
