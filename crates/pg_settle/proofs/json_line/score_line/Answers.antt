use Rattle.std.proofs.Common.{◌≡◌, ◌∙◌, false, ap, string_bytes, Global, String}
use Rattle.std.proofs.lemmas.Result.{IfOk-weaker}
use Rattle.serde_json.specs.View.{view}
use Rattle.serde_json.specs.Written.{has_float}
use Rattle.pg_settle.specs.JsonLines.{value_data, json_line}
use Rattle.pg_settle.proofs.json_line.score_line.Goals as goal

pub returns : goal.returns
returns c =
    let value = c.in_ok-value.ensures in
    IfOk-weaker _ _ _ (λ (line : String Global)
    (is : has_float (view c.in_ok-value.value) ≡ false
    → string_bytes line ≡ json_line (view c.in_ok-value.value)).
    is (ap has_float value) ∙ ap json_line value) c.line_of.ensures
