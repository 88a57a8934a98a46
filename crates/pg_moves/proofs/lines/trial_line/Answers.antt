use Rattle.std.proofs.Common.{◌≡◌, ◌∙◌, ◌++◌, Global, String, ap, string_bytes, sym}
use Rattle.std.specs.Prelude.{codes, decimal}
use Rattle.pg_moves.proofs.Common.{IfOk-weaker}
use Rattle.pg_moves.specs.Lines.{trial_line, worth_words}
use Rattle.pg_moves.specs.declared.trial.Worth.{Worth}
use Rattle.pg_moves.proofs.lines.trial_line.Goals as goal

pub returns-in-Unknown : goal.returns-in-Unknown
returns-in-Unknown c =
    let point = c.args.trial.now.point in
    let same = ap (λ (worth : Worth). decimal point ++ (codes " " ++ worth_words c.args.kind worth))
    c.in-Unknown.is in
    IfOk-weaker c.format-in-Unknown.result
    (λ (line : String Global). string_bytes line ≡ decimal point
    ++ (codes " unknown after " ++ (decimal c.in-Unknown.expanded ++ codes " positions\n")))
    (λ (line : String Global). string_bytes line ≡ trial_line c.args.kind c.args.trial.now)
    (λ line is. is ∙ sym same) c.format-in-Unknown.ensures.ok
