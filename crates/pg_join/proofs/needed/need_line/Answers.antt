use Rattle.std.proofs.Common.{◌≡◌, ◌∙◌, ◌++◌, Global, String, ap, string_bytes}
use Rattle.std.specs.Prelude.{codes}
use Rattle.pg_text.specs.Text.{Bytes}
use Rattle.pg_join.proofs.Common.{IfOk-weaker}
use Rattle.pg_join.specs.Needs.{digits_then, need_line}
use Rattle.pg_join.proofs.needed.need_line.Goals as goal

pub returns : goal.returns
returns c =
    let file = c.args.need.now.file in
    IfOk-weaker c.format.result
    (λ (line : String Global). string_bytes line
    ≡ digits_then file (codes ".game " ++ (c.lack_word-word.result.now ++ codes "\n")))
    (λ (line : String Global). string_bytes line ≡ need_line c.args.need.now)
    (λ line is. is ∙ ap (λ (w : Bytes). digits_then file (codes ".game " ++ (w ++ codes "\n")))
    c.lack_word-word.ensures) c.format.ensures.ok
