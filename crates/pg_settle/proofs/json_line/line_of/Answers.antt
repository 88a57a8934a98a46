use Rattle.std.proofs.Common.{◌∙◌, ◌++◌, [], ◌∷◌, string_bytes, ap, arith}
use Rattle.pg_settle.proofs.json_line.line_of.Goals as goal

pub returns : goal.returns
returns c none = c.in_ok-push.ensures.bytes
    ∙ ap (λ t. string_bytes c.in_ok-line.line ++ t) (c.push.ensures.ascii (omega arith))
    ∙ ap (λ t. t ++ (10 ∷ [])) (c.in_ok-line.ensures.text none)
