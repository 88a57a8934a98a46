use Rattle.std.proofs.Common.{◌∙◌, sym, false}
use Rattle.std.proofs.lemmas.Str.Pattern.{starts_text}
use Rattle.pg_words.specs.Line.{rest_after, key_start}
use Rattle.pg_words.specs.declared.key.Key.TheVariants as key
use Rattle.pg_words.proofs.Taken.{either_is, starts}
use Rattle.pg_words.proofs.order.gives_value.Goals as goal

pub returns-else-starts_with : goal.returns-else-starts_with
returns-else-starts_with c =
    let word = c.args.word.now in
    let first = sym c.if-starts_with.false
    ∙ (starts_text c.starts_with.result (key_start key.Positions) word c.starts_with.ensures.cases
    ∙ sym (starts (key_start key.Positions) word)) in
    let second = starts_text c.starts_with-else-starts_with.result
    (key_start key.Side) word c.starts_with-else-starts_with.ensures.cases
    ∙ sym (starts (key_start key.Side) word) in
    either_is (rest_after (key_start key.Positions) word)
    (rest_after (key_start key.Side) word) false c.starts_with-else-starts_with.result first second
