use Rattle.std.proofs.Common.{Option, sym, subst}
use Rattle.pg_talk.proofs.Common.{err_from_is_err_and, Message}
use Rattle.pg_talk.specs.Storing.{SaysTexts, texts_of}
use Rattle.pg_talk.proofs.Delivering.{says_more, says_none}
use Rattle.pg_talk.proofs.saying.say_both.Goals as goal

pub returns-in_err-say-clause-said : goal.returns-in_err-say-clause-said
returns-in_err-say-clause-said g c =
    let p = err_from_is_err_and c.from_residual.result c.from_residual.ensures.1 in
    rw p.1
    (says_none c.args.message c.args.further (g.C.Console.told c.args.console.now).log
    (g.C.Console.told c.say.new.console).log c.in_err-say.field-0.0 c.in_err-say.ensures.said)

pub returns-in-Some-clause-said : goal.returns-in-Some-clause-said
returns-in-Some-clause-said g c =
    let before = (g.C.Console.told c.args.console.now).log in
    let after = (g.C.Console.told c.say-in-Some.new.console).log in
    subst (λ (o : Option Message).
    SaysTexts (texts_of c.args.message o) before after c.say-in-Some.result) (sym c.in-Some.is)
    (says_more c.args.message c.in-Some.further before (g.C.Console.told c.say.new.console).log
    after c.say-in-Some.result c.in_ok-say.ensures.said c.say-in-Some.ensures.said)
