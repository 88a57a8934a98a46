use Rattle.std.proofs.Common.{ℕ, Option, unwrap_or, sym, ap, ◌∙◌}
use Rattle.pg_pairing.proofs.AnswerLaws.{answer-partner, answer-loose, answer-lowest}
use Rattle.pg_pairing.proofs.answers.choose.Goals as goal

pub returns-in-Some : goal.returns-in-Some
returns-in-Some c = sym
    (answer-partner c.args.g.now c.args.p.now c.args.pairs.now c.args.last c.in-Some.b
    (sym c.in-Some.ensures))

pub returns-in-Some-lowest_loose : goal.returns-in-Some-lowest_loose
returns-in-Some-lowest_loose c = sym
    (answer-loose c.args.g.now c.args.p.now c.args.pairs.now c.args.last c.in-Some-lowest_loose.v
    (sym c.in-None.ensures) (sym c.in-Some-lowest_loose.ensures))

pub returns-in-None-lowest_loose : goal.returns-in-None-lowest_loose
returns-in-None-lowest_loose c = c.unwrap_or.ensures
    ∙ ap (λ (o : Option ℕ). unwrap_or o 0) c.lowest_free.ensures
    ∙ sym (answer-lowest c.args.g.now c.args.p.now c.args.pairs.now c.args.last
    (sym c.in-None.ensures) (sym c.in-None-lowest_loose.ensures))
