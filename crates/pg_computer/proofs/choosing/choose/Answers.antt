use Rattle.std.proofs.Common.{◌∙◌, sym}
use Rattle.pg_computer.proofs.Keeping.{chooses_lowest, some_lowest}
use Rattle.pg_computer.proofs.choosing.choose.Goals as goal

pub unreachable-requires : goal.unreachable-requires
unreachable-requires g c = some_lowest c.args.game.now c.args.position.now c.requires.going
    (sym c.lowest_free.ensures ∙ c.in_default.is)

pub choose_by_trials-requires-clause-begins : goal.choose_by_trials-requires-clause-begins
choose_by_trials-requires-clause-begins g c =
    c.if-position-bias_of.true ∙ c.bias_of.ensures

pub choose_by_trials-requires-clause-lowest : goal.choose_by_trials-requires-clause-lowest
choose_by_trials-requires-clause-lowest g c = sym c.lowest_free.ensures ∙ c.in-Some.is

pub returns-clause-chosen : goal.returns-clause-chosen
returns-clause-chosen g c =
    chooses_lowest (g.S.Finder.brings c.args.finder.now) c.args.budget c.args.game.now
    c.args.position.now c.in-Some.lowest (sym c.lowest_free.ensures ∙ c.in-Some.is)
    (λ e. c.if-position-bias_of.false (e ∙ sym c.bias_of.ensures))
