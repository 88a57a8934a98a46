use Rattle.std.proofs.Common.{◌∙◌, List, ap, subst, sym}
use Rattle.pg_computer.proofs.Common.{Trial, position_by, stands_by}
use Rattle.pg_computer.specs.Choices.{Chooses, choice_by}
use Rattle.pg_computer.specs.declared.choice.Choice.{Choice}
use Rattle.pg_computer.proofs.Keeping.{chooses_tried, rules_copied}
use Rattle.pg_computer.proofs.choosing.choose_by_trials.Goals as goal

pub stand_at-requires : goal.stand_at-requires
stand_at-requires g c =
    let own = c.args.game.now in
    let copy = c.in_ok-here.here in
    position_by own copy c.args.position.now (rules_copied own copy c.in_ok-here.ensures)
    c.requires.position

pub returns-clause-chosen : goal.returns-clause-chosen
returns-clause-chosen g c =
    let own = c.args.game.now in
    let copy = c.in_ok-here.here in
    let here = c.stand_at.new.game in
    let p = c.args.position.now in
    let brings = g.S.Finder.brings c.args.finder.now in
    let trials = c.in_ok-trials.trials.items in
    subst (λ (choice : Choice). Chooses brings c.args.budget own p choice)
    (sym (c.choice_by.ensures
    ∙ ap (λ (ts : List Trial). choice_by p.turn ts c.args.lowest) c.deref.ensures.value))
    (chooses_tried brings c.args.budget own here p
    (stands_by own copy here p (rules_copied own copy c.in_ok-here.ensures) c.stand_at.ensures)
    c.requires.begins c.requires.going c.args.lowest c.requires.lowest trials
    c.in_ok-trials.ensures.trials)
