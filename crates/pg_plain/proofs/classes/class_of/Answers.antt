use Rattle.std.proofs.Common.{◌∙◌, ap}
use Rattle.pg_game.specs.Value.{value}
use Rattle.pg_plain.proofs.ClassLaws.{class_of-values}
use Rattle.pg_plain.proofs.classes.class_of.Goals as goal

pub returns-clause-class : goal.returns-clause-class
returns-clause-class c = c.by_values.ensures
    ∙ class_of-values c.args.g.now c.value-with_x.result c.value-with_y.result
    (c.value-with_x.ensures.value ∙ ap (value c.args.g.now) c.with_turn.ensures)
    (c.value-with_y.ensures.value ∙ ap (value c.args.g.now) c.with_turn-2.ensures)
