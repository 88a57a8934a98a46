use Rattle.std.proofs.Common.{◌∙◌, ap}
use Rattle.std.specs.List.{list_all, list_any}
use Rattle.pg_game.specs.Game.{is_filled, is_touched}
use Rattle.pg_split.proofs.Checked.{over_is}
use Rattle.pg_split.proofs.checking.is_over.Goals as goal

pub returns : goal.returns
returns c = over_is c.args.game.now c.args.position.now c.is_over_by.result
    c.fills_some-x_filled.result c.fills_some-y_filled.result c.touches_all-touched.result
    c.is_full-full.result (λ a b. c.is_over_by.ensures a b c.requires)
    (c.fills_some-x_filled.ensures
    ∙ ap (list_any (is_filled c.args.position.now.x)) c.lines-lines.ensures.lines)
    (c.fills_some-y_filled.ensures
    ∙ ap (list_any (is_filled c.args.position.now.y)) c.lines-lines.ensures.lines)
    (c.touches_all-touched.ensures
    ∙ ap (list_all (is_touched c.args.position.now.y)) c.lines-lines.ensures.lines)
    c.is_full-full.ensures
