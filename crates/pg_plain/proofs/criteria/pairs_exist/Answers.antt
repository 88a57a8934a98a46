use Rattle.std.proofs.Common.{ap, sym, ◌∙◌}
use Rattle.pg_game.specs.Position.{points_of}
use Rattle.pg_plain.proofs.CriteriaLaws.{no_lines, unpairable, pairs-are}
use Rattle.pg_plain.proofs.criteria.pairs_exist.Goals as goal

pub returns-then-not-has_lines : goal.returns-then-not-has_lines
returns-then-not-has_lines c = sym (no_lines c.args.g.now c.args.p.now c.args.side
    (sym c.has_lines.ensures ∙ c.if-not-has_lines.true))

pub returns-then-not-avoider_can_pair : goal.returns-then-not-avoider_can_pair
returns-then-not-avoider_can_pair c = sym (unpairable c.args.g.now c.args.p.now c.args.side
    (sym c.has_lines.ensures ∙ c.if-not-has_lines.false)
    (sym c.avoider_can_pair.ensures ∙ c.if-not-avoider_can_pair.true))

pub returns : goal.returns
returns c = pairs-are c.args.g.now c.args.p.now c.args.side c.points_of-own.result.now
    c.free_points.result c.lines.result.now c.have_private_pairs.result
    (sym c.has_lines.ensures ∙ c.if-not-has_lines.false)
    (sym c.avoider_can_pair.ensures ∙ c.if-not-avoider_can_pair.false) c.lines.ensures.lines
    (c.points_of-own.ensures ∙ ap (points_of c.args.p.now) c.breaker_of.ensures)
    c.free_points.ensures.members c.have_private_pairs.ensures
