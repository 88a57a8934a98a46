use Rattle.std.proofs.Common.{◌≡◌, ◌&&◌, not, ltb, ap, ◌∙◌}
use Rattle.std.specs.FinSet.{contains}
use Rattle.pg_game.specs.Game.{point_count}
use Rattle.pg_game.proofs.FreeSets.{len-free_points, regrouped}
use Rattle.pg_game.proofs.game.Game.free_points.Goals as goal

pub returns-clause-count : goal.returns-clause-count
returns-clause-count c = len-free_points c.args.self.now c.args.p.now c.without-2.result
    (λ v. c.without-2.ensures.members v
    ∙ ap (λ b. b && not (contains c.args.p.now.y v)) (c.without.ensures.members v
    ∙ ap (λ b. b && not (contains c.args.p.now.x v))
    (c.all_below.ensures v ∙ ap (ltb v) c.points.ensures.count))
    ∙ regrouped (ltb v (point_count c.args.self.now)) (not (contains c.args.p.now.x v))
    (not (contains c.args.p.now.y v)))
