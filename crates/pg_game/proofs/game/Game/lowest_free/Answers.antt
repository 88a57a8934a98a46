use Rattle.std.proofs.Common.{ℕ, sym, ap, ◌∙◌}
use Rattle.std.specs.List.{find, range_with_len}
use Rattle.pg_game.specs.Position.{is_free}
use Rattle.pg_game.proofs.Lowest.{lowest-free}
use Rattle.pg_game.proofs.game.Game.lowest_free.Goals as goal

pub returns : goal.returns
returns c = c.lowest_free_below.ensures
    ∙ ap (λ (n : ℕ). find (is_free c.args.p.now) (range_with_len 0 n)) c.points.ensures.count
    ∙ sym (lowest-free c.args.self.now c.args.p.now)
