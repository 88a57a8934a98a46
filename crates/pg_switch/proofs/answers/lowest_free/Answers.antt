use Rattle.std.proofs.Common.{ℕ, unwrap_or, ap, ◌∙◌}
use Rattle.pg_switch.proofs.Common.{find, range_with_len, is_free}
use Rattle.pg_switch.proofs.answers.lowest_free.Goals as goal

pub returns : goal.returns
returns c = c.or_lowest.ensures
    ∙ ap (λ (n : ℕ). unwrap_or (find (is_free c.args.p.now) (range_with_len 0 n)) 0)
    c.edge_count.ensures
