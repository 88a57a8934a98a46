use Rattle.std.proofs.Common.{ℕ, Bool, ap, ◌∙◌}
use Rattle.pg_plain.proofs.Common.{contains, minus}
use Rattle.pg_base.proofs.PointSetLaws.{contains-remove_minus}
use Rattle.pg_plain.proofs.private_pairs.left_by.Goals as goal

pub returns : goal.returns
returns c = ap contains c.take-2.ensures
    ∙ contains-remove_minus c.take.new.self c.args.b
    ∙ ap (λ (s : ℕ → Bool). minus s c.args.b)
    (ap contains c.take.ensures ∙ contains-remove_minus c.args.free.now c.args.a)
