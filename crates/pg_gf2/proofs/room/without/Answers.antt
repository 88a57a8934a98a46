use Rattle.std.proofs.Common.{ap, ◌∙◌}
use Rattle.pg_gf2.proofs.Common.{FinSet, contains, nat_cmp, contains-remove_minus}
use Rattle.pg_gf2.proofs.room.without.Goals as goal

pub returns : goal.returns
returns c = ap (λ (s : FinSet nat_cmp). contains s) c.take.ensures
    ∙ contains-remove_minus c.args.set.now c.args.d
