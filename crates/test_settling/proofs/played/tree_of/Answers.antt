use Rattle.std.proofs.Common.{subst, sym}
use Rattle.pg_cert.specs.Limits.{IsWithinLimits}
use Rattle.pg_cert.specs.declared.cert.Cert.{Cert}
use Rattle.test_settling.proofs.played.tree_of.Goals as goal

pub check-requires : goal.check-requires
check-requires c = rw c.in-Class.is at c.in_ok-solution.ensures.limits

pub play_tree-requires : goal.play_tree-requires
play_tree-requires c = subst (λ (cert : Cert). IsWithinLimits cert) (sym c.in-Ok.ensures.cert)
    (rw c.in-Class.is at c.in_ok-solution.ensures.limits)
