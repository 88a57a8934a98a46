use Rattle.std.proofs.Common.{sym, subst}
use Rattle.pg_leaf.specs.Ahead.{IsKnownAt}
use Rattle.pg_leaf.specs.declared.ahead.Next.{Next}
use Rattle.pg_leaf.proofs.criteria.attack_with.Goals as goal

pub returns-in-Quiet-clause-found : goal.returns-in-Quiet-clause-found
returns-in-Quiet-clause-found c = sym
    (subst (λ (n : Next). IsKnownAt c.args.b.now.game c.args.b.now.stand.position n) c.in-Quiet.is
    c.requires.known c.requires.going)

pub attack_after-requires-clause-known : goal.attack_after-requires-clause-known
attack_after-requires-clause-known c =
    subst (λ (n : Next). IsKnownAt c.args.b.now.game c.args.b.now.stand.position n) c.in-Line.is
    c.requires.known c.requires.going
