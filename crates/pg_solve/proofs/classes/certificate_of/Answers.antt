use Rattle.pg_solve.proofs.Common.{IfOk-weaker, Cert}
use Rattle.pg_solve.proofs.EdgeNodes.{class-claims-told}
use Rattle.pg_solve.proofs.classes.certificate_of.Goals as goal

pub returns-clause-claims : goal.returns-clause-claims
returns-clause-claims c = IfOk-weaker _ _ _
    (λ (cert : Cert) is. class-claims-told c.args.game.now c.args.sets.now c.with_turn-with_x.result
    c.with_turn-with_y.result c.points.result cert.claims c.requires.switching c.requires.sets
    c.with_turn-with_x.ensures c.with_turn-with_y.ensures c.points.ensures.count is)
    c.class_certificate.ensures.claims
