use Rattle.std.proofs.Common.{◌∙◌, Option, subst, sym}
use Rattle.pg_drawing.proofs.Common.{Holding, evidence_held}
use Rattle.pg_drawing.specs.Due.{Finds, IsFormDue}
use Rattle.pg_drawing.proofs.Found.{node_drawn, other_drawn}
use Rattle.pg_drawing.proofs.telling.tell_node_of.Goals as goal

pub returns-then-begins_otherwise-clause-found : goal.returns-then-begins_otherwise-clause-found
returns-then-begins_otherwise-clause-found g c =
    let name = c.args.certificate.now in
    other_drawn c.args.look name c.args.name (g.F.Files.told c.args.files.now).held
    c.args.game.now c.in-Err.halt c.in-Err.ensures.opened
    (sym c.begins_otherwise.ensures ∙ c.if-begins_otherwise.true) c.tell_node_in.result
    (subst (λ (h : Option Holding). Finds h
    (λ held. IsFormDue c.args.look c.args.game.now c.args.name (evidence_held (held name)))
    c.tell_node_in.result) c.in-Err.ensures.kept.held c.tell_node_in.ensures.found)

pub returns-in_ok-tell_certificate-in-Ok-clause-found :
    goal.returns-in_ok-tell_certificate-in-Ok-clause-found
returns-in_ok-tell_certificate-in-Ok-clause-found g c = node_drawn c.args.look
    c.args.certificate.now c.args.name (g.F.Files.told c.args.files.now).held c.args.game.now
    c.in-Ok.cert c.in_ok-tell_certificate-in-Ok.field-0 c.in-Ok.ensures.opened
    c.in_ok-tell_certificate-in-Ok.ensures
