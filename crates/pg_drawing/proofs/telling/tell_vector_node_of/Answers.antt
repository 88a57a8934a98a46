use Rattle.pg_drawing.proofs.Found.{vector_drawn}
use Rattle.pg_drawing.proofs.telling.tell_vector_node_of.Goals as goal

pub returns-clause-found : goal.returns-clause-found
returns-clause-found g c = vector_drawn c.args.look c.args.certificate.now c.args.name
    (g.F.Files.told c.args.files.now).held c.args.game.now c.in_ok-cert.cert
    c.in_ok-tell_vector_certificate.field-0 c.in_ok-cert.ensures.opened
    c.in_ok-tell_vector_certificate.ensures
