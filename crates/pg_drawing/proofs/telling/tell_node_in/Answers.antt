use Rattle.pg_drawing.proofs.Causes.{inner_caused, inner_read}
use Rattle.pg_drawing.proofs.Found.{form_drawn}
use Rattle.pg_drawing.proofs.telling.tell_node_in.Goals as goal

pub returns-clause-found : goal.returns-clause-found
returns-clause-found g c = form_drawn c.args.look c.args.certificate.now c.args.name
    (g.F.Files.told c.args.files.now).held c.args.game.now c.in_ok-evidence.evidence
    c.in_ok-evidence.ensures.opened c.tell_evidence.result c.tell_evidence.ensures.found

pub returns-clause-halts : goal.returns-clause-halts
returns-clause-halts g c = inner_read c.tell_evidence.result c.tell_evidence.ensures.halts

pub returns-clause-causes : goal.returns-clause-causes
returns-clause-causes g c = inner_caused _ _ _ c.tell_evidence.result c.tell_evidence.ensures.halts
    c.in_ok-evidence.ensures.causes
