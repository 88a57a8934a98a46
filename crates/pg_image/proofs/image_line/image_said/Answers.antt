use Rattle.std.proofs.Common.{subst}
use Rattle.pg_image.proofs.Common.{Gives, Node}
use Rattle.std.proofs.lemmas.Result.{err_from_is_err_and}
use Rattle.pg_image.specs.ImageLine.{image_by}
use Rattle.pg_image.specs.Views.{line_view}
use Rattle.pg_image.proofs.ImageRead.{fails_so, says_so}
use Rattle.pg_image.proofs.image_line.image_said.Goals as goal

pub returns-in_err-node : goal.returns-in_err-node
returns-in_err-node c =
    let p = err_from_is_err_and c.from_residual.result c.from_residual.ensures.1 in
    rw (p.1, p.2)
    (fails_so (line_view c.args.line) c.in-Some.turn c.in_err-node.field-0.0 c.in-Some.ensures
    c.in_err-node.ensures)

pub returns : goal.returns
returns c =
    let same = says_so (line_view c.args.line) c.in-Some.turn c.read_node.result
    c.in_ok-node.field-0 c.in-Some-Node.field-0 c.in-Some-Node.node c.in-Some.ensures
    c.in_ok-node.was c.in-Some-Node.is c.in-Some-Node.field-0-is c.read_node.ensures in
    rw same
    (subst (λ (n : Node). Gives (λ x. x) c.image_of.result (image_by n n.body)) c.into_node.ensures
    c.image_of.ensures)
