use Rattle.std.proofs.Common.{◌≡◌, ◌∙◌, Bool, true, false, Result, Err, Option, None, sym, ap}
use Rattle.std.proofs.Common.{subst}
use Rattle.std.specs.Prelude.{if◌then◌else◌}
use Rattle.pg_cert_lines.proofs.Common.{Version, Node, Part, Gives, Bytes}
use Rattle.pg_cert_lines.specs.Form.{has_bar}
use Rattle.pg_cert_lines.specs.NodeLine.{node_line}
use Rattle.pg_cert_lines.specs.Outline.{outline_of, node_part}
use Rattle.pg_cert_lines.specs.declared.fault.Fault.{Fault}
use Rattle.pg_cert_lines.specs.declared.fault.Fault.TheVariants as faults
use Rattle.pg_cert_lines.proofs.Outlines.{line_read, line_fault}
use Rattle.pg_cert_lines.proofs.line.node_line.Goals as goal

pub returns-in-Some : goal.returns-in-Some
returns-in-Some c = subst (λ (r : Result Node Fault).
    Gives {A = Option Part} {B = Option Part} (λ p. p) c.read_node.result (node_part r))
    (sym (line_read c.args.version c.args.line.now _ (sym c.in-Some.ensures))) c.read_node.ensures

-- the fault of a line that has no outline: without a bar it stands in the wrong place
fault-of : (version : Version) (line : Bytes) (bar : Bool)
    → outline_of version line ≡ None
    → has_bar line ≡ bar
    → node_part (node_line version line) ≡ Err (if bar then faults.Form else faults.Place)
fault-of version line bar none is = ap node_part (line_fault version line none)
    ∙ ap (λ (b : Bool). Err (if b then faults.Form else faults.Place)) is

pub returns-in-None : goal.returns-in-None
returns-in-None c = fault-of c.args.version c.args.line.now true (sym c.in-None.ensures)
    (sym c.has_bar.ensures ∙ c.if-has_bar.true)

pub returns-in-None-2 : goal.returns-in-None-2
returns-in-None-2 c = fault-of c.args.version c.args.line.now false (sym c.in-None.ensures)
    (sym c.has_bar.ensures ∙ c.if-has_bar.false)
