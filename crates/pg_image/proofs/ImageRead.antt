-- The line of an image that is read as that of a move.
use Rattle.std.proofs.Common.{◌≡◌, Option, Some, Result, Ok, Err, sym, ap, subst, ◌∙◌}
use Rattle.pg_image.proofs.Common.{Node, Part}
use Rattle.pg_cert.specs.declared.part.Part.TheVariants as part
use Rattle.pg_text.specs.Faults.{Fails, Gives, and_then}
use Rattle.pg_text.specs.declared.error.LineError.{LineError}
use Rattle.pg_text.specs.declared.error.LineError.TheVariants as errors
use Rattle.pg_image.proofs.Common.{Shape, turn_of, formed, Fault}
use Rattle.pg_cert_lines.specs.Outline.{read_node, node_part}
use Rattle.pg_cert_lines.specs.declared.form.Form.TheVariants as forms
use Rattle.pg_cert_lines.specs.declared.turn.Turn.{Turn}
use Rattle.pg_cert_lines.proofs.Outlines.{node_formed}
use Rattle.pg_image.specs.declared.node.ImageNode.{ImageNode}
use Rattle.pg_image.specs.ImageLine.{ImageLine, with_turn, image_by, image_said}

abbrev pub outline : ImageLine → Turn → Shape
outline l turn = record { x = l.x; y = l.y; turn = turn; form = forms.Move; words = l.words }

abbrev pub image_from : Result Node Fault → Result ImageNode Fault
image_from read = and_then read (λ n. image_by n n.body)

said_is : (l : ImageLine) (turn : Turn)
    → Some turn ≡ turn_of l.turn
    → image_said l ≡ image_from (read_node (outline l turn))
said_is l turn is =
    ap (λ (o : Option Turn). image_from (formed (with_turn l o))) (sym is)
    ∙ ap image_from (sym (node_formed l.x l.y turn (Some forms.Move) l.words))

fails_too : (error : LineError Fault) (read : Result Node Fault)
    → Fails error (node_part read)
    → Fails error (image_from read)
fails_too errors.Memory read h = tt
fails_too (errors.Fault fault) (Ok node) h = absurd (cc h)
fails_too (errors.Fault fault) (Err other) h =
    let same : other ≡ fault = cc in
    ap (λ (f : Fault). Err f) same

-- where reading fails
pub fails_so : (l : ImageLine) (turn : Turn) (error : LineError Fault)
    → Some turn ≡ turn_of l.turn
    → Fails error (node_part (read_node (outline l turn)))
    → Fails error (image_said l)
fails_so l turn error is h = rw (said_is l turn is) (fails_too error (read_node (outline l turn)) h)

abbrev node_or : Node → Result (Option Part) Fault → Node
node_or n (Ok (Some (part.Node m))) = m
node_or n _ = n

is_node : (read : Result Node Fault) (node : Node)
    → node_part read ≡ Ok (Some (part.Node node))
    → read ≡ Ok node
is_node (Ok m) node e = ap (λ (n : Node). Ok n) (ap (node_or m) e)
is_node (Err fault) node e = absurd cc

gives_node : (answer : Result (Option Part) (LineError Fault)) (o : Option Part) (p : Part)
    (node : Node) (read : Result (Option Part) Fault)
    → answer ≡ Ok o
    → o ≡ Some p
    → p ≡ part.Node node
    → Gives (λ x. x) answer read
    → read ≡ Ok (Some (part.Node node))
gives_node answer o p node read e f g h =
    subst (λ (r : Result (Option Part) (LineError Fault)). Gives (λ x. x) r read) e h
    ∙ ap (λ (x : Option Part). Ok x) (f ∙ ap (λ (x : Part). Some x) g)

-- where a node is read
pub says_so : (l : ImageLine) (turn : Turn) (answer : Result (Option Part) (LineError Fault))
    (o : Option Part) (p : Part) (node : Node)
    → Some turn ≡ turn_of l.turn
    → answer ≡ Ok o
    → o ≡ Some p
    → p ≡ part.Node node
    → Gives (λ x. x) answer (node_part (read_node (outline l turn)))
    → image_said l ≡ image_by node node.body
says_so l turn answer o p node is e f g h = said_is l turn is
    ∙ ap image_from (is_node (read_node (outline l turn)) node
    (gives_node answer o p node (node_part (read_node (outline l turn))) e f g h))
