-- Certificate files of version 3: which line is due, what each line adds, and the first fault. All
-- lines but the first and those of images are read as in version 2.
use Rattle.std.specs.Prelude.{ℕ, ◌+◌, nat_lt, if◌then◌else◌, List, [], ◌∷◌, ◌++◌, length, Option}
use Rattle.std.specs.Prelude.{Some, None, Result, Ok, Err}
use Rattle.pg_image.specs.Prelude.{bytes_eq, and_then, reading, Bytes, lines, Two, Part}
use Rattle.pg_cert.specs.declared.part.Part.TheVariants as parts
use Rattle.pg_image.specs.Prelude.{start, behind, step, end_fault, Fault}
use Rattle.pg_cert_lines.specs.declared.fault.Fault.TheVariants as faults
use Rattle.pg_image.specs.Prelude.{Head, MAX_CERT_BYTES, Due}
use Rattle.pg_cert_files.specs.declared.progress.Due.TheVariants as due
use Rattle.pg_cert_files.specs.declared.progress.Progress.{Progress}
use Rattle.pg_image.specs.Print.{image_header}
use Rattle.pg_image.specs.declared.cert.ImageCert.{ImageCert}
use Rattle.pg_image.specs.declared.cert.ImageClaim.{ImageClaim}
use Rattle.pg_image.specs.declared.node.ImageNode.{ImageNode}
use Rattle.pg_image.specs.declared.node.ImageNode.TheVariants.{Plain}
use Rattle.pg_image.specs.ImageLine.{ImageLine, image_line, image_said}

-- what the lines so far have said
pub record Draft : Type 0 where
  -- which line is due, and how many claims and nodes have been told
  pub progress : Progress
  -- the claims that are whole
  pub whole : List ImageClaim
  -- what the claim says whose nodes are gathered, where there is one
  pub head : Option Head
  -- its nodes so far
  pub nodes : List ImageNode

-- before the first line
abbrev pub nothing : Draft
nothing = record { progress = start; whole = []; head = None; nodes = [] }

-- the claim whose nodes are gathered, where there is one
abbrev pub last_claim : Option Head → List ImageNode → List ImageClaim
last_claim None nodes = []
last_claim (Some head) nodes = record {
  turn = head.turn;
  side = head.side;
  goal = head.goal;
  nodes = nodes;
} ∷ []

-- the claims with the last one
abbrev pub closed : Draft → List ImageClaim
closed d = d.whole ++ last_claim d.head d.nodes

-- the first line names version 3; the lines behind it are due as in version 2
abbrev pub header_line : Draft → Bytes → Result Draft Fault
header_line d line = if bytes_eq line image_header
    then Ok (record d { progress = record d.progress { due = due.Claim; version = Two } })
    else Err faults.Header

-- one node more
abbrev pub with_node : Draft → Progress → ImageNode → Draft
with_node d p node = record d { progress = p; nodes = d.nodes ++ node ∷ [] }

-- what a line of version 2 adds: a claim ends the one before it
abbrev pub with_part : Draft → Progress → Option Part → Draft
with_part d p None = record d { progress = p }
with_part d p (Some (parts.Claim turn side goal nodes)) = record {
  progress = p;
  whole = closed d;
  head = Some (record { turn = turn; side = side; goal = goal });
  nodes = [];
}
with_part d p (Some (parts.Node node)) = with_node d p (Plain node)

-- a line as in version 2
abbrev pub plain_line : Draft → Bytes → Result Draft Fault
plain_line d line = and_then (step d.progress line) (λ next. Ok (with_part d next.0 next.1))

-- the line of an image where a node is due, behind which so many others stand
abbrev pub image_added : ℕ → Draft → ImageLine → Result Draft Fault
image_added others d l = and_then (image_said l)
    (λ node. Ok (with_node d (record d.progress { due = behind others }) node))

-- the line of a node, which may be that of an image
abbrev pub node_added : ℕ → Draft → Bytes → Option ImageLine → Result Draft Fault
node_added others d line None = plain_line d line
node_added others d line (Some l) = image_added others d l

-- a line, by which one is due
abbrev pub line_due : Due → Draft → Bytes → Result Draft Fault
line_due due.Header d line = header_line d line
line_due due.Claim d line = plain_line d line
line_due (due.Count head) d line = plain_line d line
line_due (due.Node others) d line = node_added others d line (image_line line)

-- what the lines have said with one line more, or its fault
unfoldable pub after : Draft → Bytes → Result Draft Fault
after d line = line_due d.progress.due d line

-- the certificate, unless the end has a fault, which is named at this number
abbrev pub ended : ℕ → Draft → Option Fault → Result ImageCert (Fault × ℕ)
ended number d None = Ok (record { claims = closed d })
ended number d (Some fault) = Err (fault, number)

-- what the lines say: the first faulty line decides, and else the end, which stands behind the last
-- line
abbrev pub said : List Bytes → Result ImageCert (Fault × ℕ)
said ls = and_then (reading after 1 nothing ls)
    (λ d. ended (length ls + 1) d (end_fault d.progress d.progress.due))

-- the certificate of a file, or its first fault with the number of the line
unfoldable pub image_certificate : Bytes → Result ImageCert (Fault × ℕ)
image_certificate text =
    if nat_lt MAX_CERT_BYTES (length text) then Err (faults.Size, 0) else said (lines text)
