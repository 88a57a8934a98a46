-- Certificate files: which line is due, what each line adds, and the first fault.
use Rattle.std.specs.Prelude.{ℕ, ◌+◌, ◌-◌, ◌||◌, nat_lt, nat_le, ◌==◌, if◌then◌else◌, List, [], ◌∷◌}
use Rattle.std.specs.Prelude.{◌++◌, length, Option, Some, None, Result, Ok, Err, fold}
use Rattle.pg_cert_files.specs.Prelude.{and_then, Bytes, number, lines, Version, One, Part, Node}
use Rattle.pg_cert_files.specs.Prelude.{Claim, Cert, MAX_CLAIMS, MAX_CLAIM_NODES, MAX_NODES}
use Rattle.pg_cert_files.specs.Prelude.{has_bar, node_line, version_of, head_of, count_of, Fault}
use Rattle.pg_cert_files.specs.Prelude.{Head}
use Rattle.pg_cert_lines.specs.declared.fault.Fault.TheVariants as faults
use Rattle.pg_cert.specs.declared.part.Part.TheVariants as parts
use Rattle.pg_cert_files.specs.declared.progress.Due.{Due}
use Rattle.pg_cert_files.specs.declared.progress.Due.TheVariants as due
use Rattle.pg_cert_files.specs.declared.progress.Progress.{Progress}
use Rattle.pg_cert_files.specs.declared.limits.TheConstants.{MAX_CERT_BYTES}

-- what is due after a line, and the part that is whole with it
abbrev pub Step : Type 0
Step = Result (Progress × Option Part) Fault

-- before the first line
abbrev pub start : Progress
start = record { due = due.Header; version = One; claims = 0; nodes = 0 }

-- a first line, by the version that it names
abbrev pub headed : Progress → Option Version → Step
headed p None = Err faults.Header
headed p (Some version) = Ok (record p { due = due.Claim; version = version }, None)

-- the first line
abbrev pub header_step : Progress → Bytes → Step
header_step p line = headed p (version_of line)

-- a claim line of the right form: the ninth is too many
abbrev pub claimed : Progress → Option Head → Step
claimed p None = Err faults.Form
claimed p (Some head) = if nat_le MAX_CLAIMS p.claims
    then Err faults.Limit
    else Ok (record p { due = due.Count head; claims = p.claims + 1 }, None)

-- where a claim line or the end is due, a node stands in the wrong place
abbrev pub claim_step : Progress → Bytes → Step
claim_step p line = if has_bar line then Err faults.Place else claimed p (head_of line)

-- the number of nodes: 1 to 100,000, and at most 200,000 in the file
abbrev pub numbered : Head → Progress → Option ℕ → Step
numbered head p None = Err faults.Number
numbered head p (Some n) = if n == 0
    then Err faults.Number
    else if nat_lt MAX_CLAIM_NODES n || nat_lt MAX_NODES (p.nodes + n)
    then Err faults.Limit
    else Ok (
      record p { due = due.Node (n - 1); nodes = p.nodes + n },
      Some (parts.Claim head.turn head.side head.goal n),
    )

-- a `nodes` line of the right form
abbrev pub counted : Head → Progress → Option Bytes → Step
counted head p None = Err faults.Form
counted head p (Some word) = numbered head p (number word)

-- where a `nodes` line is due
abbrev pub count_step : Head → Progress → Bytes → Step
count_step head p line = counted head p (count_of line)

-- what is due after a node, behind which so many others stand
abbrev pub behind : ℕ → Due
behind others = if others == 0 then due.Claim else due.Node (others - 1)

-- where a node line is due
abbrev pub node_step : ℕ → Progress → Bytes → Step
node_step others p line = and_then (node_line p.version line)
    (λ node. Ok (record p { due = behind others }, Some (parts.Node node)))

-- a line, by which line is due
abbrev pub step_due : Due → Progress → Bytes → Step
step_due due.Header = header_step
step_due due.Claim = claim_step
step_due (due.Count head) = count_step head
step_due (due.Node others) = node_step others

-- the next line
unfoldable pub step : Progress → Bytes → Step
step p line = step_due p.due p line

-- what the lines so far have said
pub record Seen : Type 0 where
  pub progress : Progress
  -- how many lines, up to the first that is faulty
  pub count : ℕ
  pub fault : Option (Fault × ℕ)
  pub parts : List Part

-- before the first line
abbrev pub nothing : Seen
nothing = record { progress = start; count = 0; fault = None; parts = [] }

-- a part, where there is one
abbrev pub listed : Option Part → List Part
listed None = []
listed (Some part) = part ∷ []

-- one line more
abbrev pub taken : Seen → Step → Seen
taken s (Ok next) = record {
  progress = next.0;
  count = s.count + 1;
  fault = None;
  parts = s.parts ++ listed next.1;
}
taken s (Err fault) = record s { count = s.count + 1; fault = Some (fault, s.count + 1) }

-- the first faulty line decides: after it nothing changes
abbrev pub goes_on : Option (Fault × ℕ) → Seen → Bytes → Seen
goes_on None s line = taken s (step s.progress line)
goes_on (Some fault) s line = s

-- what the lines have said with one line more
unfoldable pub after : Seen → Bytes → Seen
after s line = goes_on s.fault s line

-- what lines say
unfoldable pub seen : List Bytes → Seen
seen ls = fold after nothing ls

-- the fault of a file that ends where this line is due
abbrev pub end_fault : Progress → Due → Option Fault
end_fault p due.Header = Some faults.Header
end_fault p due.Claim = if p.claims == 0 then Some faults.Form else None
end_fault p (due.Count head) = Some faults.Form
end_fault p (due.Node others) = Some faults.Place

-- a fault with the number of its line
abbrev pub at_number : ℕ → Option Fault → Option (Fault × ℕ)
at_number n None = None
at_number n (Some fault) = Some (fault, n)

-- the fault of a line, and else that of the end, which stands behind the last line
abbrev pub or_at_end : Seen → Option (Fault × ℕ) → Option (Fault × ℕ)
or_at_end s (Some fault) = Some fault
or_at_end s None = at_number (s.count + 1) (end_fault s.progress s.progress.due)

-- the first faulty line decides, and else the end
abbrev pub outcome : Seen → Option (Fault × ℕ)
outcome s = or_at_end s s.fault

-- the first fault of a text
unfoldable pub fault_of : Bytes → Option (Fault × ℕ)
fault_of text = outcome (seen (lines text))

-- the version of a text
unfoldable pub text_version : Bytes → Version
text_version text = (seen (lines text)).progress.version

-- the parts of a text
unfoldable pub text_parts : Bytes → List Part
text_parts text = (seen (lines text)).parts

-- claims that are whole, and one whose nodes are gathered
pub record Gathered : Type 0 where
  pub whole : List Claim
  pub head : Option Head
  pub nodes : List Node

-- the claim whose nodes are gathered, where there is one
abbrev pub last_claim : Option Head → List Node → List Claim
last_claim None nodes = []
last_claim (Some head) nodes = record {
  turn = head.turn;
  side = head.side;
  goal = head.goal;
  nodes = nodes;
} ∷ []

-- the claims with the last one
abbrev pub closed : Gathered → List Claim
closed g = g.whole ++ last_claim g.head g.nodes

-- one part more: a claim ends the one before it
abbrev pub with_part : Gathered → Part → Gathered
with_part g (parts.Claim turn side goal nodes) = record {
  whole = closed g;
  head = Some (record { turn = turn; side = side; goal = goal });
  nodes = [];
}
with_part g (parts.Node node) = record g { nodes = g.nodes ++ node ∷ [] }

-- no part yet
abbrev pub none_gathered : Gathered
none_gathered = record { whole = []; head = None; nodes = [] }

-- the parts as claims with their nodes
unfoldable pub gathered : List Part → Gathered
gathered ps = fold with_part none_gathered ps

-- a certificate of the version, where there is no fault
abbrev pub unless_faulty : Option (Fault × ℕ) → Version → List Part → Result Cert (Fault × ℕ)
unless_faulty (Some fault) version ps = Err fault
unless_faulty None version ps = Ok (record { version = version; claims = closed (gathered ps) })

-- the certificate of a file, or its first fault with the number of the line
unfoldable pub certificate : Bytes → Result Cert (Fault × ℕ)
certificate text = if nat_lt MAX_CERT_BYTES (length text)
    then Err (faults.Size, 0)
    else unless_faulty (fault_of text) (text_version text) (text_parts text)

-- the first fault of a file: C1 before all others
abbrev pub file_fault : Bytes → Option (Fault × ℕ)
file_fault text =
    if nat_lt MAX_CERT_BYTES (length text) then Some (faults.Size, 0) else fault_of text
