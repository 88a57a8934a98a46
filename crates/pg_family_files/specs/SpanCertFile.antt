-- Certificate files of connectivity games: which line is due, what each line adds, and the first
-- fault.
use Rattle.std.specs.Prelude.{ℕ, ◌+◌, ◌==◌, nat_lt, nat_le, if◌then◌else◌, List, [], ◌∷◌, ◌++◌}
use Rattle.std.specs.Prelude.{length, Option, Some, None, Result, Ok, Err, codes}
use Rattle.pg_family_files.specs.Prelude.{bytes_eq, and_then, reading, Bytes, lines, MAX_CLAIMS}
use Rattle.pg_family_files.specs.Prelude.{SpanCert, SpanClaim}
use Rattle.pg_family_files.specs.SpanCertLine.{head_of, body_of}
use Rattle.pg_family_files.specs.declared.cert_draft.Due.{Due}
use Rattle.pg_family_files.specs.declared.cert_draft.Due.TheVariants as due
use Rattle.pg_family_files.specs.declared.cert_fault.Fault.{Fault}
use Rattle.pg_family_files.specs.declared.cert_fault.Fault.TheVariants as faults
use Rattle.pg_family_files.specs.declared.cert_limits.TheConstants.{MAX_SPAN_CERT_BYTES}
use Rattle.pg_family_files.specs.declared.cert_line.Head.{Head}

-- what the lines so far have said
pub record Draft : Type 0 where
  -- which line is due
  pub due : Due
  -- the claims that are whole
  pub claims : List SpanClaim

-- before the first line
abbrev pub nothing : Draft
nothing = record { due = due.Header; claims = [] }

-- the first line
abbrev pub header_line : Draft → Bytes → Result Draft Fault
header_line d line = if bytes_eq line (codes "posgame-span-cert 1")
    then Ok (record d { due = due.Claim })
    else Err faults.Header

-- a claim line of the right form: the ninth is too many
abbrev pub claimed : Draft → Option Head → Result Draft Fault
claimed d None = Err faults.Form
claimed d (Some head) = if nat_le MAX_CLAIMS (length d.claims)
    then Err faults.Limit
    else Ok (record d { due = due.Body head })

-- where a claim line is due
abbrev pub claim_line : Draft → Bytes → Result Draft Fault
claim_line d line = claimed d (head_of line)

-- where the body of a claim is due
abbrev pub body_line : Head → Draft → Bytes → Result Draft Fault
body_line head d line = and_then (body_of line) (λ body. Ok (record {
  due = due.Claim;
  claims = d.claims ++ record { turn = head.turn; side = head.side; body = body } ∷ [];
}))

-- a line, by which one is due
abbrev pub line_due : Due → Draft → Bytes → Result Draft Fault
line_due due.Header = header_line
line_due due.Claim = claim_line
line_due (due.Body head) = body_line head

-- what the lines have said with one line more, or its fault
unfoldable pub after : Draft → Bytes → Result Draft Fault
after d line = line_due d.due d line

-- the fault of a file that ends where this line is due
abbrev pub end_of : Due → ℕ → Option Fault
end_of due.Header claims = Some faults.Header
end_of due.Claim claims = if claims == 0 then Some faults.Form else None
end_of (due.Body head) claims = Some faults.Form

abbrev pub end_fault : Draft → Option Fault
end_fault d = end_of d.due (length d.claims)

-- the certificate, unless the end has a fault, which is named at this number
abbrev pub ended : ℕ → Draft → Option Fault → Result SpanCert (Fault × ℕ)
ended number d None = Ok (record { claims = d.claims })
ended number d (Some fault) = Err (fault, number)

-- what the lines say: the first faulty line decides, and else the end, which stands behind the last
-- line
abbrev pub said : List Bytes → Result SpanCert (Fault × ℕ)
said ls = and_then (reading after 1 nothing ls) (λ d. ended (length ls + 1) d (end_fault d))

-- the certificate of a file, or its first fault with the number of the line
unfoldable pub span_cert : Bytes → Result SpanCert (Fault × ℕ)
span_cert text =
    if nat_lt MAX_SPAN_CERT_BYTES (length text) then Err (faults.Size, 0) else said (lines text)
