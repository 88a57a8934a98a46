-- What the lines say is what the file says.
use Rattle.std.proofs.Common.{◌≡◌, ℕ, ◌+◌, ◌<◌, ◌≤◌, false, List, length, Result, Ok, Err, refl}
use Rattle.std.proofs.Common.{arith}
use Rattle.std.specs.Prelude.{◌==◌, nat_lt}
use Rattle.pg_family_files.proofs.Common.{nat_tests, and_then, reading, Bytes, lines, FileError}
use Rattle.pg_family_files.proofs.Common.{SpanClaim}
use Rattle.pg_text.specs.Faults.{IsReadAs as IsReadBy}
use Rattle.pg_text.specs.declared.error.FileError.TheVariants.{Bad, Memory}
use Rattle.pg_family_files.specs.SpanCertFile.{Draft, nothing, after, end_fault, ended, said}
use Rattle.pg_family_files.specs.SpanCertFile.{span_cert}
use Rattle.pg_family_files.specs.SpanCertViews.{number_of}
use Rattle.pg_family_files.specs.declared.cert_draft.Due.TheVariants as due
use Rattle.pg_family_files.specs.declared.cert_fault.Fault.{Fault}

-- a file that isn't too large
pub fits_file : (text : Bytes) → length text ≤ 4194304 → span_cert text ≡ said (lines text)
unfolding span_cert
fits_file text few =
    let t : nat_lt 4194304 (length text) ≡ false = grind (arith, nat_tests, few) in
    rw t refl

-- lines without a fault
pub said_is : (ls : List Bytes) (d : Draft)
    → reading after 1 nothing ls ≡ Ok d
    → said ls ≡ ended (length ls + 1) d (end_fault d)
said_is ls d e = rw e refl

-- the end behind a whole claim
pub ends_well : (cs : List SpanClaim) (n : ℕ)
    → 0 < length cs
    → ended n (record {
      due = due.Claim;
      claims = cs;
    }) (end_fault (record { due = due.Claim; claims = cs })) ≡ Ok (record { claims = cs })
ends_well cs n some = let t : (length cs == 0) ≡ false = grind (arith, nat_tests, some) in rw t refl

-- a fault of the lines is that of the file
pub carried : {X S Y : Type 0} (error : FileError) (seen : X → S) (total : Result S (Fault × ℕ))
    (next : S → Result Y (Fault × ℕ))
    → IsReadBy number_of seen (Err error) total
    → IsReadBy number_of (λ (y : Y). y) (Err error) (and_then total next)
carried Memory seen total next h = tt
carried (Bad number line) seen (Ok s) next h = absurd h
carried (Bad number line) seen (Err bad) next h = h
