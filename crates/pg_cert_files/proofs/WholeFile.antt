-- A file that is read whole.
use Rattle.std.proofs.Common.{◌≡◌, ℕ, ◌<◌, ◌≤◌, true, false, List, [], ◌++◌, length, arith, refl}
use Rattle.std.proofs.Common.{Option, Some, None, Result, Ok, Err}
use Rattle.std.specs.Prelude.{fold, nat_lt, IsErrAnd}
use Rattle.pg_cert_files.proofs.Common.{nat_tests, fold-append, Bytes, Version, Part, Claim, Cert}
use Rattle.pg_cert_files.proofs.Common.{number_of, Fault}
use Rattle.pg_cert_files.specs.CertFile.{with_part, none_gathered, gathered, fault_of, text_version}
use Rattle.pg_cert_files.specs.CertFile.{text_parts, unless_faulty, certificate}
use Rattle.pg_cert_files.specs.Reader.{IsBad}
use Rattle.pg_cert_lines.specs.declared.fault.Fault.TheVariants as faults

pub gathered_none : gathered [] ≡ none_gathered
unfolding gathered
gathered_none = refl

pub gathered_more : (ps qs : List Part) → gathered (ps ++ qs) ≡ fold with_part (gathered ps) qs
unfolding gathered
gathered_more ps qs = fold-append with_part none_gathered ps qs

pub too_large : (text : Bytes) → 268435456 < length text → certificate text ≡ Err (faults.Size, 0)
unfolding certificate
too_large text more =
    let t : nat_lt 268435456 (length text) ≡ true = grind (arith, nat_tests) in
    rw t refl

pub fits_file : (text : Bytes)
    → length text ≤ 268435456
    → certificate text ≡ unless_faulty (fault_of text) (text_version text) (text_parts text)
unfolding certificate
fits_file text few =
    let t : nat_lt 268435456 (length text) ≡ false = grind (arith, nat_tests) in
    rw t refl

pub err_from : (o : Option (Fault × ℕ)) (version : Version) (ps : List Part) (number line : ℕ)
    → IsBad number line o
    → IsErrAnd (unless_faulty o version ps) (λ bad. (number ≡ number_of bad.0) × (line ≡ bad.1))
err_from None version ps number line h = absurd h
err_from (Some bad) version ps number line h = h

-- a file without a fault
abbrev pub cert_of : Version → List Claim → Result Cert (Fault × ℕ)
cert_of version cs = Ok (record { version = version; claims = cs })
