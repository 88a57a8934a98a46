-- A certificate as a file says it: with plain nodes alone, or with nodes that are images of others.
use Rattle.std.specs.Prelude.{ℕ, Bool, false, if◌then◌else◌, List, [], ◌∷◌, Option, Result, Ok, ⊤}
use Rattle.pg_evidence.specs.Prelude.{bytes_eq, and_then, lines, Bytes, Holding, IsWithinLimits}
use Rattle.pg_evidence.specs.Prelude.{certificate, number_of, Fault, IsImageWithinLimits}
use Rattle.pg_evidence.specs.Prelude.{image_header, image_certificate, IsReadHalt, Opens}
use Rattle.pg_evidence.specs.Prelude.{certificate_fault, held_as, or_halt, Halt, Refused, Stopped}
use Rattle.pg_io.specs.declared.stop.Stop.TheVariants.{Read, Write, Memory}
use Rattle.pg_evidence.specs.declared.evidence.Evidence.{Evidence}
use Rattle.pg_evidence.specs.declared.evidence.Evidence.TheVariants.{Plain, Folded}

-- the first of these lines is that of a certificate with images
abbrev pub begins_with_images : List Bytes → Bool
begins_with_images [] = false
begins_with_images (line ∷ others) = bytes_eq line image_header

-- a text is read as a certificate with images where its first line is that of one
abbrev pub has_images : Bytes → Bool
has_images text = begins_with_images (lines text)

-- the certificate of a text, in the form of its first line, or its first fault with the number of
-- the line
abbrev pub evidence : Bytes → Result Evidence (Fault × ℕ)
evidence text = if has_images text
    then and_then (image_certificate text) (λ c. Ok (Folded c))
    else and_then (certificate text) (λ c. Ok (Plain c))

-- the certificate that a name holds, or what stands against it
abbrev pub evidence_held : Option Bytes → Result Evidence Halt
evidence_held o = held_as
    (λ text. or_halt (λ fault. certificate_fault (number_of fault.0) fault.1) (evidence text)) o

-- it is within the limits of its form
abbrev pub IsWithinItsLimits : Evidence → Type 0
IsWithinItsLimits (Plain c) = IsWithinLimits c
IsWithinItsLimits (Folded c) = IsImageWithinLimits c

-- where it is told what the names hold, this is what one says
abbrev pub OpensEvidence : Option Holding → Bytes → Result Evidence Halt → Type 0
OpensEvidence h name r = Opens (λ x. x) evidence_held h name r

-- what can end work on what was read: what stands against it, or want of memory
abbrev pub IsInnerHalt : Halt → Type 0
IsInnerHalt (Refused refusal) = IsReadHalt (Refused refusal)
IsInnerHalt (Stopped Read) = ⊥
IsInnerHalt (Stopped Write) = ⊥
IsInnerHalt (Stopped Memory) = ⊤
