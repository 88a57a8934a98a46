-- What names hold: what a command reads under them, or what stands against it.
use Rattle.std.specs.Prelude.{◌≡◌, ℕ, Option, Some, None, Result, Ok, Err, ⊤}
use Rattle.pg_talk.specs.Prelude.{Bytes, Holding, Read, Cert, certificate}
use Rattle.pg_cert_lines.specs.Views.{number_of as certificate_fault_number}
use Rattle.pg_messages.specs.declared.refusal.Refusal.TheVariants.{Game as FaultyGame}
use Rattle.pg_messages.specs.declared.refusal.Refusal.TheVariants.{Certificate as FaultyCertificate}
use Rattle.pg_talk.specs.declared.halt.Halt.{Halt}
use Rattle.pg_talk.specs.declared.halt.Halt.TheVariants.{Refused, Stopped}

-- a name isn't held
abbrev pub lacking : Halt
lacking = Stopped Read

-- a file has a fault: the number of the fault and that of its line
abbrev pub game_fault : ℕ → ℕ → Halt
game_fault number line = Refused (FaultyGame number line)

abbrev pub certificate_fault : ℕ → ℕ → Halt
certificate_fault number line = Refused (FaultyCertificate number line)

-- what was read, or what its fault gives
abbrev pub or_halt : {T F : Type 0} → (F → Halt) → Result T F → Result T Halt
or_halt halt_of (Err fault) = Err (halt_of fault)
or_halt halt_of (Ok x) = Ok x

-- what a name holds, read so, or what stands against it
abbrev pub held_as : {T : Type 0} → (Bytes → Result T Halt) → Option Bytes → Result T Halt
held_as read None = Err lacking
held_as read (Some text) = read text

-- the certificate that a name holds, or what stands against it
abbrev pub certificate_held : Option Bytes → Result Cert Halt
certificate_held o = held_as
    (λ text. or_halt (λ fault. certificate_fault (certificate_fault_number fault.0) fault.1)
    (certificate text)) o

-- two things that were read, or what stands against the first of them
abbrev pub both : {A B : Type 0} → Result A Halt → Result B Halt → Result (A × B) Halt
both (Err halt) r = Err halt
both (Ok x) (Err halt) = Err halt
both (Ok x) (Ok y) = Ok (x, y)

-- ---- what the code has read

-- a result of the code is what there is to be read, seen so; where a call or memory has stopped it,
-- nothing is said
abbrev pub IsReadAs : {A B : Type 0} → (A → B) → Result B Halt → Result A Halt → Type 0
IsReadAs view read (Ok x) = read ≡ Ok (view x)
IsReadAs view read (Err (Refused refusal)) = read ≡ Err (Refused refusal)
IsReadAs view read (Err (Stopped stop)) = ⊤

-- where it is told what the names hold, this is what one of them says
abbrev pub Opens : {A B : Type 0}
    → (A → B)
    → (Option Bytes → Result B Halt)
    → Option Holding
    → Bytes
    → Result A Halt
    → Type 0
Opens view read None name r = ⊤
Opens view read (Some held) name r = IsReadAs view (read (held name)) r

-- the same of two names
abbrev pub OpensTwo : {A B : Type 0}
    → (A → B)
    → (Option Bytes → Option Bytes → Result B Halt)
    → Option Holding
    → Bytes
    → Bytes
    → Result A Halt
    → Type 0
OpensTwo view read None first second r = ⊤
OpensTwo view read (Some held) first second r = IsReadAs view (read (held first) (held second)) r

abbrev pub OpensCertificate : Option Holding → Bytes → Result Cert Halt → Type 0
OpensCertificate h name r = Opens (λ x. x) certificate_held h name r

-- it is told that a name that is wanted isn't held
abbrev pub IsLackingOne : {A : Type 0}
    → (Option Bytes → Result A Halt)
    → Option Holding
    → Bytes
    → Type 0
IsLackingOne read None name = ⊥
IsLackingOne read (Some held) name = read (held name) ≡ Err lacking

-- the same of two names
abbrev pub IsLackingTwo : {A : Type 0}
    → (Option Bytes → Option Bytes → Result A Halt)
    → Option Holding
    → Bytes
    → Bytes
    → Type 0
IsLackingTwo read None first second = ⊥
IsLackingTwo read (Some held) first second = read (held first) (held second) ≡ Err lacking
