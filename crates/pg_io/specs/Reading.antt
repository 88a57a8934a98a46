-- Reading a file, and storing one.
use Rattle.std.specs.Prelude.{◌≡◌, ℕ, ◌+◌, ◌++◌, take, Option, Some, None, Result, Ok, Err, ⊤}
use Rattle.pg_io.specs.declared.stop.Stop.{Stop}
use Rattle.pg_io.specs.Files.{Bytes, Holding, Making, Stores, MayStore}

-- all these bytes, but at most one more than the limit
abbrev pub IsWhole : Option Bytes → ℕ → Bytes → Type 0
IsWhole None limit bytes = ⊥
IsWhole (Some all) limit bytes = bytes ≡ take (limit + 1) all

-- the bytes that the name holds, but at most one more than the limit
abbrev pub IsFile : Option Holding → Bytes → ℕ → Bytes → Type 0
IsFile None name limit bytes = ⊤
IsFile (Some held) name limit bytes = IsWhole (held name) limit bytes

-- what took bytes on its way to one state has taken these behind them in another
abbrev pub Goes : {S : Type 0} → (S → S → Bytes → Type 0) → S → S → Bytes → Type 0
Goes {S} took before after text =
    (first : S) (bytes : Bytes) → took first before bytes → took first after (bytes ++ text)

-- it takes the bytes that the name holds, but at most one more than the limit
abbrev pub Pours : {S : Type 0}
    → Option Holding
    → Bytes
    → ℕ
    → (S → S → Bytes → Type 0)
    → S
    → S
    → Type 0
Pours None name limit took before after = ⊤
Pours (Some held) name limit took before after =
    (text : Bytes) × IsWhole (held name) limit text × Goes took before after text

-- the file is stored where the work is done; where it ended before, it is stored or it isn't
abbrev pub Stored : Option Holding → Option Holding → Making → Result (Unit {0}) Stop → Type 0
Stored None after file result = ⊤
Stored (Some held) None file result = ⊥
Stored (Some held) (Some after) file (Ok _) = Stores held file after
Stored (Some held) (Some after) file (Err _) = MayStore held file after
