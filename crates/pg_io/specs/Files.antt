-- What calls on files do, where it is told which bytes stand under which names.
use Rattle.std.specs.Prelude.{◌≡◌, ◌≢◌, ◌⊎◌, ℕ, Bool, [], ◌++◌, take, Option, Some, None, Result}
use Rattle.std.specs.Prelude.{Ok, Err, IsSome, ⊤}
pub use Rattle.pg_base.specs.Texts.{Bytes}
use Rattle.pg_io.specs.Causes.{Faults}

-- the bytes that a name holds; none where it isn't held
abbrev pub Holding : Type 0
Holding = Bytes → Option Bytes

-- a file that is being made: its name, and its bytes so far
abbrev pub Making : Type 0
Making = Bytes × Bytes

-- what is told of files: the bytes under each name, what is unread of the open file (nothing where
-- none is open), and the file that is being made, each where it is told; and always whether a file
-- is being made, and the numbers of faults
pub record FilesTold : Type 0 where
  pub held : Option Holding
  pub left : Option Bytes
  pub making : Option Making
  pub busy : Bool
  pub faults : Faults

-- what each name holds and the file that is being made stay
pub record ReadsOnly (before after : FilesTold) : Type 0 where
  pub held : after.held ≡ before.held
  pub making : after.making ≡ before.making
  pub busy : after.busy ≡ before.busy

-- an open that is done finds the name held, and has its bytes unread
abbrev pub Opens : {E : Type 0}
    → Option Holding
    → Bytes
    → Option Bytes
    → Result (Unit {0}) E
    → Type 0
Opens None name left result = ⊤
Opens (Some held) name left (Ok _) = (left ≡ held name) × IsSome (held name)
Opens (Some held) name left (Err _) = ⊤

-- the name is known not to be held
abbrev pub IsAbsent : Option Holding → Bytes → Type 0
IsAbsent None name = ⊥
IsAbsent (Some held) name = held name ≡ None

-- a read that is done moves the first unread bytes to the front of the buffer, none only where none
-- is left
abbrev pub Takes : {E : Type 0} → Option Bytes → Option Bytes → Bytes → Result ℕ E → Type 0
Takes None after buf result = ⊤
Takes (Some left) after buf (Err _) = ⊤
Takes (Some left) None buf (Ok k) = ⊥
Takes (Some left) (Some after) buf (Ok k) = (left ≡ take k buf ++ after) × (k ≡ 0 → left ≡ [])

-- a create that is done leaves an empty file of this name being made
abbrev pub Begins : Option Holding → Bytes → Option Making → Type 0
Begins None name making = ⊤
Begins (Some held) name making = making ≡ Some (name, [])

-- an append that is done adds these bytes to the file being made, which is told where it was, or
-- where it is told what the names hold
abbrev pub Adds : Option Holding → Option Making → Bytes → Option Making → Type 0
Adds None None bytes after = ⊤
Adds (Some held) None bytes after = IsSome after
Adds held (Some file) bytes after = after ≡ Some (file.0, file.1 ++ bytes)

-- the file's name holds its bytes, and other names hold what they held
pub record Stores (held : Holding) (file : Making) (after : Holding) : Type 0 where
  pub there : after file.0 ≡ Some file.1
  pub others : (name : Bytes) → name ≢ file.0 → after name ≡ held name

-- the file's name holds what it held or the file's bytes, and other names hold what they held
pub record MayStore (held : Holding) (file : Making) (after : Holding) : Type 0 where
  pub there : (after file.0 ≡ held file.0) ⊎ (after file.0 ≡ Some file.1)
  pub others : (name : Bytes) → name ≢ file.0 → after name ≡ held name

-- a finish that is done stores the file being made, whichever it is where that isn't told; one that
-- failed may have stored it
abbrev pub Finishes : {E : Type 0}
    → Option Holding
    → Option Making
    → Option Holding
    → Result (Unit {0}) E
    → Type 0
Finishes None making after result = after ≡ None
Finishes (Some held) None after (Ok _) =
    (held' : Holding) × (after ≡ Some held') × (file : Making) × Stores held file held'
Finishes (Some held) None after (Err _) =
    (held' : Holding) × (after ≡ Some held') × (file : Making) × MayStore held file held'
Finishes (Some held) (Some file) after (Ok _) =
    (held' : Holding) × (after ≡ Some held') × Stores held file held'
Finishes (Some held) (Some file) after (Err _) =
    (held' : Holding) × (after ≡ Some held') × MayStore held file held'
