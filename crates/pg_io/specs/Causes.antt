-- Numbers of faults: when a call may raise them.
use Rattle.std.specs.Prelude.{◌≡◌, ◌⊎◌, ℕ, ◌+◌, ◌-◌, ◌^◌, ◌≤◌, min, OnOk, OnErr, Result}

-- how many calls that read have failed, and how many that write, each up to the last value of its
-- counter
pub record Faults : Type 0 where
  pub reads : ℕ
  pub writes : ℕ

abbrev pub faults : ℕ → ℕ → Faults
faults reads writes = record { reads = reads; writes = writes }

-- the number rose, or stands at the last value of a counter of 64 bits
abbrev pub Rose : ℕ → ℕ → Type 0
Rose before now = min (before + 1) (2 ^ 64 - 1) ≤ now

-- neither number fell
pub record IsLater (before now : Faults) : Type 0 where
  pub reads : before.reads ≤ now.reads
  pub writes : before.writes ≤ now.writes

-- a call that reads: an Ok leaves both numbers, an Err raises that of reads, and neither ever falls
pub record BlamesReads {T E : Type 0} (before now : Faults) (result : Result T E) : Type 0 where
  pub same : OnOk result (now ≡ before)
  pub rose : OnErr result (Rose before.reads now.reads)
  pub later : IsLater before now

-- a call that writes: an Ok leaves both numbers, an Err raises that of writes, and neither ever
-- falls
pub record BlamesWrites {T E : Type 0} (before now : Faults) (result : Result T E) : Type 0 where
  pub same : OnOk result (now ≡ before)
  pub rose : OnErr result (Rose before.writes now.writes)
  pub later : IsLater before now

-- an open: an Ok leaves both numbers, and so does an Err that has this other cause; any other Err
-- raises that of reads
pub record BlamesOpen {T E : Type 0} (absent : Type 0) (before now : Faults)
    (result : Result T E) : Type 0 where
  pub same : OnOk result (now ≡ before)
  pub cause : OnErr result (Rose before.reads now.reads ⊎ (absent × (now ≡ before)))
  pub known : absent → now ≡ before
  pub later : IsLater before now
